-- What the lines of a model are from one word on.
use Rattle.std.proofs.Common.{◌≡◌, ℕ, ◌+◌, ◌<◌, ◌≤◌, ◌∷◌, ◌++◌, Bool, true, false, List, drop, length, get_or, refl, sym, ◌∙◌, ap, add-one}
use Rattle.std.proofs.Common.{append_assoc, drop-cons, rules}
use Rattle.std.specs.Prelude.{decimal, codes}
use Rattle.std.proofs.lemmas.List.{drop_all}
use Rattle.answer_text.specs.Model.{literal, max_width, words_from, has_room, separator, width_behind, wrapped}
use Rattle.answer_text.specs.Status.{unknown_line, not_verified_line, board_line, cube_line, kept_line, last_line}

-- whether the line has room
room : (width : ℕ) (word : List ℕ) → width + 1 + length word ≤ max_width → has_room width word ≡ true
room width word fits = search rules

no_room : (width : ℕ) (word : List ℕ) → max_width < width + 1 + length word → has_room width word ≡ false
no_room width word long = search rules

-- the word behind what stands before it
pub space_before : (width : ℕ) (word : List ℕ) → width + 1 + length word ≤ max_width → separator width word ++ word ≡ codes " " ++ word
space_before width word fits = rw (room width word fits) refl

pub line_before : (width : ℕ) (word : List ℕ) → max_width < width + 1 + length word → separator width word ++ word ≡ codes "\nv " ++ word
line_before width word long = rw (no_room width word long) refl

rest_of : (i : ℕ) (values : List Bool) (d : Bool) → i < length values → drop i values ≡ get_or values i d ∷ drop (i + 1) values
rest_of i values d below = drop-cons values i d below ∙ ap (λ (n : ℕ). get_or values i d ∷ drop n values) (sym (add-one i))

-- the text from the value of this index on
pub next_word : (width i behind : ℕ) (values : List Bool) (d : Bool) → i < length values → behind
    ≡ width_behind width (literal (i + 1) (get_or values i d))
    → wrapped width (words_from (i + 1) (drop i values))
    ≡ (separator width (literal (i + 1) (get_or values i d)) ++ literal (i + 1) (get_or values i d))
    ++ wrapped behind (words_from (i + 1 + 1) (drop (i + 1) values))
next_word width i behind values d below is =
    let word : List ℕ = literal (i + 1) (get_or values i d) in
    ap (λ (l : List Bool). wrapped width (words_from (i + 1) l)) (rest_of i values d below)
    ∙ ap (λ (n : ℕ). (separator width word ++ word) ++ wrapped n (words_from (i + 1 + 1) (drop (i + 1) values))) (sym is)

-- the text behind the last value
pub last_word : (width i : ℕ) (values : List Bool) → length values ≤ i → wrapped width (words_from (i + 1) (drop i values))
    ≡ (separator width (codes "0") ++ codes "0") ++ codes "\n"
last_word width i values past = ap (λ (l : List Bool). wrapped width (words_from (i + 1) l)) (drop_all i values past)

-- the line of a limit, and the line behind it
pub limit_lines : (limit : List ℕ) (n : ℕ) → limit ++ (decimal n ++ codes " reached\ns UNKNOWN\n") ≡ limit ++ decimal n
    ++ codes " reached\n" ++ unknown_line
limit_lines limit n = simp append_assoc

-- the line of a refusal, and the line behind it
pub refused_lines : (line : ℕ) (name : List ℕ) → codes "c line " ++ decimal line ++ codes " " ++ name ++ codes "\n" ++ not_verified_line
    ≡ codes "c line " ++ (decimal line ++ (codes " " ++ (name ++ codes "\ns NOT VERIFIED\n")))
refused_lines line name = simp append_assoc

-- the words of a board's line, each with its number
abbrev pub count : List ℕ → ℕ → List ℕ
count words n = words ++ decimal n

pub board_parts : (size variables clauses : ℕ) → board_line size variables clauses
    ≡ count (codes "c board ") size ++ (count (codes " variables ") variables ++ (count (codes " clauses ") clauses ++ codes "\n"))
board_parts size variables clauses = simp append_assoc

pub kept_parts : (kept total : ℕ) → kept_line kept total ≡ count (codes "c kept ") kept ++ (count (codes " of ") total ++ codes "\n")
kept_parts kept total = simp append_assoc

pub last_parts : (id : ℕ) → last_line id ≡ count (codes "c last identifier ") id ++ codes "\n"
last_parts id = simp append_assoc

pub cube_parts : (number : ℕ) → cube_line number ≡ count (codes "c cube ") number ++ codes "\n"
cube_parts number = simp append_assoc
