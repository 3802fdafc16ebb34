-- The items byte by byte are the items by lines and tokens.
use Rattle.std.proofs.Common.{◌≡◌, ℕ, zero, suc, ◌+◌, ◌-◌, ◌<◌, ◌≤◌, Bool, true, false, List, [], ◌∷◌, ◌++◌, length, take, refl, sym, ◌∙◌}
use Rattle.std.proofs.Common.{ap, arith, append_assoc, append-nil, ◌⊎◌, inl, inr}
use Rattle.std.proofs.lemmas.List.{map-append}
use Rattle.std.proofs.lemmas.List.Sums.{sum_by-cons}
use Rattle.std.specs.Prelude.{◌==◌, ◌||◌, nat_lt, nat_le, map, if◌then◌else◌}
use Rattle.std.specs.List.{filter, flat_map, list_any}
use Rattle.cnf_base.specs.Text.{Word, Row, is_blank, is_line_end, has_bytes, pieces, begin_with, words_of, begins_with, row_of, rows_from}
use Rattle.cnf_base.specs.Text.{words_of_row, tokens, line_ends, end_line}
use Rattle.text_scan.specs.declared.lexer.LexerMode.{LexerMode}
use Rattle.text_scan.specs.declared.lexer.LexerMode.TheVariants.{LineStart, Comment, Words}
use Rattle.text_scan.specs.Items.{Items, the_end, too_long, words_then, kept, ended_part, items_of_front, items}
use Rattle.text_scan.specs.Lexer.{Lex, lex_start, items_from, front_from, after, word_with, given_at, word_then}

-- Where in a line the next byte stands; of a token that has begun all its bytes.
data Place : Type 0 where
  at_start : Place
  in_comment : Place
  in_line : List ℕ → Place

abbrev lex_of : ℕ → Place → ℕ → Lex
lex_of comment at_start line = record { comment = comment; mode = LineStart; line = line; word = [] }
lex_of comment in_comment line = record { comment = comment; mode = Comment; line = line; word = [] }
lex_of comment (in_line word) line = record { comment = comment; mode = Words; line = line; word = take 65 word }

-- the token that has begun
abbrev open_word : Place → List (List ℕ)
open_word at_start = []
open_word in_comment = []
open_word (in_line []) = []
open_word (in_line (byte ∷ bytes)) = (byte ∷ bytes) ∷ []

-- the place after a blank, and after another byte
abbrev closed : Place → Place
closed at_start = at_start
closed in_comment = in_comment
closed (in_line word) = in_line []

abbrev letter : ℕ → Place → ℕ → Place
letter comment at_start byte = if byte == comment then in_comment else in_line (byte ∷ [])
letter comment in_comment byte = in_comment
letter comment (in_line word) byte = in_line (word ++ byte ∷ [])

-- the words of a line, unless it is a comment
abbrev uncommented : ℕ → List (List ℕ) → List (List ℕ)
uncommented comment [] = []
uncommented comment (word ∷ words) = if begins_with comment word then [] else word ∷ words

abbrev append_first : List ℕ → List (List ℕ) → List (List ℕ)
append_first word [] = word ∷ []
append_first word (piece ∷ more) = (word ++ piece) ∷ more

-- the words of a line from this place on, whose rest has these pieces between blanks
abbrev line_words : ℕ → Place → List (List ℕ) → List (List ℕ)
line_words comment at_start rest = uncommented comment (filter has_bytes rest)
line_words comment in_comment rest = []
line_words comment (in_line word) rest = filter has_bytes (append_first word rest)

abbrev word_at : ℕ → List ℕ → Word
word_at line bytes = record { bytes = bytes; line = line }

-- the words of a text from this place on, whose rest has these lines
abbrev text_words : ℕ → Place → ℕ → List (List ℕ) → List Word
text_words comment place line [] = map (word_at line) (line_words comment place ([] ∷ []))
text_words comment place line (rest ∷ texts) = map (word_at line) (line_words comment place (pieces is_blank rest))
    ++ flat_map words_of_row (rows_from comment (line + 1) texts)

-- what is spelled from this place on
abbrev spelled : ℕ → Place → ℕ → List ℕ → List Word
spelled comment place line bytes = text_words comment place line (pieces is_line_end bytes)

-- from the start of a line these are the words of its rows
rows_start : (comment line : ℕ) (words : List (List ℕ)) (rows : List Row) → flat_map words_of_row (row_of comment line words ++ rows)
    ≡ map (word_at line) (uncommented comment words) ++ flat_map words_of_row rows
rows_start comment line [] rows = refl
rows_start comment line (word ∷ words) rows =
    elim (begins_with comment word) as (λ b. flat_map words_of_row ((if b then [] else record { line = line; words = word ∷ words } ∷ [])
    ++ rows)
    ≡ map (word_at line) (if b then [] else word ∷ words) ++ flat_map words_of_row rows) [ true ↦ refl | false ↦ refl ]

text_start : (comment line : ℕ) (bytes : List ℕ) → flat_map words_of_row (rows_from comment line (pieces is_line_end bytes))
    ≡ spelled comment at_start line bytes
text_start comment line bytes = elim (pieces is_line_end bytes) as (λ texts. flat_map words_of_row (rows_from comment line texts)
    ≡ text_words comment at_start line texts) [
      | [] ↦ refl
      | text ∷ texts ↦ rows_start comment line (words_of text) (rows_from comment (line + 1) texts)
    ]

-- a blank ends the token
line_blank : (comment : ℕ) (place : Place) (rest : List (List ℕ)) → line_words comment place ([] ∷ rest) ≡ open_word place
    ++ line_words comment (closed place) rest
line_blank comment at_start rest = refl
line_blank comment in_comment rest = refl
line_blank comment (in_line []) [] = refl
line_blank comment (in_line []) (piece ∷ more) = refl
line_blank comment (in_line (byte ∷ bytes)) [] = rw (append-nil bytes) refl
line_blank comment (in_line (byte ∷ bytes)) (piece ∷ more) = rw (append-nil bytes) refl

line_letter : (comment : ℕ) (place : Place) (byte : ℕ) (rest : List (List ℕ)) → line_words comment place (begin_with byte rest)
    ≡ line_words comment (letter comment place byte) rest
line_letter comment at_start byte [] = elim (byte == comment) as (λ b. (if b then [] else (byte ∷ []) ∷ [])
    ≡ line_words comment (if b then in_comment else in_line (byte ∷ [])) []) [ true ↦ refl | false ↦ refl ]
line_letter comment at_start byte (piece ∷ more) = elim (byte == comment) as
    (λ b. (if b then [] else (byte ∷ piece) ∷ filter has_bytes more)
    ≡ line_words comment (if b then in_comment else in_line (byte ∷ [])) (piece ∷ more)) [ true ↦ refl | false ↦ refl ]
line_letter comment in_comment byte rest = refl
line_letter comment (in_line word) byte [] = refl
line_letter comment (in_line word) byte (piece ∷ more) = rw (append_assoc word (byte ∷ []) piece) refl

no_words : (comment : ℕ) (place : Place) → line_words comment (closed place) [] ≡ []
no_words comment at_start = refl
no_words comment in_comment = refl
no_words comment (in_line word) = refl

-- what is spelled, one byte on
spelled-newline : (comment : ℕ) (place : Place) (line byte : ℕ) (bytes : List ℕ) → is_line_end byte ≡ true →
    spelled comment place line (byte ∷ bytes) ≡ map (word_at line) (open_word place) ++ spelled comment at_start (line + 1) bytes
spelled-newline comment place line byte bytes ends =
    rw (ends, ← text_start comment (line + 1) bytes, line_blank comment place [], no_words comment place, append-nil (open_word place)) refl

text_blank : (comment : ℕ) (place : Place) (line byte : ℕ) (texts : List (List ℕ)) → is_blank byte ≡ true →
    text_words comment place line (begin_with byte texts) ≡ map (word_at line) (open_word place)
    ++ text_words comment (closed place) line texts
text_blank comment place line byte [] blank =
    rw (
      blank,
      line_blank comment place ([] ∷ []),
      map-append (word_at line) (open_word place)
          (line_words comment (closed place) ([] ∷ [])),
    )
    (append-nil (map (word_at line) (open_word place) ++ map (word_at line) (line_words comment (closed place) ([] ∷ []))))
text_blank comment place line byte (text ∷ texts) blank =
    rw (
      blank,
      line_blank comment place (pieces is_blank text),
      map-append (word_at line) (open_word place)
          (line_words comment (closed place) (pieces is_blank text)),
    )
    (append_assoc (map (word_at line) (open_word place)) (map (word_at line) (line_words comment (closed place) (pieces is_blank text)))
    (flat_map words_of_row (rows_from comment (line + 1) texts)))

text_letter : (comment : ℕ) (place : Place) (line byte : ℕ) (texts : List (List ℕ)) → is_blank byte ≡ false →
    text_words comment place line (begin_with byte texts) ≡ text_words comment (letter comment place byte) line texts
text_letter comment place line byte [] other =
    rw (other) (append-nil (map (word_at line) (line_words comment place (begin_with byte ([] ∷ []))))
    ∙ ap (map (word_at line)) (line_letter comment place byte ([] ∷ [])))
text_letter comment place line byte (text ∷ texts) other =
    rw (other) (ap (λ words. map (word_at line) words ++ flat_map words_of_row (rows_from comment (line + 1) texts))
    (line_letter comment place byte (pieces is_blank text)))

-- one more byte on a line
spelled-same_line : (comment : ℕ) (place : Place) (line byte : ℕ) (bytes : List ℕ) → is_line_end byte ≡ false →
    spelled comment place line (byte ∷ bytes) ≡ text_words comment place line (begin_with byte (pieces is_line_end bytes))
spelled-same_line comment place line byte bytes inside = rw inside refl

-- the items of all these bytes, and of what then comes
abbrev run : Lex → List ℕ → (Lex → Items) → Items
run lex [] last = last lex
run lex (byte ∷ bytes) last = given_at lex byte (run (after lex byte) bytes last)

abbrev at_end : Lex → Items
at_end lex = word_then lex.word lex.line (the_end lex.line)

abbrev over : Lex → Items
over lex = too_long lex.line

or_true : (b : Bool) → (b || true) ≡ true
or_true true = refl
or_true false = refl

pub blank_end : (byte : ℕ) → is_line_end byte ≡ true → is_blank byte ≡ true
blank_end byte ends = rw ends (or_true (byte == 32 || byte == 9 || byte == 13))

-- the kinds of a byte
kind_of : (byte : ℕ) → (is_line_end byte ≡ true) × (is_blank byte ≡ true) ⊎ (is_line_end byte ≡ false) × (is_blank byte ≡ true)
    ⊎ (is_line_end byte ≡ false) × (is_blank byte ≡ false)
kind_of byte =
    elim (is_line_end byte) as (λ e. is_line_end byte ≡ e → (is_line_end byte ≡ true) × (is_blank byte ≡ true) ⊎ (is_line_end byte ≡ false)
    × (is_blank byte ≡ true) ⊎ (is_line_end byte ≡ false) × (is_blank byte ≡ false)) [
      | true ↦ λ ends. inl (ends, blank_end byte ends)
      | false ↦ λ inside. elim (is_blank byte) as (λ e. is_blank byte ≡ e → (is_line_end byte ≡ true) × (is_blank byte ≡ true)
          ⊎ (is_line_end byte ≡ false) × (is_blank byte ≡ true) ⊎ (is_line_end byte ≡ false) × (is_blank byte ≡ false)) [
            | true ↦ λ blank. inr (inl (inside, blank))
            | false ↦ λ other. inr (inr (inside, other))
          ] refl
    ] refl

after-newline : (comment : ℕ) (place : Place) (line byte : ℕ) → is_line_end byte ≡ true → after (lex_of comment place line) byte
    ≡ lex_of comment at_start (line + 1)
after-newline comment at_start line byte ends = rw ends refl
after-newline comment in_comment line byte ends = rw ends refl
after-newline comment (in_line word) line byte ends = rw ends refl

after-blank : (comment : ℕ) (place : Place) (line byte : ℕ) → is_line_end byte ≡ false → is_blank byte ≡ true
    → after (lex_of comment place line) byte ≡ lex_of comment (closed place) line
after-blank comment at_start line byte inside blank = rw (blank, inside) refl
after-blank comment in_comment line byte inside blank = rw (blank, inside) refl
after-blank comment (in_line word) line byte inside blank = rw (blank, inside) refl

behind : (b : Bool) (x : ℕ) (xs ys : List ℕ) → (if b then x ∷ xs else x ∷ ys) ≡ x ∷ (if b then xs else ys)
behind true x xs ys = refl
behind false x xs ys = refl

-- the first 65 bytes of a token, with one more
pub word_with-take : (n : ℕ) (word : List ℕ) (byte : ℕ) → (if nat_lt (length (take n word)) n then take n word ++ byte
    ∷ [] else take n word) ≡ take n (word ++ byte ∷ [])
word_with-take zero word byte = refl
word_with-take (suc zero) [] byte = refl
word_with-take (suc (suc n)) [] byte = let e : nat_lt 0 (suc (suc n)) ≡ true = grind arith in rw e refl
word_with-take (suc n) (x ∷ xs) byte =
    let e : nat_lt (suc (length (take n xs))) (suc n) ≡ nat_lt (length (take n xs)) n = grind arith in
    rw e (behind (nat_lt (length (take n xs)) n) x (take n xs ++ byte ∷ []) (take n xs)) ∙ ap (λ l. x ∷ l) (word_with-take n xs byte)

abbrev mode_if : Bool → LexerMode
mode_if b = if b then Comment else Words

after-letter : (comment : ℕ) (place : Place) (line byte : ℕ) → is_line_end byte ≡ false → is_blank byte ≡ false
    → after (lex_of comment place line) byte ≡ lex_of comment (letter comment place byte) line
after-letter comment at_start line byte inside other = rw (other, inside)
    (elim (byte == comment) as (λ b. (record { comment = comment; mode = mode_if b; line = line; word = word_with (mode_if b) [] byte })
    ≡ lex_of comment (if b then in_comment else in_line (byte ∷ [])) line) [ true ↦ refl | false ↦ refl ])
after-letter comment in_comment line byte inside other = rw (other, inside) refl
after-letter comment (in_line word) line byte inside other = rw (other, inside)
    (ap (λ bytes. record { comment = comment; mode = Words; line = line; word = bytes }) (word_with-take 65 word byte))

-- the token that has begun, and what is spelled after it
words_then-open : (place : Place) (comment line : ℕ) (words : List Word) (last : Items) →
    words_then (map kept (map (word_at line) (open_word place) ++ words)) last
    ≡ word_then (lex_of comment place line).word (lex_of comment place line).line (words_then (map kept words) last)
words_then-open at_start comment line words last = refl
words_then-open in_comment comment line words last = refl
words_then-open (in_line []) comment line words last = refl
words_then-open (in_line (byte ∷ bytes)) comment line words last = refl

same_comment : (comment : ℕ) (place : Place) (line : ℕ) → (lex_of comment place line).line ≡ line
same_comment comment at_start line = refl
same_comment comment in_comment line = refl
same_comment comment (in_line word) line = refl

line_ends-cons : (byte : ℕ) (bytes : List ℕ) → line_ends (byte ∷ bytes) ≡ (if is_line_end byte then 1 else 0) + line_ends bytes
line_ends-cons byte bytes = sum_by-cons (λ x. if is_line_end x then 1 else 0) byte bytes

none_closed : (comment : ℕ) (place : Place) (line : ℕ) → spelled comment (closed place) line [] ≡ []
none_closed comment at_start line = refl
none_closed comment in_comment line = refl
none_closed comment (in_line word) line = refl

no_both : (byte : ℕ) → is_blank byte ≡ true → is_blank byte ≡ false → ⊥
no_both byte blank other = cc

-- one byte of a text: the token that it ends, and what is spelled from the place after it
record Step (comment : ℕ) (place : Place) (line byte : ℕ) : Type 0 where
  next : Place
  next_line : ℕ
  after_is : after (lex_of comment place line) byte ≡ lex_of comment next next_line
  lines : (bytes : List ℕ) → next_line + line_ends bytes ≡ line + line_ends (byte ∷ bytes)
  words : (bytes : List ℕ) (last : Items) → words_then (map kept (spelled comment place line (byte ∷ bytes))) last
      ≡ given_at (lex_of comment place line) byte (words_then (map kept (spelled comment next next_line bytes)) last)
  none : is_blank byte ≡ true → spelled comment next next_line [] ≡ []

step_of : (comment : ℕ) (place : Place) (line byte : ℕ) → Step comment place line byte
step_of comment place line byte = elim (kind_of byte) [
  | inl ends ↦ record {
    next = at_start;
    next_line = line + 1;
    after_is = after-newline comment place line byte ends.0;
    lines = λ bytes. (let e = line_ends-cons byte bytes in rw e (rw (ends.0) (omega arith)));
    words = λ bytes last. rw (spelled-newline comment place line byte bytes ends.0, ends.1)
        (words_then-open place comment line (spelled comment at_start (line + 1) bytes) last);
    none = λ _. refl;
  }
  | inr (inl inside) ↦ record {
    next = closed place;
    next_line = line;
    after_is = after-blank comment place line byte inside.0 inside.1;
    lines = λ bytes. (let e = line_ends-cons byte bytes in rw e (rw (inside.0) (omega arith)));
    words = λ bytes last. rw (
      spelled-same_line comment place line byte bytes inside.0,
      text_blank comment place line byte (pieces is_line_end bytes) inside.1,
      inside.1,
    )
        (words_then-open place comment line (spelled comment (closed place) line bytes) last);
    none = λ _. none_closed comment place line;
  }
  | inr (inr inside) ↦ record {
    next = letter comment place byte;
    next_line = line;
    after_is = after-letter comment place line byte inside.0 inside.1;
    lines = λ bytes. (let e = line_ends-cons byte bytes in rw e (rw (inside.0) (omega arith)));
    words = λ bytes last. rw (
      spelled-same_line comment place line byte bytes inside.0,
      text_letter comment place line byte (pieces is_line_end bytes) inside.1,
      inside.1,
    ) refl;
    none = λ blank. absurd (no_both byte blank inside.1);
  }
]

-- A whole text
run_all : (comment : ℕ) (bytes : List ℕ) (place : Place) (line : ℕ) → run (lex_of comment place line) bytes at_end
    ≡ words_then (map kept (spelled comment place line bytes)) (the_end (line + line_ends bytes))
run_all comment [] place line =
    let e : line + 0 ≡ line = omega arith in
    rw (e, line_blank comment place [], no_words comment place, append-nil (open_word place))
    (ap (λ n. word_then (lex_of comment place line).word (lex_of comment place line).line (the_end n)) (same_comment comment place line)
    ∙ sym (words_then-open place comment line [] (the_end line)))
run_all comment (byte ∷ bytes) place line =
    let step = step_of comment place line byte in
    rw (step.after_is) (ap (given_at (lex_of comment place line) byte) (run_all comment bytes step.next step.next_line)
    ∙ rw (step.lines bytes) (sym (step.words bytes (the_end (line + line_ends (byte ∷ bytes))))))

abbrev ended_words : ℕ → Place → ℕ → List ℕ → List Word
ended_words comment place line bytes = if list_any is_blank bytes then spelled comment place line (ended_part bytes) else []

ended_part-none : (bytes : List ℕ) → list_any is_blank bytes ≡ false → ended_part bytes ≡ []
ended_part-none [] none = refl
ended_part-none (byte ∷ bytes) none = rw none refl

ended_step : (comment : ℕ) (bytes : List ℕ) (place : Place) (line byte : ℕ) (last : Items) → let step = step_of comment place line byte in
    given_at (lex_of comment place line) byte (words_then (map kept (ended_words comment step.next step.next_line bytes)) last)
    ≡ words_then (map kept (ended_words comment place line (byte ∷ bytes))) last
ended_step comment bytes place line byte last = let step = step_of comment place line byte in
    elim (list_any is_blank bytes) as (λ b. list_any is_blank bytes ≡ b →
    given_at (lex_of comment place line) byte (words_then (map kept (ended_words comment step.next step.next_line bytes)) last)
    ≡ words_then (map kept (ended_words comment place line (byte ∷ bytes))) last) [
      | true ↦ λ some. rw (some, or_true (is_blank byte)) (sym (step.words (ended_part bytes) last))
      | false ↦ λ none. elim (is_blank byte) as (λ b. is_blank byte ≡ b →
          given_at (lex_of comment place line) byte (words_then (map kept (ended_words comment step.next step.next_line bytes)) last)
          ≡ words_then (map kept (ended_words comment place line (byte ∷ bytes))) last) [
            | true ↦ λ blank. let f : (is_blank byte || false) ≡ true = rw blank refl in
                rw (none, ended_part-none bytes none, f) (sym (step.words [] last ∙ rw (step.none blank) refl))
            | false ↦ λ other. let f : (is_blank byte || false) ≡ false = rw other refl in
                rw (none, ended_part-none bytes none, f, other) refl
          ] refl
    ] refl

run_over : (comment : ℕ) (bytes : List ℕ) (place : Place) (line : ℕ) → run (lex_of comment place line) bytes over
    ≡ words_then (map kept (ended_words comment place line bytes)) (too_long (line + line_ends bytes))
run_over comment [] place line = let e : line ≡ line + 0 = omega arith in ap too_long (same_comment comment place line ∙ e)
run_over comment (byte ∷ bytes) place line =
    let step = step_of comment place line byte in
    rw (step.after_is) (ap (given_at (lex_of comment place line) byte) (run_over comment bytes step.next step.next_line)
    ∙ rw (step.lines bytes) (ended_step comment bytes place line byte (too_long (line + line_ends (byte ∷ bytes)))))

from_run : (bytes : List ℕ) (lex : Lex) (room : ℕ) → length bytes ≤ room → items_from lex room bytes ≡ run lex bytes at_end
from_run [] lex room fits = refl
from_run (byte ∷ bytes) lex zero fits = absurd (omega arith)
from_run (byte ∷ bytes) lex (suc room) fits =
    let e : (suc room == 0) ≡ false = grind arith in
    let f : suc room - 1 ≡ room = omega arith in
    rw (e, f) (ap (given_at lex byte) (from_run bytes (after lex byte) room (omega arith)))

from_run_over : (bytes : List ℕ) (lex : Lex) (room : ℕ) → room < length bytes → items_from lex room bytes ≡ run lex (take room bytes) over
from_run_over [] lex room longer = absurd (omega arith)
from_run_over (byte ∷ bytes) lex zero longer = refl
from_run_over (byte ∷ bytes) lex (suc room) longer =
    let e : (suc room == 0) ≡ false = grind arith in
    let f : suc room - 1 ≡ room = omega arith in
    rw (e, f) (ap (given_at lex byte) (from_run_over bytes (after lex byte) room (omega arith)))

ended_words_start : (comment : ℕ) (bytes : List ℕ) → ended_words comment at_start 1 bytes ≡ tokens comment (ended_part bytes)
ended_words_start comment bytes = elim (list_any is_blank bytes) as (λ b. list_any is_blank bytes ≡ b → ended_words comment at_start 1 bytes
    ≡ tokens comment (ended_part bytes)) [
      | true ↦ λ some. rw (some) (sym (text_start comment 1 (ended_part bytes)))
      | false ↦ λ none. rw (none, ended_part-none bytes none) refl
    ] refl

front_run : (bytes : List ℕ) (lex : Lex) → front_from lex bytes ≡ run lex bytes over
front_run [] lex = refl
front_run (byte ∷ bytes) lex = ap (given_at lex byte) (front_run bytes (after lex byte))

pub front_from-start : (comment : ℕ) (bytes : List ℕ) → front_from (lex_start comment) bytes ≡ items_of_front comment bytes
front_from-start comment bytes =
    let e : (n : ℕ) → 1 + n ≡ n + 1 = λ n. omega arith in
    front_run bytes (lex_start comment) ∙ run_over comment bytes at_start 1 ∙ rw (e (line_ends bytes), ended_words_start comment bytes) refl

pub items_from-start : (comment limit : ℕ) (bytes : List ℕ) → items_from (lex_start comment) limit bytes ≡ items comment limit bytes
items_from-start comment limit bytes =
    let e : (n : ℕ) → 1 + n ≡ n + 1 = λ n. omega arith in
    elim (nat_le (length bytes) limit) as (λ b. nat_le (length bytes) limit ≡ b → items_from (lex_start comment) limit bytes ≡
    (if b then words_then (map kept (tokens comment bytes)) (the_end (end_line bytes)) else words_then
    (map kept (tokens comment (ended_part (take limit bytes)))) (too_long (end_line (take limit bytes))))) [
      | true ↦ λ fits. from_run bytes (lex_start comment) limit (grind arith) ∙ run_all comment bytes at_start 1
          ∙ rw (e (line_ends bytes), text_start comment 1 bytes) refl
      | false ↦ λ longer. from_run_over bytes (lex_start comment) limit (grind arith) ∙ run_over comment (take limit bytes) at_start 1
          ∙ rw (e (line_ends (take limit bytes)), ended_words_start comment (take limit bytes)) refl
    ] refl
