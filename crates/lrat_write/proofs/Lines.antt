-- The parts of a line make the line of its step.
use Rattle.std.proofs.Common.{◌≡◌, ℕ, true, List, [], ◌∷◌, ◌++◌, length, refl, sym, ◌∙◌, ap, append_assoc, arith, eqb-true}
use Rattle.std.specs.Prelude.{zero, suc, Bool, map, ℤ, pos, neg_ℤ, decimal, nat_lt, ◌==◌}
use Rattle.std.specs.Fmt.{signed_decimal}
use Rattle.std.specs.List.{flat_map, join_with_byte, list_all}
use Rattle.std.proofs.lemmas.Bool.{and_parts, lt-ltb}
use Rattle.std.proofs.lemmas.List.{append-nil}
use Rattle.std.proofs.lemmas.Grind.{flat_map-append}
use Rattle.cnf_base.specs.declared.step.Step.TheVariants.{Add, Delete}
use Rattle.cnf_base.specs.ProofText.{line_of_step, is_id, group_numbers}
use Rattle.cnf_base.specs.declared.list.Group.{Group}
use Rattle.host_io.proofs.Emitting.{from_second, from_second-4}
use Rattle.lrat_write.specs.LineText.{led_number, literals_text, ids_text, line_text, deletion_text, bare_groups, group_text, hints_text}
use Rattle.lrat_write.specs.LineText.{addition_text}

abbrev spaced : List ℕ → List ℕ
spaced word = 32 ∷ word

-- words in a row with a space between two are the first, and each further one behind a space
join-spaced : (word : List ℕ) (words : List (List ℕ)) → join_with_byte 32 (word ∷ words) ≡ word ++ flat_map spaced words
join-spaced word [] = sym (append-nil word)
join-spaced word (next ∷ words) = ap (λ (l : List ℕ). word ++ (32 ∷ l)) (join-spaced next words)

flat_map-map : {X Y : Type 0} (f : Y → List ℕ) (g : X → Y) (xs : List X) → flat_map f (map g xs) ≡ flat_map (λ x. f (g x)) xs
flat_map-map f g [] = refl
flat_map-map f g (x ∷ xs) = ap (λ (l : List ℕ). f (g x) ++ l) (flat_map-map f g xs)

-- numbers behind a space are the words of a line
text-words : (id : ℕ) (clause : List ℤ) (text : List ℕ) (numbers : List ℤ) → flat_map spaced (map signed_decimal numbers) ≡ text
    → decimal id ++ literals_text clause ++ 32 ∷ 48 ∷ [] ++ text ++ 32 ∷ 48 ∷ 10 ∷ []
    ≡ join_with_byte 32 (decimal id ∷ map signed_decimal clause ++ (48 ∷ []) ∷ map signed_decimal numbers ++ (48 ∷ []) ∷ []) ++ 10 ∷ []
text-words id clause text numbers is =
    let zero_word : List (List ℕ) = (48 ∷ []) ∷ [] in
    let clause_text : flat_map spaced (map signed_decimal clause) ≡ literals_text clause = flat_map-map spaced signed_decimal clause in
    let words : flat_map spaced ((map signed_decimal clause ++ (48 ∷ []) ∷ map signed_decimal numbers) ++ zero_word)
    ≡ (literals_text clause ++ (32 ∷ 48 ∷ text)) ++ (32 ∷ 48 ∷ []) =
    flat_map-append spaced (map signed_decimal clause ++ (48 ∷ []) ∷ map signed_decimal numbers) zero_word
    ∙ ap (λ (l : List ℕ). l ++ (32 ∷ 48 ∷ [])) (
    flat_map-append spaced (map signed_decimal clause) ((48 ∷ []) ∷ map signed_decimal numbers)
    ∙ (λ i. clause_text i ++ (32 ∷ 48 ∷ is i))) in
    let left : decimal id ++ literals_text clause ++ 32 ∷ 48 ∷ [] ++ text ++ 32 ∷ 48 ∷ 10 ∷ [] ≡ decimal id ++ (literals_text clause
    ++ (32 ∷ 48 ∷ (text ++ (32 ∷ 48 ∷ 10 ∷ [])))) =
    from_second (decimal id) (literals_text clause) (32 ∷ 48 ∷ []) text (32 ∷ 48 ∷ 10 ∷ []) in
    let right : join_with_byte 32 (decimal id ∷ map signed_decimal clause ++ (48 ∷ []) ∷ map signed_decimal numbers ++ zero_word) ++ 10 ∷ []
    ≡ decimal id ++ (literals_text clause ++ (32 ∷ 48 ∷ (text ++ (32 ∷ 48 ∷ 10 ∷ [])))) =
    ap (λ (l : List ℕ). l ++ 10 ∷ []) (join-spaced (decimal id) ((map signed_decimal clause ++ (48 ∷ []) ∷ map signed_decimal numbers)
    ++ zero_word) ∙ ap (λ (l : List ℕ). decimal id ++ l) words)
    ∙ append_assoc (decimal id) ((literals_text clause ++ (32 ∷ 48 ∷ text)) ++ (32 ∷ 48 ∷ [])) (10 ∷ [])
    ∙ ap (λ (l : List ℕ). decimal id ++ l) (append_assoc (literals_text clause ++ (32 ∷ 48 ∷ text)) (32 ∷ 48 ∷ []) (10 ∷ [])
    ∙ append_assoc (literals_text clause) (32 ∷ 48 ∷ text) (32 ∷ 48 ∷ 10 ∷ [])) in
    left ∙ sym right

positive_text : (hints : List ℕ) → flat_map spaced (map signed_decimal (map pos hints ++ [])) ≡ ids_text (32 ∷ []) hints
positive_text hints =
    ap (λ (l : List ℤ). flat_map spaced (map signed_decimal l)) (append-nil (map pos hints))
    ∙ flat_map-map spaced signed_decimal (map pos hints)
    ∙ flat_map-map (λ (z : ℤ). spaced (signed_decimal z)) pos hints

pub line_text-add : (id : ℕ) (clause : List ℤ) (hints : List ℕ) → line_text id clause (32 ∷ []) hints
    ≡ line_of_step (Add id clause hints [])
line_text-add id clause hints = text-words id clause (ids_text (32 ∷ []) hints) (map pos hints ++ []) (positive_text hints)

-- the negation of a number that isn't 0 is written with a minus sign
signed_decimal-neg : (n : ℕ) → is_id n ≡ true → signed_decimal (neg_ℤ (pos n)) ≡ 45 ∷ decimal n
signed_decimal-neg zero h = cc
signed_decimal-neg (suc n) h = refl

candidates_text : (candidates : List ℕ) → list_all is_id candidates ≡ true
    → flat_map spaced (map signed_decimal (flat_map group_numbers (bare_groups candidates))) ≡ ids_text (32 ∷ 45 ∷ []) candidates
candidates_text [] h = refl
candidates_text (candidate ∷ candidates) h =
    let parts = and_parts (is_id candidate) (list_all is_id candidates) h in
    λ i. 32 ∷ signed_decimal-neg candidate parts.0 i ++ candidates_text candidates parts.1 i

pub line_text-define : (id : ℕ) (clause : List ℤ) (candidates : List ℕ) → list_all is_id candidates ≡ true
    → line_text id clause (32 ∷ 45 ∷ []) candidates ≡ line_of_step (Add id clause [] (bare_groups candidates))
line_text-define id clause candidates h =
    text-words id clause (ids_text (32 ∷ 45 ∷ []) candidates) (flat_map group_numbers (bare_groups candidates)) (candidates_text candidates h)

-- the number of a candidate with its sign
candidate_text : (n : ℕ) → spaced (signed_decimal (neg_ℤ (pos n))) ≡ led_number (nat_lt 0 n) n
candidate_text zero = refl
candidate_text (suc n) = sym (ap (λ (minus : Bool). led_number minus (suc n)) (lt-ltb 0 (suc n) (omega arith)))

abbrev signed_spaced : ℤ → List ℕ
signed_spaced number = spaced (signed_decimal number)

group-words : (group : Group) → flat_map signed_spaced (group_numbers group) ≡ group_text group
group-words group = λ i. candidate_text group.id i ++ flat_map-map signed_spaced pos group.hints i

groups-words : (groups : List Group) → flat_map signed_spaced (flat_map group_numbers groups) ≡ flat_map group_text groups
groups-words [] = refl
groups-words (group ∷ groups) =
    flat_map-append signed_spaced (group_numbers group) (flat_map group_numbers groups)
    ∙ (λ i. group-words group i ++ groups-words groups i)

-- the hints and groups of a line
hints-words : (hints : List ℕ) (groups : List Group) → flat_map spaced (map signed_decimal (map pos hints ++ flat_map group_numbers groups))
    ≡ hints_text hints groups
hints-words hints groups =
    flat_map-map spaced signed_decimal (map pos hints ++ flat_map group_numbers groups)
    ∙ flat_map-append signed_spaced (map pos hints) (flat_map group_numbers groups)
    ∙ (λ i. flat_map-map signed_spaced pos hints i ++ groups-words groups i)

pub addition_text-line : (id : ℕ) (clause : List ℤ) (hints : List ℕ) (groups : List Group) → addition_text id clause hints groups
    ≡ line_of_step (Add id clause hints groups)
addition_text-line id clause hints groups =
    text-words id clause (hints_text hints groups) (map pos hints ++ flat_map group_numbers groups) (hints-words hints groups)

pub deletion_text-line : (id : ℕ) (ids : List ℕ) → deletion_text id ids ≡ line_of_step (Delete id ids)
deletion_text-line id ids =
    let zero_word : List (List ℕ) = (48 ∷ []) ∷ [] in
    let numbers : List ℕ = ids_text (32 ∷ []) ids in
    let words : flat_map spaced (map decimal ids ++ zero_word) ≡ numbers ++ (32 ∷ 48 ∷ []) =
    flat_map-append spaced (map decimal ids) zero_word ∙ ap (λ (l : List ℕ). l ++ (32 ∷ 48 ∷ [])) (flat_map-map spaced decimal ids) in
    let line : line_of_step (Delete id ids) ≡ decimal id ++ (32 ∷ 100 ∷ (numbers ++ (32 ∷ 48 ∷ 10 ∷ []))) =
    ap (λ (l : List ℕ). l ++ 10 ∷ []) (join-spaced (decimal id) ((100 ∷ []) ∷ (map decimal ids ++ zero_word))
    ∙ ap (λ (l : List ℕ). decimal id ++ (32 ∷ 100 ∷ l)) words)
    ∙ append_assoc (decimal id) (32 ∷ 100 ∷ (numbers ++ (32 ∷ 48 ∷ []))) (10 ∷ [])
    ∙ ap (λ (l : List ℕ). decimal id ++ (32 ∷ 100 ∷ l)) (append_assoc numbers (32 ∷ 48 ∷ []) (10 ∷ [])) in
    from_second-4 (decimal id) (32 ∷ 100 ∷ []) numbers (32 ∷ 48 ∷ 10 ∷ []) ∙ sym line

-- a list without items
pub no_groups : (groups : List Group) → (length groups == 0) ≡ true → [] ≡ groups
no_groups [] is = refl
no_groups (group ∷ groups) is = absurd (let same : length (group ∷ groups) ≡ 0 = eqb-true (length (group ∷ groups)) 0 is in omega (arith, same))
