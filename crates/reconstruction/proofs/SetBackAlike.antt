-- Sets are set back alike from alike assignments.
use Rattle.std.proofs.Common.{◌≡◌, ◌∙◌, ◌+◌, ◌-◌, ◌<◌, ◌≤◌, ◌||◌, ℕ, zero, suc, Bool, true, false, not, List, [], ◌∷◌, ◌++◌, length, drop, map}
use Rattle.std.proofs.Common.{reverse, take, refl, sym, ap, subst, inl, inr, arith}
use Rattle.std.specs.Prelude.{slice_index_or, slice_set}
use Rattle.std.proofs.lemmas.Bool.{cases_lt}
use Rattle.std.proofs.lemmas.List.{drop-take, length-drop, length-reverse, length-take-le, reverse-append, set-set, take-append-drop, take-map}
use Rattle.std.proofs.lemmas.List.{take_more}
use Rattle.cnf_base.specs.Truth.{Assignment, assignment_of, with_value}
use Rattle.clause_terms.specs.Walk.{AreAlike}
use Rattle.reconstruction.specs.declared.cells.Cell.{Cell}
use Rattle.reconstruction.specs.declared.entries.Entry.{Entry}
use Rattle.reconstruction.specs.Cells.{AreOrdered, cell_value}
use Rattle.reconstruction.specs.Entries.{later_stored, variables_of}
use Rattle.reconstruction.specs.SetBack.{set_cells_back}
use Rattle.reconstruction.specs.SetsBack.{holds_by, one_back_by}
use Rattle.reconstruction.proofs.Alike.{value_alike, value_set, with_value_alike}

-- alike assignments have one answer
abbrev pub AsksAlike : (Assignment → Bool) → Type 0
AsksAlike f = (a b : Assignment) → AreAlike a b → f a ≡ f b

pub holds_alike : (f : Assignment → Bool) → AsksAlike f → (xs : List ℕ) (a b : Assignment) → AreAlike a b → holds_by f xs a ≡ holds_by f xs b
holds_alike f asks [] a b alike = asks a b alike
holds_alike f asks (x ∷ xs) a b alike = λ i.
    holds_alike f asks xs (with_value a x true) (with_value b x true) (with_value_alike a b alike x true true refl) i
    || holds_alike f asks xs (with_value a x false) (with_value b x false) (with_value_alike a b alike x false false refl) i

one_alike : (f : Assignment → Bool) → AsksAlike f → (a b : Assignment) → AreAlike a b → (x : ℕ) (later : List ℕ)
    → AreAlike (one_back_by f a x later) (one_back_by f b x later)
one_alike f asks a b alike x later =
    with_value_alike a b alike x (not (holds_by f later (with_value a x false))) (not (holds_by f later (with_value b x false)))
    (ap not (holds_alike f asks later (with_value a x false) (with_value b x false) (with_value_alike a b alike x false false refl)))

-- what is written for one variable of a set
pub one_in_place : (f : Assignment → Bool) → AsksAlike f → (values : List Bool) (x : ℕ) (later : List ℕ) (can : Bool) → 0 < x → x ≤ length values
    → can ≡ holds_by f later (assignment_of (slice_set values (x - 1) false))
    → AreAlike (assignment_of (slice_set (slice_set values (x - 1) false) (x - 1) (not can))) (one_back_by f (assignment_of values) x later)
one_in_place f asks values x later can some within is =
    let cleared = value_set values x false some within in
    let equal : can ≡ holds_by f later (with_value (assignment_of values) x false) =
    is ∙ holds_alike f asks later (assignment_of (slice_set values (x - 1) false)) (with_value (assignment_of values) x false) cleared in
    let written = value_set values x (not can) some within in
    record {
      same = λ variable above.
          ap (λ (list : List Bool). assignment_of list variable) (set-set values (x - 1) false (not can))
          ∙ written.same variable above ∙ ap (λ (t : Bool). with_value (assignment_of values) x (not t) variable) equal;
    }

-- entries, the last quantified one first
pub cells_alike : (cells : List Cell) → AreOrdered cells → (entries : List Entry) (a b : Assignment) → AreAlike a b
    → AreAlike (set_cells_back cells a entries) (set_cells_back cells b entries)
cells_alike cells ordered [] a b alike = alike
cells_alike cells ordered (entry ∷ older) a b alike =
    let f : Assignment → Bool = λ c. cell_value cells c entry.key in
    cells_alike cells ordered older (one_back_by f a entry.variable (later_stored older entry))
    (one_back_by f b entry.variable (later_stored older entry))
    (one_alike f (λ c d same. value_alike cells ordered c d same entry.key) a b alike entry.variable (later_stored older entry))

-- the last elements of a front
pub take_all : {X : Type 0} (xs : List X) (n : ℕ) → length xs ≤ n → take n xs ≡ xs
take_all {X} [] zero all = refl
take_all {X} [] (suc n) all = refl
take_all {X} (x ∷ xs) zero all = absurd (omega (arith, all))
take_all {X} (x ∷ xs) (suc n) all = ap (λ (l : List X). x ∷ l) (take_all xs n (omega (arith, all)))

pub front_taken : {X : Type 0} (us vs : List X) (n : ℕ) → length us ≡ n → take n (us ++ vs) ≡ us
front_taken {X} [] vs zero is = refl
front_taken {X} [] vs (suc n) is = absurd (omega (arith, is))
front_taken {X} (u ∷ us) vs zero is = absurd (omega (arith, is))
front_taken {X} (u ∷ us) vs (suc n) is = ap (λ (l : List X). u ∷ l) (front_taken us vs n (omega (arith, is)))

reverse_drop : {X : Type 0} (ys : List X) (n : ℕ) → reverse (drop (length ys - n) ys) ≡ take n (reverse ys)
reverse_drop {X} ys n =
    let first : ℕ = length ys - n in
    let parts : reverse ys ≡ reverse (drop first ys) ++ reverse (take first ys) =
    ap reverse (sym (take-append-drop first ys)) ∙ reverse-append (take first ys) (drop first ys) in
    let count : length (reverse (drop first ys)) ≡ length ys - first = length-reverse (drop first ys) ∙ length-drop first ys in
    elim (cases_lt n (length ys)) [
      | inl less ↦ sym (ap (take n) parts ∙ front_taken (reverse (drop first ys)) (reverse (take first ys)) n (omega (arith, count, less)))
      | inr more ↦
          let all : first ≡ 0 = omega (arith, more) in
          ap (λ k. reverse (drop k ys)) all ∙ sym (take_all (reverse ys) n (omega (arith, more, length-reverse ys)))
    ]

-- the entries right before a place, as many as an entry says
pub right_before : (entries : List Entry) (place later : ℕ) → place ≤ length entries
    → variables_of (take (place - (place - later)) (drop (place - later) entries))
    ≡ take later (map (λ (e : Entry). e.variable) (reverse (take place entries)))
right_before entries place later within =
    let first : ℕ = place - later in
    let front : List Entry = take place entries in
    let count : length front ≡ place = length-take-le place entries within in
    let whole : first + (place - first) ≡ place = omega arith in
    ap (λ (l : List Entry). map (λ (e : Entry). e.variable) (reverse l))
    (sym (drop-take first (place - first) entries) ∙ ap (λ k. drop first (take k entries)) whole)
    ∙ ap (λ k. map (λ (e : Entry). e.variable) (reverse (drop (k - later) front))) (sym count)
    ∙ ap (map (λ (e : Entry). e.variable)) (reverse_drop front later)
    ∙ sym (take-map (λ (e : Entry). e.variable) later (reverse front))

-- the rest of the entries is set back behind the last one
pub entry_back : (cells : List Cell) → AreOrdered cells → (entries : List Entry) (place : ℕ) (d : Entry) → place < length entries
    → (before after end : Assignment) → AreAlike after (one_back_by (λ a. cell_value cells a (slice_index_or entries place d).key) before
    (slice_index_or entries place d).variable (variables_of (take (place - (place - (slice_index_or entries place d).later))
    (drop (place - (slice_index_or entries place d).later) entries))))
    → AreAlike (set_cells_back cells before (reverse (take (place + 1) entries))) end
    → AreAlike (set_cells_back cells after (reverse (take place entries))) end
entry_back cells ordered entries place d inside before after end set rest =
    let entry : Entry = slice_index_or entries place d in
    let older : List Entry = reverse (take place entries) in
    let turned : reverse (take (place + 1) entries) ≡ entry ∷ older =
    ap reverse (take_more entries place d inside) ∙ reverse-append (take place entries) (entry ∷ []) in
    let f : Assignment → Bool = λ a. cell_value cells a entry.key in
    let one : AreAlike after (one_back_by f before entry.variable (later_stored older entry)) =
    subst (λ (later : List ℕ). AreAlike after (one_back_by f before entry.variable later))
    (right_before entries place entry.later (omega (arith, inside))) set in
    let alike = cells_alike cells ordered older after (one_back_by f before entry.variable (later_stored older entry)) one in
    record {
      same = λ variable above. alike.same variable above
          ∙ ap (λ (list : List Entry). set_cells_back cells before list variable) (sym turned) ∙ rest.same variable above;
    }
