-- Rows with places of their own: no sum of some of them is 0 = 1. So equations that are sums of rows aren't in conflict.
use Rattle.std.proofs.Common.{◌≡◌, ◌∙◌, ◌&&◌, ◌<◌, ◌≤◌, ℕ, zero, suc, Bool, true, false, List, [], ◌∷◌, map, refl, sym, ap, arith, inl, inr, eq-eqb, ne_eqb}
use Rattle.std.specs.Prelude.{◌==◌}
use Rattle.std.specs.List.{list_any}
use Rattle.std.proofs.lemmas.Bool.{cases_Bool, cases_eq, or_left, or_right}
use Rattle.parity_equations.specs.Conflict.{AreInConflict, AreRows, AreSpanned, IsSpanned, Vector, exclusive_or, total, vector}

none_or : (b : Bool) → exclusive_or false b ≡ b
none_or true = refl
none_or false = refl

-- two sums together
four : (a b c d v : Bool) → exclusive_or (exclusive_or a b && v) (exclusive_or c d) ≡ exclusive_or (exclusive_or (a && v) c)
    (exclusive_or (b && v) d)
four true true true true true = refl
four true true true true false = refl
four true true true false true = refl
four true true true false false = refl
four true true false true true = refl
four true true false true false = refl
four true true false false true = refl
four true true false false false = refl
four true false true true true = refl
four true false true true false = refl
four true false true false true = refl
four true false true false false = refl
four true false false true true = refl
four true false false true false = refl
four true false false false true = refl
four true false false false false = refl
four false true true true true = refl
four false true true true false = refl
four false true true false true = refl
four false true true false false = refl
four false true false true true = refl
four false true false true false = refl
four false true false false true = refl
four false true false false false = refl
four false false true true true = refl
four false false true true false = refl
four false false true false true = refl
four false false true false false = refl
four false false false true true = refl
four false false false true false = refl
four false false false false true = refl
four false false false false false = refl

pub total_both : (one other : ℕ → Bool) (rows : List Vector) (place : ℕ) → total (λ i. exclusive_or (one i) (other i)) rows place
    ≡ exclusive_or (total one rows place) (total other rows place)
total_both one other [] place = refl
total_both one other (row ∷ rows) place =
    ap (exclusive_or (exclusive_or (one 0) (other 0) && row place)) (total_both (λ i. one (suc i)) (λ i. other (suc i)) rows place)
    ∙ four (one 0) (other 0) (total (λ i. one (suc i)) rows place) (total (λ i. other (suc i)) rows place) (row place)

total_nothing : (rows : List Vector) (place : ℕ) → total (λ i. false) rows place ≡ false
total_nothing [] place = refl
total_nothing (row ∷ rows) place = none_or (total (λ i. false) rows place) ∙ total_nothing rows place

-- a sum of sums of rows is one of rows
pub spanned_total : (rows vectors : List Vector) → AreSpanned rows vectors → (chosen : ℕ → Bool) → IsSpanned rows (total chosen vectors)
spanned_total rows [] are chosen = record { chosen = λ i. false; sum = λ place. sym (total_nothing rows place) }
spanned_total rows (v ∷ vectors) are chosen =
    let rest = spanned_total rows vectors are.1 (λ i. chosen (suc i)) in
    elim (cases_Bool (chosen 0)) [
      | inl taken ↦ record {
        chosen = λ i. exclusive_or (are.0.chosen i) (rest.chosen i);
        sum = λ place. (λ k. exclusive_or (taken k && v place) (total (λ i. chosen (suc i)) vectors place))
            ∙ (λ k. exclusive_or (are.0.sum place k) (rest.sum place k)) ∙ sym (total_both are.0.chosen rest.chosen rows place);
      }
      | inr left ↦ record {
        chosen = rest.chosen;
        sum = λ place. (λ k. exclusive_or (left k && v place) (total (λ i. chosen (suc i)) vectors place))
            ∙ none_or (total (λ i. chosen (suc i)) vectors place) ∙ rest.sum place;
      }
    ]

-- none of the chosen rows has its place before this level
abbrev FromLevel : ℕ → (ℕ → Bool) → List ℕ → Type 0
FromLevel n chosen [] = Unit {0}
FromLevel n chosen (level ∷ levels) = (chosen 0 ≡ true → n ≤ level) × FromLevel n (λ i. chosen (suc i)) levels

from_zero : (chosen : ℕ → Bool) (levels : List ℕ) → FromLevel 0 chosen levels
from_zero chosen [] = tt
from_zero chosen (level ∷ levels) = ((λ taken. omega arith), from_zero (λ i. chosen (suc i)) levels)

module _ (place_at : ℕ → ℕ) (n : ℕ) where
  -- where no chosen row has this level, all are false there
  none_here : (chosen : ℕ → Bool) (rows : List Vector) (levels : List ℕ) → AreRows place_at rows levels → FromLevel n chosen levels
      → list_any (λ other. other == n) levels ≡ false → total chosen rows (place_at n) ≡ false
  none_here chosen [] [] are above none = refl
  none_here chosen [] (level ∷ levels) are above none = absurd are
  none_here chosen (row ∷ rows) [] are above none = absurd are
  none_here chosen (row ∷ rows) (level ∷ levels) are above none =
      go (none_here (λ i. chosen (suc i)) rows levels are.1.1.1 above.1 later) (chosen 0) refl
    where
      differs : level ≡ n → ⊥
      differs same = let e : true ≡ false = sym (or_left (level == n) (list_any (λ other. other == n) levels) (eq-eqb level n same))
          ∙ none in cc

      later : list_any (λ other. other == n) levels ≡ false
      later = elim (cases_Bool (list_any (λ other. other == n) levels)) [
        | inl there ↦ absurd (let e : true ≡ false = sym (or_right (level == n) (list_any (λ other. other == n) levels) there) ∙ none in cc)
        | inr absent ↦ absent
      ]

      go : total (λ i. chosen (suc i)) rows (place_at n) ≡ false → (b : Bool) → chosen 0 ≡ b
          → exclusive_or (b && row (place_at n)) (total (λ i. chosen (suc i)) rows (place_at n)) ≡ false
      go rest true taken =
          let from_n = above.0 taken in
          let less : n < level = elim (cases_eq level n) [ inl same ↦ absurd (differs same) | inr other ↦ omega (arith, from_n, other) ] in
          (λ k. exclusive_or (are.1.0 n less k) (rest k))
      go rest false left = none_or (total (λ i. chosen (suc i)) rows (place_at n)) ∙ rest

  -- so a sum that is false there has none with this level
  none_at : (chosen : ℕ → Bool) (rows : List Vector) (levels : List ℕ) → AreRows place_at rows levels → FromLevel n chosen levels
      → total chosen rows (place_at n) ≡ false → FromLevel (suc n) chosen levels
  none_at chosen [] [] are above sum = tt
  none_at chosen [] (level ∷ levels) are above sum = absurd are
  none_at chosen (row ∷ rows) [] are above sum = absurd are
  none_at chosen (row ∷ rows) (level ∷ levels) are above sum = elim (cases_Bool (chosen 0)) [
    | inr left ↦ (
      (λ taken. absurd (let e : true ≡ false = sym taken ∙ left in cc)),
      none_at (λ i. chosen (suc i)) rows levels are.1.1.1 above.1
          (sym (none_or (total (λ i. chosen (suc i)) rows (place_at n)))
          ∙ (λ k. exclusive_or (sym left k && row (place_at n)) (total (λ i. chosen (suc i)) rows (place_at n))) ∙ sum),
    )
    | inl taken ↦ elim (cases_eq level n) [
      | inl same ↦ absurd (
          let rest : total (λ i. chosen (suc i)) rows (place_at n) ≡ false = none_here (λ i. chosen (suc i)) rows levels are.1.1.1 above.1
          (elim (cases_Bool (list_any (λ other. other == n) levels)) [
            | inl there ↦ absurd (are.1.1.0 (ap (λ m. list_any (λ other. other == m) levels) same ∙ there))
            | inr absent ↦ absent
          ]) in
          let here : row (place_at n) ≡ true = ap (λ m. row (place_at m)) (sym same) ∙ are.0 in
          let e : true ≡ false = sym (λ k. exclusive_or (taken k && here k) (rest k)) ∙ sum in cc)
      | inr other ↦ (
        (λ own. let from_n = above.0 own in omega (arith, from_n, other)),
        none_at (λ i. chosen (suc i)) rows levels are.1.1.1 above.1
            (sym (let less : n < level = (let from_n = above.0 taken in omega (arith, from_n, other)) in
            (λ k. exclusive_or (taken k && are.1.0 n less k) (total (λ i. chosen (suc i)) rows (place_at n)))
            ∙ none_or (total (λ i. chosen (suc i)) rows (place_at n))) ∙ sum),
      )
    ]
  ]

from_any : (place_at : ℕ → ℕ) (chosen : ℕ → Bool) (rows : List Vector) (levels : List ℕ) → AreRows place_at rows levels
    → ((n : ℕ) → total chosen rows (place_at n) ≡ false) → (n : ℕ) → FromLevel n chosen levels
from_any place_at chosen rows levels are sum zero = from_zero chosen levels
from_any place_at chosen rows levels are sum (suc n) = none_at place_at n chosen rows levels are
    (from_any place_at chosen rows levels are sum n) (sum n)

-- none is chosen
none_chosen : (chosen : ℕ → Bool) (rows : List Vector) (levels : List ℕ) (place_at : ℕ → ℕ) → AreRows place_at rows levels
    → ((n : ℕ) → FromLevel n chosen levels) → (place : ℕ) → total chosen rows place ≡ false
none_chosen chosen [] [] place_at are from place = refl
none_chosen chosen [] (level ∷ levels) place_at are from place = absurd are
none_chosen chosen (row ∷ rows) [] place_at are from place = absurd are
none_chosen chosen (row ∷ rows) (level ∷ levels) place_at are from place = elim (cases_Bool (chosen 0)) [
  | inl taken ↦ absurd (let above = (from (suc level)).0 taken in omega (arith, above))
  | inr left ↦ (λ k. exclusive_or (left k && row place) (total (λ i. chosen (suc i)) rows place))
      ∙ none_or (total (λ i. chosen (suc i)) rows place)
      ∙ none_chosen (λ i. chosen (suc i)) rows levels place_at are.1.1.1 (λ n. (from n).1) place
]

pub no_conflict : (place_at : ℕ → ℕ) (rows : List Vector) (levels : List ℕ) (equations : List (List ℕ × Bool))
    → ((n : ℕ) → 0 < place_at n) → AreRows place_at rows levels → AreSpanned rows (map vector equations) → AreInConflict equations → ⊥
no_conflict place_at rows levels equations some are spanned conflict =
    let by_rows = spanned_total rows (map vector equations) spanned conflict.chosen in
    let nowhere : (n : ℕ) → total by_rows.chosen rows (place_at n) ≡ false = λ n.
    sym (by_rows.sum (place_at n)) ∙ conflict.sum (place_at n) ∙ ne_eqb (place_at n) 0
    (λ is. let above = some n in omega (arith, is, above)) in
    let zero_there = none_chosen by_rows.chosen rows levels place_at are (from_any place_at by_rows.chosen rows levels are nowhere) 0 in
    let e : true ≡ false = sym (conflict.sum 0) ∙ by_rows.sum 0 ∙ zero_there in cc
