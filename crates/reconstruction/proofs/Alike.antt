-- Alike assignments: cells say the same, and are set back alike.
use Rattle.std.proofs.Common.{◌≡◌, ◌∙◌, ◌+◌, ◌-◌, ◌<◌, ◌≤◌, ℕ, Bool, false, List, [], ◌∷◌, length, reverse, refl, sym, ap, arith}
use Rattle.std.proofs.Common.{inl, inr, eq-eqb, ne_eqb}
use Rattle.std.specs.Prelude.{◌==◌, slice_index_or, slice_set, if◌then◌else◌}
use Rattle.std.proofs.lemmas.Bool.{cases_eq}
use Rattle.std.proofs.lemmas.List.{get_or-set_other, get_or-set_same}
use Rattle.cnf_base.specs.Truth.{Assignment, assignment_of, with_value}
use Rattle.clause_terms.specs.Walk.{AreAlike}
use Rattle.reconstruction.specs.declared.cells.Cell.{Cell}
use Rattle.reconstruction.specs.Cells.{AreOlder, AreOrdered, cell_value, value_in}

values_alike : (a b : Assignment) → AreAlike a b → (list : List Cell) → AreOlder list → (key : ℕ) → value_in a list key ≡ value_in b list key
values_alike a b alike [] older key = refl
values_alike a b alike (cell ∷ list) older key = λ i.
    if key == length list + 2 then (if alike.same cell.variable older.0 i then values_alike a b alike list older.3 cell.high i
    else values_alike a b alike list older.3 cell.low i) else values_alike a b alike list older.3 key i

pub value_alike : (cells : List Cell) → AreOrdered cells → (a b : Assignment) → AreAlike a b → (key : ℕ)
    → cell_value cells a key ≡ cell_value cells b key
value_alike cells ordered a b alike key = values_alike a b alike (reverse cells) ordered.older key

pub with_value_alike : (a b : Assignment) → AreAlike a b → (x : ℕ) (s t : Bool) → s ≡ t → AreAlike (with_value a x s) (with_value b x t)
with_value_alike a b alike x s t same = record { same = λ variable some. λ i. if variable == x then same i else alike.same variable some i }

-- one place of the list written
pub value_set : (values : List Bool) (x : ℕ) (t : Bool) → 0 < x → x ≤ length values
    → AreAlike (assignment_of (slice_set values (x - 1) t)) (with_value (assignment_of values) x t)
value_set values x t some within = record {
  same = λ variable above. elim (cases_eq variable x) [
    | inl at ↦
        let place : variable - 1 ≡ x - 1 = ap (λ v. v - 1) at in
        ap (λ k. slice_index_or (slice_set values (x - 1) t) k false) place
        ∙ get_or-set_same values (x - 1) t false (omega (arith, some, within))
        ∙ sym (ap (λ s. if s then t else assignment_of values variable) (eq-eqb variable x at))
    | inr differ ↦
        get_or-set_other values (x - 1) (variable - 1) t false (λ same. differ (omega (arith, same, some, above)))
        ∙ sym (ap (λ s. if s then t else assignment_of values variable) (ne_eqb variable x differ))
  ];
}
