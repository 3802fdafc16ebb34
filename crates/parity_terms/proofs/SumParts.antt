-- Two equations with one first variable: what is left of each, and the sum of these.
use Rattle.std.proofs.Common.{◌≡◌, ◌∙◌, ◌+◌, ◌-◌, ◌&&◌, ℕ, true, List, [], ◌∷◌, length, drop, take, sym, ap, subst}
use Rattle.std.proofs.Common.{arith}
use Rattle.std.proofs.lemmas.List.{take_all}
use Rattle.cnf_base.specs.Truth.{Assignment}
use Rattle.parity_equations.specs.Conflict.{vector}
use Rattle.parity_nodes.specs.Sums.{exclusive_or, sum_is}
use Rattle.bdd_terms.specs.declared.runner.Runner.{Runner}
use Rattle.bdd_terms.specs.Runner.{holds_in}
use Rattle.parity_terms.specs.declared.row.Row.{Row}
use Rattle.parity_terms.specs.Order.{AreDifferent, AreInOrder, HaveSameFirst, place_of}
use Rattle.parity_terms.specs.Rows.{IsRow, held_of, vector_of}
use Rattle.parity_terms.proofs.Merged.{order_from}
use Rattle.parity_terms.proofs.SumValues.{both_imply, vector_sum}

-- all but the first
abbrev pub rest_of : List ℕ → List ℕ
rest_of variables = take (length variables - 1) (drop 1 variables)

-- both begin with this one
record HaveFirst (row current : List ℕ) : Type 0 where
  first : ℕ
  is : row ≡ first ∷ rest_of row
  is_current : current ≡ first ∷ rest_of current

split : (row current : List ℕ) → HaveSameFirst row current → HaveFirst row current
split [] current same = absurd same
split (u ∷ us) [] same = absurd same
split (u ∷ us) (v ∷ vs) same = record {
  first = u;
  is = ap (λ (l : List ℕ). u ∷ l) (sym (take_all (length (u ∷ us) - 1) us (omega arith)));
  is_current = (λ i. sym same i ∷ sym (take_all (length (v ∷ vs) - 1) vs (omega arith)) i);
}

-- the difference of what is left, by other names for the lists
pub different_of : (places row current sum one other slice : List ℕ) → one ≡ row → other ≡ current → slice ≡ sum
    → AreDifferent places (rest_of one) (rest_of other) sum → AreDifferent places (rest_of row) (rest_of current) slice
different_of places row current sum one other slice is_row is_current is_sum different =
    subst (λ (l : List ℕ). AreDifferent places (rest_of row) (rest_of current) l) (sym is_sum)
    (subst (λ (l : List ℕ). AreDifferent places (rest_of row) (rest_of l) sum) is_current
    (subst (λ (l : List ℕ). AreDifferent places (rest_of l) (rest_of other) sum) is_row different))

behind_first : (places : List ℕ) (low : ℕ) (list : List ℕ) (first : ℕ) (rest : List ℕ) → list ≡ first ∷ rest → AreInOrder places low list
    → AreInOrder places (low + 1) rest
behind_first places low list first rest is are =
    let own : AreInOrder places low (first ∷ rest) = subst (AreInOrder places low) is are in
    let above = own.1.1.0 in
    order_from places (low + 1) (place_of places first + 1) rest (omega (arith, above)) own.1.1.1

module _ {S : Type 0} (old : Runner S) (places : List ℕ) (row current : Row) (is_row : IsRow old places row)
    (is_current : IsRow old places current) (same : HaveSameFirst row.variables.items current.variables.items) where
  parts : HaveFirst row.variables.items current.variables.items
  parts = split row.variables.items current.variables.items same

  pub row_rest : AreInOrder places 0 (rest_of row.variables.items)
  row_rest =
      order_from places 0 1 (rest_of row.variables.items) (omega arith)
      (behind_first places 0 row.variables.items parts.first (rest_of row.variables.items) parts.is is_row.in_order)

  pub current_rest : AreInOrder places 0 (rest_of current.variables.items)
  current_rest =
      order_from places 0 1 (rest_of current.variables.items) (omega arith)
      (behind_first places 0 current.variables.items parts.first (rest_of current.variables.items) parts.is_current is_current.in_order)

  module _ (sum : List ℕ) (different : AreDifferent places (rest_of row.variables.items) (rest_of current.variables.items) sum) where
    pub sum_in_order : AreInOrder places 0 sum
    sum_in_order = different.in_order 0 row_rest current_rest

    pub sum_later : (first : ℕ) → AreInOrder places first row.variables.items → AreInOrder places first current.variables.items
        → AreInOrder places (first + 1) sum
    sum_later first one other =
        different.in_order (first + 1)
        (behind_first places first row.variables.items parts.first (rest_of row.variables.items) parts.is one)
        (behind_first places first current.variables.items parts.first (rest_of current.variables.items) parts.is_current other)

    pub sum_implied_by : (a : Assignment) → (holds_in old (held_of row) a && holds_in old (held_of current) a) ≡ true
        → sum_is (exclusive_or row.bit current.bit) sum a ≡ true
    sum_implied_by a both =
        both_imply places parts.first (rest_of row.variables.items) (rest_of current.variables.items) sum row.bit current.bit different a
        ((λ i. sum_is row.bit (sym parts.is i) a && sum_is current.bit (sym parts.is_current i) a)
        ∙ (λ i. sym (is_row.value a) i && sym (is_current.value a) i) ∙ both)

    pub sum_vector : (place : ℕ) → vector (sum, exclusive_or row.bit current.bit) place
        ≡ exclusive_or (vector_of row place) (vector_of current place)
    sum_vector place =
        vector_sum places parts.first (rest_of row.variables.items) (rest_of current.variables.items) sum row.bit current.bit
        (subst (AreInOrder places 0) parts.is is_row.in_order) (subst (AreInOrder places 0) parts.is_current is_current.in_order) different
        place
        ∙ (λ i. exclusive_or (vector (sym parts.is i, row.bit) place) (vector (sym parts.is_current i, current.bit) place))
