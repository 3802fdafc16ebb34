-- What sums of variables in the order say: as values, as vectors, and as variables of the formula.
use Rattle.std.proofs.Common.{◌≡◌, ◌∙◌, ◌<◌, ◌≤◌, ◌+◌, ◌||◌, ◌&&◌, ℕ, zero, suc, Bool, true, false, List, [], ◌∷◌, length}
use Rattle.std.proofs.Common.{refl, sym, ap, arith, inl, inr}
use Rattle.std.specs.Prelude.{◌==◌, slice_index_or}
use Rattle.std.specs.Bool.{beq}
use Rattle.std.specs.List.{list_any}
use Rattle.std.proofs.lemmas.Bool.{and_parts, cases_Bool, or_from}
use Rattle.std.proofs.lemmas.Bool.Decides.{Decides-eqb}
use Rattle.cnf_base.specs.Truth.{Assignment}
use Rattle.parity_equations.specs.Conflict.{vector}
use Rattle.parity_nodes.specs.Sums.{exclusive_or, odd_over, sum_is}
use Rattle.bdd_terms.specs.Parity.{AreVariables}
use Rattle.parity_terms.specs.Order.{AreDifferent, AreInOrder, place_of}
use Rattle.parity_terms.proofs.Merged.{order_from}

-- by bits
same_bit : (a b : Bool) → beq a b ≡ true → a ≡ b
same_bit true true is = refl
same_bit true false is = sym is
same_bit false true is = is
same_bit false false is = refl

bit_itself : (a : Bool) → beq a a ≡ true
bit_itself true = refl
bit_itself false = refl

both_dropped : (x a b : Bool) → exclusive_or (exclusive_or x a) (exclusive_or x b) ≡ exclusive_or a b
both_dropped true true true = refl
both_dropped true true false = refl
both_dropped true false true = refl
both_dropped true false false = refl
both_dropped false true true = refl
both_dropped false true false = refl
both_dropped false false true = refl
both_dropped false false false = refl

-- Where two equations hold that begin with one variable, so does their sum.
pub both_imply : (places : List ℕ) (first : ℕ) (one other sum : List ℕ) (bit bit_other : Bool) → AreDifferent places one other sum
    → (a : Assignment) → (sum_is bit (first ∷ one) a && sum_is bit_other (first ∷ other) a) ≡ true
    → sum_is (exclusive_or bit bit_other) sum a ≡ true
both_imply places first one other sum bit bit_other different a both =
    let parts = and_parts (sum_is bit (first ∷ one) a) (sum_is bit_other (first ∷ other) a) both in
    let is = same_bit (odd_over (first ∷ one) a) bit parts.0 in
    let is_other = same_bit (odd_over (first ∷ other) a) bit_other parts.1 in
    let same : odd_over sum a ≡ exclusive_or bit bit_other =
    different.odd a ∙ sym (both_dropped (a first) (odd_over one a) (odd_over other a)) ∙ (λ i. exclusive_or (is i) (is_other i)) in
    ap (λ b. beq b (exclusive_or bit bit_other)) same ∙ bit_itself (exclusive_or bit bit_other)

-- those in the order from here on have no place before
pub none_later : (places : List ℕ) (first : ℕ) (variables : List ℕ) (n : ℕ) → AreInOrder places first variables → place_of places n < first
    → list_any (λ v. v == n) variables ≡ false
none_later places first [] n are less = refl
none_later places first (variable ∷ more) n are less =
    or_from (variable == n) (list_any (λ v. v == n) more) (elim (cases_Bool (variable == n)) [
      | inl same ↦ absurd (
          let at = ap (place_of places) ((Decides-eqb variable n).0 same) in
          let above = are.1.1.0 in
          omega (arith, at, above, less))
      | inr differ ↦ differ
    ])
    (none_later places (place_of places variable + 1) more n are.1.1.1 (let above = are.1.1.0 in omega (arith, above, less)))

from_none : (b : Bool) → b ≡ exclusive_or false b
from_none true = refl
from_none false = refl

-- whether a variable is among them is the sum of a test
pub among_odd : (places : List ℕ) (first : ℕ) (variables : List ℕ) (n : ℕ) → AreInOrder places first variables
    → list_any (λ v. v == n) variables ≡ odd_over variables (λ v. v == n)
among_odd places first [] n are = refl
among_odd places first (variable ∷ more) n are =
    go (among_odd places (place_of places variable + 1) more n are.1.1.1) (variable == n) refl
  where
    go : list_any (λ v. v == n) more ≡ odd_over more (λ v. v == n) → (b : Bool) → (variable == n) ≡ b
        → (b || list_any (λ v. v == n) more) ≡ exclusive_or b (odd_over more (λ v. v == n))
    go rest true same =
        let at = ap (place_of places) ((Decides-eqb variable n).0 same) in
        let none = none_later places (place_of places variable + 1) more n are.1.1.1 (omega (arith, at)) in
        sym (ap (exclusive_or true) (sym rest ∙ none))
    go rest false differ = rest ∙ from_none (odd_over more (λ v. v == n))

-- The sum's vector is the sum of the vectors.
pub vector_sum : (places : List ℕ) (first : ℕ) (one other sum : List ℕ) (bit bit_other : Bool) → AreInOrder places 0 (first ∷ one)
    → AreInOrder places 0 (first ∷ other) → AreDifferent places one other sum → (place : ℕ)
    → vector (sum, exclusive_or bit bit_other) place
    ≡ exclusive_or (vector (first ∷ one, bit) place) (vector (first ∷ other, bit_other) place)
vector_sum places first one other sum bit bit_other are are_other different zero = refl
vector_sum places first one other sum bit bit_other are are_other different (suc n) =
    let a : ℕ → Bool = λ v. v == suc n in
    let low = order_from places 0 (place_of places first + 1) one (omega arith) are.1.1.1 in
    let low_other = order_from places 0 (place_of places first + 1) other (omega arith) are_other.1.1.1 in
    among_odd places 0 sum (suc n) (different.in_order 0 low low_other)
    ∙ different.odd a ∙ sym (both_dropped (a first) (odd_over one a) (odd_over other a))
    ∙ (λ i. exclusive_or (sym (among_odd places 0 (first ∷ one) (suc n) are) i)
    (sym (among_odd places 0 (first ∷ other) (suc n) are_other) i))

-- one that is among them has a place from the first one on
place_later : (places : List ℕ) (first : ℕ) (variables : List ℕ) (n k : ℕ) → AreInOrder places first variables → k < length variables
    → slice_index_or variables k n ≡ n → first ≤ place_of places n
place_later places first [] n k are small at = absurd (omega (arith, small))
place_later places first (variable ∷ more) n zero are small at =
    let same = ap (place_of places) at in let above = are.1.1.0 in omega (arith, same, above)
place_later places first (variable ∷ more) n (suc k) are small at =
    let rest = place_later places (place_of places variable + 1) more n k are.1.1.1 (omega (arith, small)) at in
    let above = are.1.1.0 in
    omega (arith, rest, above)

-- variables in the order are different ones of the formula
pub in_order_variables : (vars : ℕ) (places : List ℕ) (first : ℕ) (variables : List ℕ) → length places ≤ vars
    → AreInOrder places first variables → AreVariables vars variables
in_order_variables vars places first [] few are = tt
in_order_variables vars places first (variable ∷ more) few are = (
  are.0,
  (
    (let within = are.1.0 in omega (arith, within, few)),
    (
      (λ there.
          let later = place_later places (place_of places variable + 1) more variable there.0 are.1.1.1 there.1 there.2 in
          absurd (omega (arith, later))),
      in_order_variables vars places (place_of places variable + 1) more few are.1.1.1,
    ),
  ),
)
