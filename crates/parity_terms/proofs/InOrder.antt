-- Rows over the places of an order: where each begins.
use Rattle.std.proofs.Common.{◌≡◌, ◌∙◌, ◌<◌, ◌≤◌, ℕ, zero, suc, Bool, true, false, List, [], ◌∷◌, length}
use Rattle.std.proofs.Common.{refl, sym, ap, subst, arith, inl, inr}
use Rattle.std.specs.Prelude.{◌==◌}
use Rattle.std.specs.List.{list_any}
use Rattle.std.proofs.lemmas.Bool.{cases_lt, cases_order, or_left}
use Rattle.std.proofs.lemmas.Bool.Decides.{Decides-eqb}
use Rattle.std.proofs.lemmas.List.{get_or_default}
use Rattle.cnf_base.specs.Order.{IsOrder}
use Rattle.parity_equations.specs.Conflict.{vector}
use Rattle.parity_terms.specs.Order.{AreInOrder, ArePlaces, place_of}
use Rattle.parity_terms.specs.Rows.{place_in}
use Rattle.parity_terms.proofs.Placing.{there}
use Rattle.parity_terms.proofs.SumValues.{none_later}

-- a vector at a variable
vector_at : (variables : List ℕ) (bit : Bool) (n : ℕ) → 0 < n → vector (variables, bit) n ≡ list_any (λ v. v == n) variables
vector_at variables bit zero some = absurd (omega (arith, some))
vector_at variables bit (suc n) some = refl

-- at each place of the order, and behind it, stands a variable
pub place_some : (order places : List ℕ) → IsOrder order → ArePlaces order places → (n : ℕ) → 0 < place_in order n
place_some order places ordered inverse n = elim (cases_lt n (length order)) [
  | inl small ↦ subst (λ m. 0 < m) (get_or_default order n 0 1 small) (ordered.within n small).0
  | inr past ↦ subst (λ m. 0 < m) (sym (behind order n past)) (omega arith)
]
  where
    behind : (list : List ℕ) (n : ℕ) → length list ≤ n → place_in list n ≡ 1
    behind [] n past = refl
    behind (x ∷ list) zero past = absurd (omega (arith, past))
    behind (x ∷ list) (suc n) past = behind list n (omega (arith, past))

module _ (order places : List ℕ) (ordered : IsOrder order) (inverse : ArePlaces order places) where
  -- a variable stands at its place
  pub place_at : (variable : ℕ) → 0 < variable → variable ≤ length places → place_in order (place_of places variable) ≡ variable
  place_at variable some within =
      let at = there order places ordered inverse variable some within in
      get_or_default order (place_of places variable) 1 0 at.0 ∙ at.1

  -- and it is the only one there
  pub place_is : (n : ℕ) → n < length order → place_of places (place_in order n) ≡ n
  place_is n small = ap (place_of places) (get_or_default order n 1 0 small) ∙ inverse.placed n small

  -- none that is in the order from later on stands before
  none_before : (first : ℕ) (variables : List ℕ) (n : ℕ) → AreInOrder places first variables → n < first → n < length order
      → list_any (λ v. v == place_in order n) variables ≡ false
  none_before first variables n are less small =
      none_later places first variables (place_in order n) are (let at = place_is n small in omega (arith, at, less))

  -- An equation begins at the place of its first variable: it is true there, and false before.
  module _ (bit : Bool) (variable : ℕ) (more : List ℕ) (are : AreInOrder places 0 (variable ∷ more)) where
    abbrev own : ℕ
    own = place_of places variable

    own_small : own < length order
    own_small = (there order places ordered inverse variable are.0 are.1.0).0

    -- what begins here is in the order from here on
    from_own : AreInOrder places own (variable ∷ more)
    from_own = (are.0, (are.1.0, (omega arith, are.1.1.1)))

    pub begins_true : vector (variable ∷ more, bit) (place_in order own) ≡ true
    begins_true =
        vector_at (variable ∷ more) bit (place_in order own) (place_some order places ordered inverse own)
        ∙ or_left (variable == place_in order own) (list_any (λ v. v == place_in order own) more)
        ((Decides-eqb variable (place_in order own)).1 (sym (place_at variable are.0 are.1.0)))

    pub begins_before : (l : ℕ) → l < own → vector (variable ∷ more, bit) (place_in order l) ≡ false
    begins_before l less =
        vector_at (variable ∷ more) bit (place_in order l) (place_some order places ordered inverse l)
        ∙ none_before own (variable ∷ more) l from_own less (omega (arith, less, own_small))

    pub begins_only : (level : ℕ) → vector (variable ∷ more, bit) (place_in order level) ≡ true
        → ((l : ℕ) → l < level → vector (variable ∷ more, bit) (place_in order l) ≡ false) → level ≡ own
    begins_only level is before = elim (cases_order level own) [
      | inl same ↦ same
      | inr (inl less) ↦ absurd (let e : true ≡ false = sym is ∙ begins_before level less in cc)
      | inr (inr less) ↦ absurd (let e : true ≡ false = sym begins_true ∙ before own less in cc)
    ]

  -- where there is no variable nothing begins
  pub begins_nowhere : (bit : Bool) (level : ℕ) → vector ([], bit) (place_in order level) ≡ true → ⊥
  begins_nowhere bit level is =
      let e : true ≡ false = sym is ∙ vector_at [] bit (place_in order level) (place_some order places ordered inverse level) in cc
