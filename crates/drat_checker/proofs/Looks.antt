-- What the clause of a number that watches a literal tells of the other literal that it watches.
use Rattle.std.proofs.Common.{◌≡◌, ℕ, true, false, ℤ, List, Some, int_eq, inl, inr, sym, ap, ◌∙◌, subst}
use Rattle.std.proofs.lemmas.Bool.{or_cases, or_left, or_right, both_ways, false_from_ne_true}
use Rattle.lrat_rules.specs.Chain.{literals_of}
use Rattle.drat_checker.specs.declared.pair.Pair.{Pair}
use Rattle.drat_checker.specs.Places.{Places, place_at}
use Rattle.drat_checker.specs.Watches.{Pairs, ArePairs, is_in, is_last, pair_at, watches}
use Rattle.drat_checker.specs.Visits.{IsBeside, IsLast, IsMoved}
use Rattle.drat_checker.proofs.FalseSets.{int_eq-true, eq-int_eq}

module _ (pairs : Pairs) (places : Places) (are : ArePairs pairs places) (literal : ℤ) (number : ℕ) (other : ℤ)
    (beside : IsBeside (pair_at pairs number) literal other) (clause : List ℤ) (stands : place_at places number ≡ Some clause) where
  -- the clause holds it, watches it, and it is another literal
  pub beside-held : literals_of clause other ≡ true
  beside-held =
      let own = are.own number clause beside.own stands beside.is in
      elim beside.sides [
        | inl sides ↦ subst (λ (x : ℤ). literals_of clause x ≡ true) sides.1 own.second
        | inr sides ↦ subst (λ (x : ℤ). literals_of clause x ≡ true) sides.1 own.first
      ]

  pub beside-watched : watches pairs number other ≡ true
  beside-watched =
      ap (λ p. is_in p other) beside.is
      ∙ elim beside.sides [
        | inl sides ↦ or_right (int_eq other beside.own.first) _ (eq-int_eq other beside.own.second (sym sides.1))
        | inr sides ↦ or_left _ _ (eq-int_eq other beside.own.first (sym sides.1))
      ]

  pub beside-apart : int_eq other literal ≡ false
  beside-apart =
      let own = are.own number clause beside.own stands beside.is in
      false_from_ne_true _ (λ same.
      let is : other ≡ literal = int_eq-true other literal same in
      both_ways (int_eq beside.own.first beside.own.second) own.apart
      (eq-int_eq beside.own.first beside.own.second
      (elim beside.sides [
        | inl sides ↦ sides.0 ∙ sym is ∙ sym sides.1
        | inr sides ↦ sides.1 ∙ is ∙ sym sides.0
      ])))

  pub is-moved : (literals : List ℤ) (first : ℤ) (pair : Pair) → pair.first ≡ first → pair.second ≡ other → literals_of clause first ≡ true
      → literals_of literals first ≡ false → int_eq first other ≡ false → IsMoved places pairs literals literal number pair
  is-moved literals first pair one two found unfalse differs = record {
    clause = clause;
    stands = stands;
    first = subst (λ (x : ℤ). literals_of clause x ≡ true) (sym one) found;
    second = subst (λ (x : ℤ). literals_of clause x ≡ true) (sym two) beside-held;
    apart = ap (λ x. int_eq x pair.second) one ∙ ap (int_eq first) two ∙ differs;
    unfalse = ap (literals_of literals) one ∙ unfalse;
    kept = subst (λ (x : ℤ). watches pairs number x ≡ true) (sym two) beside-watched;
    other = ap (λ x. int_eq x literal) two ∙ beside-apart;
  }

  pub is-last-there : (literals : List ℤ) → is_last literals other clause ≡ true → IsLast places literals number other
  is-last-there literals last = record { clause = clause; stands = stands; held = beside-held; last = last }

-- neither of the two
pub not-of : (pair : Pair) (literal : ℤ) → int_eq pair.first literal ≡ false → int_eq pair.second literal ≡ false
    → is_in (Some pair) literal ≡ false
not-of pair literal one two =
    false_from_ne_true _ (λ either. elim (or_cases (int_eq literal pair.first) _ either) [
      | inl first ↦ both_ways (int_eq pair.first literal) one (eq-int_eq pair.first literal (sym (int_eq-true literal pair.first first)))
      | inr second ↦ both_ways (int_eq pair.second literal) two (eq-int_eq pair.second literal (sym
          (int_eq-true literal pair.second second)))
    ])
