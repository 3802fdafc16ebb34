-- The first literal of a trail whose negation is given: the least of the places of the negations.
use Rattle.std.proofs.Common.{◌≡◌, ℕ, ◌<◌, ◌≤◌, true, false, ℤ, pos, neg_ℤ, List, length, take, get_or, Option, None, Some, sym, ap, ◌∙◌, subst}
use Rattle.std.proofs.Common.{arith, length-take}
use Rattle.std.specs.Prelude.{IfSome}
use Rattle.std.proofs.Math.IntN.{neg_ℤ-neg_ℤ}
use Rattle.std.proofs.lemmas.Bool.{both_ways, false_from_ne_true}
use Rattle.std.proofs.lemmas.List.{get_or-take}
use Rattle.lrat_rules.specs.Chain.{literals_of}
use Rattle.drat_checker.specs.Places.{IsAtMost, lesser, lesser_of}
use Rattle.drat_checker.specs.Trail.{AreOnce, IsAt}
use Rattle.drat_checker.specs.Reasons.{AreFree}
use Rattle.drat_checker.specs.Hints.{IsFirstOpposed}
use Rattle.drat_checker.proofs.LeastNumbers.{lesser-found, lesser-new, lesser-old}
use Rattle.drat_checker.proofs.Trails.{at-any, found-at, once-at}

-- the negation of one that is given stands there
pub record IsOpposedAt (literals given : List ℤ) (place : ℕ) : Type 0 where
  pub x : ℤ
  pub own : literals_of given x ≡ true
  pub at : IsAt literals (neg_ℤ x) place

-- the place is at most that of the negation of each of these
abbrev pub AreBehind : List ℤ → List ℤ → Option ℕ → Type 0
AreBehind literals given first =
    (x : ℤ) → literals_of given x ≡ true → (k : ℕ) → IsAt literals (neg_ℤ x) k → IsAtMost first k

pub at-most-more : (first other : Option ℕ) (k : ℕ) → IsAtMost first k → IsAtMost (lesser_of first other) k
at-most-more first None k h = h
at-most-more first (Some n) k h = lesser-old first n k h

-- one place more, where there is one
module _ (literals : List ℤ) (once : AreOnce literals) where
  pub at-most-own : (z : ℤ) (first other : Option ℕ) → IfSome other (IsAt literals z)
      → (other ≡ None → literals_of literals z ≡ false) → (k : ℕ) → IsAt literals z k → IsAtMost (lesser_of first other) k
  at-most-own z first None found none k at =
      absurd (both_ways (literals_of literals z) (none (λ i. None))
      (subst (λ (y : ℤ). literals_of literals y ≡ true) at.own (at-any literals k at.within)))
  at-most-own z first (Some n) found none k at =
      subst (λ (m : ℕ). IsAtMost (lesser first n) m) (once-at literals once z n k found at) (lesser-new first n)

  pub opposed-more : (given : List ℤ) (x z : ℤ) → z ≡ neg_ℤ x → literals_of given x ≡ true → (first other : Option ℕ)
      → IfSome first (IsOpposedAt literals given) → IfSome other (IsAt literals z)
      → IfSome (lesser_of first other) (IsOpposedAt literals given)
  opposed-more given x z is own first None before found = before
  opposed-more given x z is own first (Some n) before found =
      lesser-found (IsOpposedAt literals given) first n before
      (record { x = x; own = own; at = subst (λ (y : ℤ). IsAt literals y n) is found })

-- in the end
before-it : (literals : List ℤ) (p : ℕ) (y : ℤ) → literals_of (take p literals) y ≡ true → (k : ℕ) × (k < p) × IsAt literals y k
before-it literals p y m =
    let front : (k : ℕ) × IsAt (take p literals) y k = found-at (take p literals) y m in
    let within : front.0 < length (take p literals) = front.1.within in
    let less : front.0 < p = omega (arith, within, length-take p literals) in
    let some : front.0 < length literals = omega (arith, within, length-take p literals) in
    (front.0, less, record { within = some; own = sym (get_or-take p literals front.0 (pos 0) less) ∙ front.1.own })

module _ (literals given : List ℤ) where
  twice : (y : ℤ) (k : ℕ) → IsAt literals y k → IsAt literals (neg_ℤ (neg_ℤ y)) k
  twice y k at = subst (λ (z : ℤ). IsAt literals z k) (sym (neg_ℤ-neg_ℤ y)) at

  pub none-opposed : (first : Option ℕ) → first ≡ None → AreBehind literals given first → AreFree literals given
  none-opposed first none behind = record {
    free = λ y m. false_from_ne_true _ (λ there.
        let own : (k : ℕ) × IsAt literals y k = found-at literals y m in
        absurd (subst (λ (o : Option ℕ). IsAtMost o own.0) none (behind (neg_ℤ y) there own.0 (twice y own.0 own.1))));
  }

  pub first-opposed : (first : Option ℕ) → AreBehind literals given first → IfSome first (IsOpposedAt literals given)
      → IfSome first (IsFirstOpposed literals given)
  first-opposed None behind own = tt
  first-opposed (Some p) behind own = record {
    within = own.at.within;
    negation = ap (λ (y : ℤ). literals_of given (neg_ℤ y)) own.at.own ∙ ap (literals_of given) (neg_ℤ-neg_ℤ own.x) ∙ own.own;
    free = record {
      free = λ y m. false_from_ne_true _ (λ there.
          let front = before-it literals p y m in
          let le : p ≤ front.0 = behind (neg_ℤ y) there front.0 (twice y front.0 front.2) in
          absurd (omega (arith, le, front.1)));
    };
  }
