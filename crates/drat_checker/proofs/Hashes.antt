-- Clauses that are told to be the same have one hash; and the same list is the same set.
use Rattle.std.proofs.Common.{◌≡◌, ℕ, ◌≤◌, true, ℤ, List, [], ◌∷◌, int_eq, inl, inr, refl, ap, ◌∙◌, subst}
use Rattle.std.proofs.Common.{arith}
use Rattle.std.specs.List.{list_all}
use Rattle.std.proofs.lemmas.Bool.{and_from, and_parts, or_cases, or_left, or_right}
use Rattle.lrat_rules.specs.Chain.{literals_of}
use Rattle.drat_rules.specs.declared.deletions.Deletions.{Deletions}
use Rattle.drat_rules.specs.declared.deletions.Deletions.TheVariants.{ByList, BySet}
use Rattle.drat_rules.specs.Clauses.{equality_of, same_list, same_set}
use Rattle.drat_checker.specs.Database.{greatest, hash_of, joined, mixed}
use Rattle.drat_checker.proofs.FalseSets.{at_member, eq-int_eq, has_own, int_eq-true}
use Rattle.drat_checker.proofs.Standing.{same_list-true}

above : (shift : ℕ) (xs : List ℤ) (x : ℤ) → literals_of xs x ≡ true → mixed shift x ≤ greatest shift xs
above shift [] x m = cc
above shift (y ∷ ys) x m =
    elim (or_cases (int_eq x y) _ m) [
      | inl here ↦
          let own : mixed shift x ≡ mixed shift y = ap (mixed shift) (int_eq-true x y here) in
          omega arith
      | inr later ↦ let rest : mixed shift x ≤ greatest shift ys = above shift ys x later in omega arith
    ]

least : (shift : ℕ) (xs : List ℤ) (m : ℕ) → ((x : ℤ) → literals_of xs x ≡ true → mixed shift x ≤ m) → greatest shift xs ≤ m
least shift [] m each = omega arith
least shift (y ∷ ys) m each =
    let own : mixed shift y ≤ m = each y (or_left _ _ (eq-int_eq y y refl)) in
    let rest : greatest shift ys ≤ m = least shift ys m (λ x at. each x (or_right (int_eq x y) _ at)) in
    omega arith

within : (shift : ℕ) (c d : List ℤ) → list_all (literals_of d) c ≡ true → greatest shift c ≤ greatest shift d
within shift c d all = least shift c (greatest shift d) (λ x at. above shift d x (at_member (literals_of d) c x all at))

greatest-same : (c d : List ℤ) → same_set c d ≡ true → (shift : ℕ) → greatest shift c ≡ greatest shift d
greatest-same c d same shift =
    let parts = and_parts (list_all (literals_of d) c) (list_all (literals_of c) d) same in
    let low = within shift c d parts.0 in
    let high = within shift d c parts.1 in
    omega arith

set-hash : (c d : List ℤ) → same_set c d ≡ true → hash_of c ≡ hash_of d
set-hash c d same =
    ap (λ n. joined (joined (joined n (greatest 1073741823 c)) (greatest 2147483647 c)) (greatest 3221225471 c)) (greatest-same c d same 0)
    ∙ ap (λ n. joined (joined (joined (greatest 0 d) n) (greatest 2147483647 c)) (greatest 3221225471 c))
    (greatest-same c d same 1073741823)
    ∙ ap (λ n. joined (joined (joined (greatest 0 d) (greatest 1073741823 d)) n) (greatest 3221225471 c))
    (greatest-same c d same 2147483647)
    ∙ ap (λ n. joined (joined (joined (greatest 0 d) (greatest 1073741823 d)) (greatest 2147483647 d)) n)
    (greatest-same c d same 3221225471)

pub same-hash : (deletions : Deletions) (c d : List ℤ) → equality_of deletions c d ≡ true → hash_of c ≡ hash_of d
same-hash ByList c d same = ap hash_of (same_list-true c d same)
same-hash BySet c d same = set-hash c d same

pub list-set : (c d : List ℤ) → same_list c d ≡ true → same_set c d ≡ true
list-set c d same =
    subst (λ (e : List ℤ). same_set c e ≡ true) (same_list-true c d same) (and_from _ _ (has_own c) (has_own c))
