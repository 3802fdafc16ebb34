-- Sets of false literals: literals and their negations, clauses as sets, what stays false as a set grows.
use Rattle.std.proofs.Common.{◌≡◌, ◌==◌, suc, zero, Bool, true, false, not, ◌&&◌, ◌||◌, ℤ, pos, negsuc, neg_ℤ, List, [], ◌∷◌, ◌++◌}
use Rattle.std.proofs.Common.{nat_abs, int_eq, refl, sym, ap, ◌∙◌, inl, inr, eq-eqb}
use Rattle.std.specs.List.{list_any}
use Rattle.std.proofs.Math.IntN.{neg_ℤ-neg_ℤ}
use Rattle.std.proofs.lemmas.Bool.{and_parts, or_cases, or_parts, or_from, or_left, or_right, both_ways, false_from_ne_true, not-true}
use Rattle.std.proofs.lemmas.Bool.Decides.{Decides-int_eq}
use Rattle.std.proofs.lemmas.List.Folds.{list_any-append}
use Rattle.lrat_rules.specs.Chain.{FalseSet, literals_of, with_literal}
use Rattle.lrat_rules.specs.Soundness.{is_nonzero}
use Rattle.hint_chain.specs.Closing.{IsConsistent, are_apart}

pub int_eq-true : (x y : ℤ) → int_eq x y ≡ true → x ≡ y
int_eq-true x y h = (Decides-int_eq x y).0 h

pub eq-int_eq : (x y : ℤ) → x ≡ y → int_eq x y ≡ true
eq-int_eq x y e = (Decides-int_eq x y).1 e

pub int_eq-same : (x : ℤ) → int_eq x x ≡ true
int_eq-same x = eq-int_eq x x refl

pub nat_abs-neg_ℤ : (x : ℤ) → nat_abs (neg_ℤ x) ≡ nat_abs x
nat_abs-neg_ℤ (pos zero) = refl
nat_abs-neg_ℤ (pos (suc n)) = refl
nat_abs-neg_ℤ (negsuc n) = refl

pub is_nonzero-neg_ℤ : (x : ℤ) → is_nonzero x ≡ true → is_nonzero (neg_ℤ x) ≡ true
is_nonzero-neg_ℤ x h = rw (nat_abs-neg_ℤ x) h

pub nonzero_apart : (x : ℤ) → is_nonzero x ≡ true → x ≡ neg_ℤ x → ⊥
nonzero_apart (pos zero) h e = both_ways (is_nonzero (pos 0)) refl h
nonzero_apart (pos (suc n)) h e = cc
nonzero_apart (negsuc n) h e = cc

-- the second set has the first one's literals, and perhaps more
pub record Grows (n m : FalseSet) : Type 0 where
  pub kept : (x : ℤ) → n x ≡ true → m x ≡ true

pub Grows-same : (n : FalseSet) → Grows n n
Grows-same n = record { kept = λ x h. h }

pub Grows-further : (n m k : FalseSet) → Grows n m → Grows m k → Grows n k
Grows-further n m k g h = record { kept = λ x is. h.kept x (g.kept x is) }

pub Grows-with : (n : FalseSet) (literal : ℤ) → Grows n (with_literal literal n)
Grows-with n literal = record { kept = λ x h. or_right (int_eq x literal) (n x) h }

pub with_literal-own : (n : FalseSet) (literal : ℤ) → with_literal literal n literal ≡ true
with_literal-own n literal = or_left (int_eq literal literal) (n literal) (int_eq-same literal)

pub with_literal-other : (n : FalseSet) (literal x : ℤ) → (x ≡ literal → ⊥) → n x ≡ false → with_literal literal n x ≡ false
with_literal-other n literal x other h = or_from (int_eq x literal) (n x) (false_from_ne_true _ (λ e. other (int_eq-true x literal e))) h

-- the negation of a literal that isn't false yet
pub IsConsistent-with : (n : FalseSet) (literal : ℤ) → IsConsistent n → is_nonzero literal ≡ true → n literal ≡ false
    → IsConsistent (with_literal (neg_ℤ literal) n)
IsConsistent-with n literal c nonzero open_ = record {
  apart = λ x h. elim (or_cases (int_eq x (neg_ℤ literal)) (n x) h) [
    | inl here ↦
        let back : neg_ℤ x ≡ literal = ap neg_ℤ (int_eq-true x (neg_ℤ literal) here) ∙ neg_ℤ-neg_ℤ literal in
        with_literal-other n (neg_ℤ literal) (neg_ℤ x) (λ e. nonzero_apart literal nonzero (sym back ∙ e)) (ap n back ∙ open_)
    | inr before ↦
        with_literal-other n (neg_ℤ literal) (neg_ℤ x)
        (λ e. both_ways (n literal) open_ (ap n (sym (sym (neg_ℤ-neg_ℤ x) ∙ ap neg_ℤ e ∙ neg_ℤ-neg_ℤ literal)) ∙ before))
        (c.apart x before)
  ];
}

-- the literals of a clause whose variables differ
abbrev pub has_variable : ℤ → List ℤ → Bool
has_variable x xs = list_any (λ y. nat_abs x == nat_abs y) xs

pub absent : (xs : List ℤ) (x : ℤ) → has_variable x xs ≡ false → literals_of xs x ≡ false
absent [] x h = refl
absent (y ∷ ys) x h =
    or_from (int_eq x y) (literals_of ys x)
    (false_from_ne_true _ (λ e. both_ways (nat_abs x == nat_abs y) (or_parts (nat_abs x == nat_abs y) _ h).0
    (eq-eqb _ _ (ap nat_abs (int_eq-true x y e)))))
    (absent ys x (or_parts (nat_abs x == nat_abs y) _ h).1)

pub has_variable-neg_ℤ : (x : ℤ) (xs : List ℤ) → has_variable (neg_ℤ x) xs ≡ has_variable x xs
has_variable-neg_ℤ x xs = ap (λ k. list_any (λ y. k == nat_abs y) xs) (nat_abs-neg_ℤ x)

-- what the test that variables differ tells of the first one
pub record IsApart (x : ℤ) (xs : List ℤ) : Type 0 where
  pub nonzero : is_nonzero x ≡ true
  pub others : has_variable x xs ≡ false
  pub rest : are_apart xs ≡ true

pub IsApart-from : (x : ℤ) (xs : List ℤ) → are_apart (x ∷ xs) ≡ true → IsApart x xs
IsApart-from x xs h =
    let parts = and_parts (is_nonzero x && not (has_variable x xs)) (are_apart xs) h in
    record {
      nonzero = (and_parts (is_nonzero x) _ parts.0).0;
      others = not-true _ (and_parts (is_nonzero x) _ parts.0).1;
      rest = parts.1;
    }

pub IsConsistent-apart : (clause : List ℤ) → are_apart clause ≡ true → IsConsistent (literals_of clause)
IsConsistent-apart clause h = record { apart = each clause h } where
  each : (clause : List ℤ) → are_apart clause ≡ true → (x : ℤ) → literals_of clause x ≡ true → literals_of clause (neg_ℤ x) ≡ false
  each [] h x m = refl
  each (y ∷ ys) h x m =
      let first : IsApart y ys = IsApart-from y ys h in
      elim (or_cases (int_eq x y) (literals_of ys x) m) [
        | inl here ↦
            let same : x ≡ y = int_eq-true x y here in
            or_from (int_eq (neg_ℤ x) y) (literals_of ys (neg_ℤ x))
            (false_from_ne_true _ (λ e. nonzero_apart y first.nonzero (sym (int_eq-true (neg_ℤ x) y e) ∙ ap neg_ℤ same)))
            (absent ys (neg_ℤ x) (has_variable-neg_ℤ x ys ∙ ap (λ z. has_variable z ys) same ∙ first.others))
        | inr later ↦
            or_from (int_eq (neg_ℤ x) y) (literals_of ys (neg_ℤ x))
            (false_from_ne_true _ (λ e. both_ways (literals_of ys x)
            (absent ys x (sym (has_variable-neg_ℤ x ys) ∙ ap (λ z. has_variable z ys) (int_eq-true (neg_ℤ x) y e) ∙ first.others)) later))
            (each ys first.rest x later)
      ]

-- one literal more at a list's end
or_comm_false : (a b : Bool) → (a || (b || false)) ≡ (b || a)
or_comm_false true true = refl
or_comm_false true false = refl
or_comm_false false true = refl
or_comm_false false false = refl

pub literals_of-push : (literals : List ℤ) (literal : ℤ) → literals_of (literals ++ literal ∷ [])
    ≡ with_literal literal (literals_of literals)
literals_of-push literals literal =
    let each : (x : ℤ) → literals_of (literals ++ literal ∷ []) x ≡ with_literal literal (literals_of literals) x =
    λ x. list_any-append (int_eq x) literals (literal ∷ []) ∙ or_comm_false (list_any (int_eq x) literals) (int_eq x literal) in
    λ i x. each x i
