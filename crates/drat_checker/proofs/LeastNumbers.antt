-- The least number of a clause among those of a list, one number after another.
use Rattle.std.proofs.Common.{◌≡◌, ℕ, ◌+◌, ◌<◌, ◌≤◌, min, true, false, ℤ, List, length, take, get_or, Option, None, Some}
use Rattle.std.proofs.Common.{nat_eq}
use Rattle.std.proofs.Common.{inl, inr, refl, sym, ap, ◌∙◌, subst, arith}
use Rattle.std.specs.Prelude.{IsTrue, IfSome}
use Rattle.std.proofs.lemmas.Bool.{or_cases, both_ways, cases_lt, false_from_ne_true}
use Rattle.std.proofs.lemmas.List.Folds.{list_any_more}
use Rattle.std.proofs.lemmas.Map.Views.{exact_unsigned_eq}
use Rattle.drat_rules.specs.Clauses.{Equality}
use Rattle.drat_checker.specs.Places.{Place, Places, IsAtMost, IsFirst, IsNone, place_at, is_twin, lesser}
use Rattle.drat_checker.specs.Numbers.{has_number}

-- one more number is at most as great as before, and at most as great as it
pub lesser-old : (least : Option ℕ) (k n : ℕ) → IsAtMost least n → IsAtMost (lesser least k) n
lesser-old None k n h = absurd h
lesser-old (Some m) k n h = let le : m ≤ n = h in omega arith

pub lesser-new : (least : Option ℕ) (k : ℕ) → IsAtMost (lesser least k) k
lesser-new None k = omega arith
lesser-new (Some m) k = omega arith

min-one : (P : ℕ → Type 0) (m k : ℕ) → P m → P k → P (min m k)
min-one P m k a b = elim (cases_lt m k) [
  | inl lt ↦ let is : min m k ≡ m = omega arith in subst P (sym is) a
  | inr ge ↦ let is : min m k ≡ k = omega arith in subst P (sym is) b
]

pub lesser-found : (P : ℕ → Type 0) (least : Option ℕ) (k : ℕ) → IfSome least P → P k → IfSome (lesser least k) P
lesser-found P None k a b = b
lesser-found P (Some m) k a b = min-one P m k a b

-- the least of the numbers so far
abbrev pub LeastOf : Places → Equality → List ℤ → List ℕ → Option ℕ → Type 0
LeastOf places same clause numbers least =
    (number : ℕ) → IsTrue (has_number number numbers) → IsTrue (is_twin same clause (place_at places number)) → IsAtMost least number

module _ (places : Places) (same : Equality) (clause : List ℤ) (numbers : List ℕ) (i k : ℕ) (within : i < length numbers)
    (at : k ≡ get_or numbers i 0) (least : Option ℕ) (so_far : LeastOf places same clause (take i numbers) least) where
  pub least-twin : LeastOf places same clause (take (i + 1) numbers) (lesser least k)
  least-twin number m twin =
      elim (or_cases (has_number number (take i numbers)) _ (sym (list_any_more (nat_eq number) numbers i 0 within) ∙ m)) [
        | inl earlier ↦ lesser-old least k number (so_far number earlier twin)
        | inr now ↦
            let is : number ≡ k = exact_unsigned_eq number (get_or numbers i 0) now ∙ sym at in
            subst (λ (n : ℕ). IsAtMost (lesser least k) n) (sym is) (lesser-new least k)
      ]

  pub least-other : is_twin same clause (place_at places k) ≡ false → LeastOf places same clause (take (i + 1) numbers) least
  least-other other number m twin =
      elim (or_cases (has_number number (take i numbers)) _ (sym (list_any_more (nat_eq number) numbers i 0 within) ∙ m)) [
        | inl earlier ↦ so_far number earlier twin
        | inr now ↦
            let is : number ≡ k = exact_unsigned_eq number (get_or numbers i 0) now ∙ sym at in
            absurd (both_ways (is_twin same clause (place_at places k)) other
            (ap (λ (n : ℕ). is_twin same clause (place_at places n)) (sym is) ∙ twin))
      ]

-- a place that passes the test has a clause that does
pub twin-own : (same : Equality) (clause : List ℤ) (place : Place) → is_twin same clause place ≡ true
    → (own : List ℤ) × (place ≡ Some own) × (same clause own ≡ true)
twin-own same clause None h = cc
twin-own same clause (Some own) h = (own, refl, h)

-- Where each such clause is listed, the least of the numbers is that of the first one; and where there is no least, there is no such
-- clause.
module _ (same : Equality) (clause : List ℤ) (places : Places) (numbers : List ℕ)
    (listed : (n : ℕ) (own : List ℤ) → place_at places n ≡ Some own → same clause own ≡ true → has_number n numbers ≡ true) where
  pub first-of : (o : Option ℕ) → IfSome o (λ n. IsTrue (is_twin same clause (place_at places n))) → LeastOf places same clause numbers o
      → IfSome o (λ n. IsFirst same clause places n)
  first-of None found least = tt
  first-of (Some number) found least =
      let it = twin-own same clause (place_at places number) found in
      record {
        own = it.0;
        stands = it.1;
        twin = it.2;
        least = λ n other stands twin. least n (listed n other stands twin) (ap (is_twin same clause) stands ∙ twin);
      }

  pub none-of : (o : Option ℕ) → LeastOf places same clause numbers o → o ≡ None → IsNone same clause places
  none-of o least none = record {
    absent = λ n other stands.
        false_from_ne_true _ (λ twin.
        subst (λ (p : Option ℕ). IsAtMost p n) none (least n (listed n other stands twin) (ap (is_twin same clause) stands ∙ twin)));
  }
