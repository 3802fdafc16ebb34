-- The stamps of a cube that grows, and of the next one.
use Rattle.std.proofs.Common.{◌≡◌, ◌≢◌, ◌⊎◌, ◌∙◌, ◌<◌, ◌+◌, ◌*◌, ◌==◌, ◌||◌, ℕ, zero, suc, Bool, true, false, ℤ, pos, negsuc, neg_ℤ}
use Rattle.std.proofs.Common.{List, [], ◌∷◌, ◌++◌}
use Rattle.std.proofs.Common.{length, refl, sym, ap, subst, arith, inl, inr, eq-eqb, ne_eqb, eqb-true, int_eq}
use Rattle.std.specs.Prelude.{nat_abs, slice_index_or, slice_set, not}
use Rattle.std.specs.Int.{is_negative}
use Rattle.std.specs.List.{list_any}
use Rattle.std.proofs.lemmas.Bool.{eqb-false, le-ltb}
use Rattle.std.proofs.lemmas.Bool.Decides.{Decides-int_eq}
use Rattle.std.proofs.lemmas.List.{get_or-set_same, get_or-set_other}
use Rattle.std.proofs.lemmas.List.Folds.{list_any-append}
use Rattle.cnf_base.specs.Cube.{is_denied}
use Rattle.cube_text.specs.CubeReader.{AreStamps, stamp}

-- signs and magnitudes
pub minus : (n : ℕ) → is_negative (negsuc n) ≡ true
minus n = refl

pub plus : (n : ℕ) → is_negative (pos n) ≡ false
plus n = le-ltb n 0 (omega arith)

pub sign_neg : (x : ℤ) → 0 < nat_abs x → is_negative (neg_ℤ x) ≡ not (is_negative x)
sign_neg (pos zero) some = absurd (omega (arith, some))
sign_neg (pos (suc n)) some = minus n ∙ sym (ap not (plus (suc n)))
sign_neg (negsuc n) some = plus (suc n) ∙ sym (ap not (minus n))

-- a literal of the same variable is the same, or the negation
same_or_negated : (x y : ℤ) → nat_abs x ≡ nat_abs y → (x ≡ y) ⊎ (x ≡ neg_ℤ y)
same_or_negated (pos n) (pos m) e = inl (ap pos e)
same_or_negated (pos n) (negsuc m) e = inr (ap pos e)
same_or_negated (negsuc n) (pos zero) e = absurd (omega (arith, e))
same_or_negated (negsuc n) (pos (suc m)) e = inr (let same : n ≡ m = omega (arith, e) in ap negsuc same)
same_or_negated (negsuc n) (negsuc m) e = inl (let same : n ≡ m = omega (arith, e) in ap negsuc same)

apart : (x y : ℤ) → (x ≡ y → ⊥) → int_eq x y ≡ false
apart x y differ = elim (int_eq x y) as (λ b. int_eq x y ≡ b → b ≡ false) [
  | true ↦ λ e. absurd (differ ((Decides-int_eq x y).0 e))
  | false ↦ λ e. refl
] refl

or_false : (a : Bool) → (a || false) ≡ a
or_false true = refl
or_false false = refl

or_true : (a : Bool) → (a || true) ≡ true
or_true true = refl
or_true false = refl

pub no_stamps : AreStamps 0 [] []
no_stamps = record {
  marks = λ literal some. none (is_negative literal);
  before = λ variable. omega arith;
}
  where
    none : (negative : Bool) → (0 == stamp 0 negative) ≡ false
    none true = refl
    none false = refl

-- and of the other sign too
signs : (ended : ℕ) (one other : Bool) → one ≡ not other → (stamp ended other == stamp ended one) ≡ false
signs ended true true e = cc
signs ended true false e = ne_eqb (2 * ended + 2) (2 * ended + 3) (λ same. omega (arith, same))
signs ended false true e = ne_eqb (2 * ended + 3) (2 * ended + 2) (λ same. omega (arith, same))
signs ended false false e = cc

fits : (ended : ℕ) (negative : Bool) → stamp ended negative < 2 * ended + 4
fits ended true = omega arith
fits ended false = omega arith

-- one literal more, whose negation doesn't stand there
pub one_more : {ended : ℕ} {begun : List ℤ} {stamps : List ℕ} (y : ℤ) → 0 < nat_abs y → is_denied y begun ≡ false
    → nat_abs y < length stamps → AreStamps ended begun stamps
    → AreStamps ended (begun ++ y ∷ []) (slice_set stamps (nat_abs y) (stamp ended (is_negative y)))
one_more {ended} {begun} {stamps} y positive free inside are = record {
  marks = λ x some. elim (nat_abs x == nat_abs y) as (λ b. (nat_abs x == nat_abs y) ≡ b
      → (slice_index_or later (nat_abs x) 0 == stamp ended (is_negative x)) ≡ list_any (int_eq x) (begun ++ y ∷ [])) [
        | true ↦ λ e. of_variable x (eqb-true (nat_abs x) (nat_abs y) e)
        | false ↦ λ e.
            let differ : nat_abs x ≢ nat_abs y = eqb-false (nat_abs x) (nat_abs y) e in
            ap (λ (n : ℕ). n == stamp ended (is_negative x)) (get_or-set_other stamps (nat_abs y) (nat_abs x) value 0 differ)
            ∙ are.marks x some
            ∙ sym (list_any-append (int_eq x) begun (y ∷ [])
            ∙ ap (λ b. list_any (int_eq x) begun || (b || false)) (apart x y (λ same. differ (ap nat_abs same)))
            ∙ or_false (list_any (int_eq x) begun))
      ] refl;
  before = λ variable. elim (variable == nat_abs y) as (λ b. (variable == nat_abs y) ≡ b
      → slice_index_or later variable 0 < 2 * ended + 4) [
        | true ↦ λ e. subst (λ (n : ℕ). slice_index_or later n 0 < 2 * ended + 4) (sym (eqb-true variable (nat_abs y) e))
            (subst (λ (n : ℕ). n < 2 * ended + 4) (sym here) (fits ended (is_negative y)))
        | false ↦ λ e. subst (λ (n : ℕ). n < 2 * ended + 4)
            (sym (get_or-set_other stamps (nat_abs y) variable value 0 (eqb-false variable (nat_abs y) e))) (are.before variable)
      ] refl;
}
  where
    value : ℕ
    value = stamp ended (is_negative y)

    later : List ℕ
    later = slice_set stamps (nat_abs y) (stamp ended (is_negative y))

    here : slice_index_or later (nat_abs y) 0 ≡ stamp ended (is_negative y)
    here = get_or-set_same stamps (nat_abs y) (stamp ended (is_negative y)) 0 inside

    of_variable : (x : ℤ) → nat_abs x ≡ nat_abs y
        → (slice_index_or later (nat_abs x) 0 == stamp ended (is_negative x)) ≡ list_any (int_eq x) (begun ++ y ∷ [])
    of_variable x e =
        let at : slice_index_or later (nat_abs x) 0 ≡ stamp ended (is_negative y) = ap (λ (n : ℕ). slice_index_or later n 0) e ∙ here in
        elim (same_or_negated x y e) [
          | inl same ↦
              ap (λ (n : ℕ). n == stamp ended (is_negative x)) at
              ∙ eq-eqb (stamp ended (is_negative y)) (stamp ended (is_negative x)) (ap (λ (z : ℤ). stamp ended (is_negative z)) (sym same))
              ∙ sym (list_any-append (int_eq x) begun (y ∷ [])
              ∙ ap (λ b. list_any (int_eq x) begun || (b || false)) ((Decides-int_eq x y).1 same) ∙ or_true (list_any (int_eq x) begun))
          | inr negated ↦
              ap (λ (n : ℕ). n == stamp ended (is_negative x)) at
              ∙ signs ended (is_negative x) (is_negative y) (ap is_negative negated ∙ sign_neg y positive)
              ∙ sym (list_any-append (int_eq x) begun (y ∷ [])
              ∙ ap (λ b. list_any (int_eq x) begun || (b || false)) (apart x y (λ same. opposite y positive (sym same ∙ negated)))
              ∙ or_false (list_any (int_eq x) begun)
              ∙ ap (λ (z : ℤ). list_any (int_eq z) begun) negated ∙ free)
        ]
      where
        opposite : (y : ℤ) → 0 < nat_abs y → y ≡ neg_ℤ y → ⊥
        opposite (pos zero) some e = omega (arith, some)
        opposite (pos (suc n)) some e = cc
        opposite (negsuc n) some e = cc
