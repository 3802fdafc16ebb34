-- Literals by the names of their variables: the sign stays, and no two literals in use become one.
use Rattle.std.proofs.Common.{◌≡◌, ℕ, zero, suc, ◌+◌, ◌<◌, ◌≤◌, ℤ, pos, negsuc, neg_ℤ, ◌⊎◌, inl, inr, refl, sym, ap, ◌∙◌, subst, arith}
use Rattle.std.specs.Prelude.{nat_abs}
use Rattle.std.proofs.Math.IntN.{neg_ℤ-neg_ℤ}
use Rattle.std.proofs.lemmas.Bool.{cases_lt}
use Rattle.fresh_names.specs.Fresh.{Names, named}
use Rattle.fresh_names.proofs.Given.{AreGiven, IsKnown}

pub abs-negated : (x : ℤ) → nat_abs (neg_ℤ x) ≡ nat_abs x
abs-negated (pos zero) = refl
abs-negated (pos (suc n)) = refl
abs-negated (negsuc n) = refl

one-more : (n : ℕ) → n + 1 ≡ suc n
one-more n = omega arith

pub negated-named : (name : ℕ → ℕ) → name 0 ≡ 0 → (x : ℤ) → named name (neg_ℤ x) ≡ neg_ℤ (named name x)
negated-named name none (pos zero) = ap (λ k. pos k) none ∙ ap (λ k. neg_ℤ (pos k)) (sym none)
negated-named name none (pos (suc n)) = ap (λ k. neg_ℤ (pos (name k))) (one-more n)
negated-named name none (negsuc n) =
    ap (λ k. pos (name k)) (sym (one-more n)) ∙ sym (neg_ℤ-neg_ℤ (pos (name (n + 1))))

pub abs-named : (name : ℕ → ℕ) (x : ℤ) → nat_abs (named name x) ≡ name (nat_abs x)
abs-named name (pos n) = refl
abs-named name (negsuc n) = abs-negated (pos (name (n + 1))) ∙ ap name (one-more n)

pub named-same : (name other : ℕ → ℕ) (x : ℤ) → name (nat_abs x) ≡ other (nat_abs x) → named name x ≡ named other x
named-same name other (pos n) e = ap pos e
named-same name other (negsuc n) e =
    ap (λ k. neg_ℤ (pos k)) (ap name (one-more n) ∙ e ∙ sym (ap other (one-more n)))

module _ (vars : ℕ) (names : Names) (g : AreGiven vars names) where
  name-apart : (v w : ℕ) → IsKnown vars names v → IsKnown vars names w → names.name v ≡ names.name w → v ≡ w
  name-apart v w kv kw e = by-place (cases v kv) (cases w kw)
    where
      cases : (u : ℕ) → IsKnown vars names u → (u ≤ vars) ⊎ ((vars < u) × (0 < names.uses u))
      cases u (inl own) = inl own
      cases u (inr used) = elim (cases_lt vars u) [ inl past ↦ inr (past, used) | inr own ↦ inl own ]

      by-place : (v ≤ vars) ⊎ ((vars < v) × (0 < names.uses v)) → (w ≤ vars) ⊎ ((vars < w) × (0 < names.uses w)) → v ≡ w
      by-place (inl v_own) (inl w_own) = sym (g.own v v_own) ∙ e ∙ g.own w w_own
      by-place (inl v_own) (inr w_past) =
          let own : names.name v ≡ v = g.own v v_own in
          let past : vars < names.name w = (g.above w w_past.0 w_past.1).0 in
          absurd (omega arith)
      by-place (inr v_past) (inl w_own) =
          let own : names.name w ≡ w = g.own w w_own in
          let past : vars < names.name v = (g.above v v_past.0 v_past.1).0 in
          absurd (omega arith)
      by-place (inr v_past) (inr w_past) = g.apart v w v_past.0 w_past.0 v_past.1 w_past.1 e

  name-some : (v : ℕ) → IsKnown vars names v → 0 < v → 0 < names.name v
  name-some v known some =
      elim (cases_lt vars v) [
        | inl past ↦ elim known [
          | inl own ↦ absurd (omega arith)
          | inr used ↦ let above : vars < names.name v = (g.above v past used).0 in omega arith
        ]
        | inr own ↦ let is : names.name v ≡ v = g.own v own in omega arith
      ]

  mixed : (a b : ℕ) → 0 < b → pos a ≡ neg_ℤ (pos b) → ⊥
  mixed a zero some e = absurd (omega arith)
  mixed a (suc b) some e = cc

  pub literal-apart : (x y : ℤ) → IsKnown vars names (nat_abs x) → IsKnown vars names (nat_abs y)
      → named names.name x ≡ named names.name y → x ≡ y
  literal-apart x y kx ky e = by-sign x y (name-apart (nat_abs x) (nat_abs y) kx ky
      (sym (abs-named names.name x) ∙ ap nat_abs e ∙ abs-named names.name y)) kx ky e
    where
      by-sign : (x y : ℤ) → nat_abs x ≡ nat_abs y → IsKnown vars names (nat_abs x) → IsKnown vars names (nat_abs y)
          → named names.name x ≡ named names.name y → x ≡ y
      by-sign (pos n) (pos m) same kx ky e = ap pos same
      by-sign (pos n) (negsuc m) same kx ky e =
          absurd (mixed (names.name n) (names.name (m + 1))
          (name-some (m + 1) (subst (λ (k : ℕ). IsKnown vars names k) (sym (one-more m)) ky) (omega arith)) e)
      by-sign (negsuc n) (pos m) same kx ky e =
          absurd (mixed (names.name m) (names.name (n + 1))
          (name-some (n + 1) (subst (λ (k : ℕ). IsKnown vars names k) (sym (one-more n)) kx) (omega arith)) (sym e))
      by-sign (negsuc n) (negsuc m) same kx ky e = ap negsuc (let both : suc n ≡ suc m = same in omega arith)
