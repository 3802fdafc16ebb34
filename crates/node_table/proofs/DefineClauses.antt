-- What a clause over atoms holds, and when there is one.
use Rattle.std.proofs.Common.{◌≡◌, ℕ, true, false, not, ◌||◌, ℤ, pos, negsuc, neg_ℤ, nat_abs, zero, suc, ◌<◌, ◌≢◌, List, [], ◌∷◌}
use Rattle.std.proofs.Common.{Option, None, Some, is_some, refl, sym, ap, ◌∙◌, arith}
use Rattle.std.specs.List.{list_any}
use Rattle.std.specs.Option.{option_map}
use Rattle.std.specs.Ordering.{int_eq}
use Rattle.std.specs.Prelude.{◌==◌}
use Rattle.std.proofs.lemmas.Bool.{false_from_ne_true, not-true, eqb-false}
use Rattle.std.proofs.lemmas.Bool.Decides.{Decides-int_eq}
use Rattle.hint_chain.specs.declared.atom.Atom.{Atom}
use Rattle.hint_chain.specs.declared.atom.Atom.TheVariants.{Always, Never, Of}
use Rattle.hint_chain.specs.Atoms.{neg_atom, clause_from_atoms, is_literal}
use Rattle.node_table.specs.Defined.{is_always, is_never, is_apart_from}

-- a clause with a literal in front
pub literal_in_front : (literal : ℤ) (o : Option (List ℤ)) (clause : List ℤ) → option_map (λ literals. literal ∷ literals) o ≡ Some clause
    → (others : List ℤ) × (o ≡ Some others) × (clause ≡ literal ∷ others)
literal_in_front literal None clause is = cc
literal_in_front literal (Some others) clause is = (others, refl, cc)

-- it holds the literals of its atoms
pub holds-clause_from_atoms : (y : ℤ) (atoms : List Atom) (clause : List ℤ) → clause_from_atoms atoms ≡ Some clause → list_any (int_eq y) clause
    ≡ list_any (is_literal y) atoms
holds-clause_from_atoms y [] clause is = let e : clause ≡ [] = cc in ap (list_any (int_eq y)) e
holds-clause_from_atoms y (Always ∷ atoms) clause is = cc
holds-clause_from_atoms y (Never ∷ atoms) clause is = holds-clause_from_atoms y atoms clause is
holds-clause_from_atoms y (Of literal ∷ atoms) clause is =
    let parts = literal_in_front literal (clause_from_atoms atoms) clause is in
    ap (list_any (int_eq y)) parts.2 ∙ ap (λ b. int_eq y literal || b) (holds-clause_from_atoms y atoms parts.0 parts.1)

-- when there is one
pub is_some-clause_from_atoms : (a b : ℤ) (c : Atom) → is_some (clause_from_atoms (Of a ∷ Of b ∷ c ∷ [])) ≡ not (is_always c)
is_some-clause_from_atoms a b Always = refl
is_some-clause_from_atoms a b Never = refl
is_some-clause_from_atoms a b (Of literal) = refl

pub is_always-neg_atom : (a : Atom) → is_always (neg_atom a) ≡ is_never a
is_always-neg_atom Always = refl
is_always-neg_atom Never = refl
is_always-neg_atom (Of literal) = refl

-- negated literals
pub neg_neg : (x : ℤ) → neg_ℤ (neg_ℤ x) ≡ x
neg_neg (pos zero) = refl
neg_neg (pos (suc n)) = refl
neg_neg (negsuc n) = refl

pub abs_neg : (x : ℤ) → nat_abs (neg_ℤ x) ≡ nat_abs x
abs_neg (pos zero) = refl
abs_neg (pos (suc n)) = refl
abs_neg (negsuc n) = refl

pub same_literal : (x y : ℤ) → x ≡ y → int_eq x y ≡ true
same_literal x y e = (Decides-int_eq x y).1 e

pub same_from_test : (x y : ℤ) → int_eq x y ≡ true → x ≡ y
same_from_test x y h = (Decides-int_eq x y).0 h

-- literals of different variables differ
pub apart_literals : (x y : ℤ) → nat_abs x ≢ nat_abs y → int_eq x y ≡ false
apart_literals x y apart = false_from_ne_true (int_eq x y) (λ h. apart (ap nat_abs (same_from_test x y h)))

-- a positive literal differs from its negation
differ_positive : (n : ℕ) → 0 < n → pos n ≡ neg_ℤ (pos n) → ⊥
differ_positive zero h e = omega (arith, h)
differ_positive (suc n) h e = cc

pub opposite_literals : (u : ℤ) → 0 < nat_abs u → u ≡ pos (nat_abs u) → (int_eq u (neg_ℤ u) ≡ false) × (int_eq (neg_ℤ u) u ≡ false)
opposite_literals u positive is =
    let differ : u ≡ neg_ℤ u → ⊥ = λ e. differ_positive (nat_abs u) positive (sym is ∙ e ∙ ap neg_ℤ is) in (
      false_from_ne_true (int_eq u (neg_ℤ u)) (λ h. differ (same_from_test u (neg_ℤ u) h)),
      false_from_ne_true (int_eq (neg_ℤ u) u) (λ h. differ (sym (same_from_test (neg_ℤ u) u h))),
    )

-- an atom of another variable
pub apart_atom : (variable : ℕ) (a : Atom) (y : ℤ) → is_apart_from variable a ≡ true → nat_abs y ≡ variable → is_literal y a ≡ false
apart_atom variable Always y apart is = refl
apart_atom variable Never y apart is = refl
apart_atom variable (Of literal) y apart is =
    apart_literals y literal (λ same. eqb-false (nat_abs literal) variable (not-true (nat_abs literal == variable) apart) (sym same ∙ is))

pub apart_neg_atom : (variable : ℕ) (a : Atom) → is_apart_from variable a ≡ true → is_apart_from variable (neg_atom a) ≡ true
apart_neg_atom variable Always apart = refl
apart_neg_atom variable Never apart = refl
apart_neg_atom variable (Of literal) apart = ap (λ n. not (n == variable)) (abs_neg literal) ∙ apart
