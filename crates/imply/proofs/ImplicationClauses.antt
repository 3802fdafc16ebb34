-- The two additions of an implication: their clauses are of different variables, and each literal is a node's.
use Rattle.std.proofs.Common.{◌≡◌, ◌≢◌, ◌∙◌, ◌<◌, ◌||◌, ◌&&◌, ℕ, zero, suc, ℤ, pos, neg_ℤ, nat_abs, int_eq, Bool, true, false, not, List}
use Rattle.std.proofs.Common.{[], ◌∷◌, Some, refl, sym, ap, subst, arith, inl, inr, ne_eqb}
use Rattle.std.specs.Prelude.{◌==◌}
use Rattle.std.specs.Option.{option_map}
use Rattle.std.proofs.Math.IntN.{neg_ℤ-neg_ℤ}
use Rattle.std.proofs.lemmas.Bool.{and_from, or_cases}
use Rattle.std.proofs.lemmas.Bool.Decides.{Decides-int_eq}
use Rattle.lrat_rules.specs.Soundness.{is_nonzero}
use Rattle.hint_chain.specs.declared.atom.Atom.{Atom}
use Rattle.hint_chain.specs.declared.atom.Atom.TheVariants.{Of}
use Rattle.hint_chain.specs.Atoms.{clause_from_atoms, is_literal, is_trivial, neg_atom}
use Rattle.hint_chain.specs.Closing.{are_apart}
use Rattle.hint_chain.specs.Additions.{implication, where_true}
use Rattle.node_table.specs.Diagram.{Graph, IsReduced, IsOrder, variable_at}
use Rattle.node_table.specs.Tied.{IsOverNodes}
use Rattle.operations.specs.Additions.{AreLiterals, AreOwned, Literals}
use Rattle.operations.specs.declared.operands.Operands.{Operands}
use Rattle.operations.specs.Operands.{AreSplit, Splitting}
use Rattle.operations.specs.Results.{implication_atoms}

abs_neg : (n : ℕ) → nat_abs (neg_ℤ (pos n)) ≡ n
abs_neg zero = refl
abs_neg (suc n) = refl

same_int : (x y : ℤ) → int_eq x y ≡ true → x ≡ y
same_int x y is = (Decides-int_eq x y).0 is

false_unless : (b : Bool) → (b ≡ true → ⊥) → b ≡ false
false_unless true h = absurd (h refl)
false_unless false h = refl

nonzero : (x : ℤ) → 0 < nat_abs x → is_nonzero x ≡ true
nonzero x positive = grind (arith, positive)

-- -x and y, of different variables
pair_apart : (x y : ℕ) → 0 < x → 0 < y → x ≢ y → are_apart (neg_ℤ (pos x) ∷ pos y ∷ []) ≡ true
pair_apart x y first second differ =
    let other : (nat_abs (neg_ℤ (pos x)) == y) ≡ false = ne_eqb (nat_abs (neg_ℤ (pos x))) y (λ same. differ (sym (abs_neg x) ∙ same)) in
    let none : not ((nat_abs (neg_ℤ (pos x)) == y) || false) ≡ true = ap (λ b. not (b || false)) other in
    let last : are_apart (pos y ∷ []) ≡ true = and_from (is_nonzero (pos y)
    && true) true (and_from (is_nonzero (pos y)) true (nonzero (pos y) second) refl) refl in
    and_from (is_nonzero (neg_ℤ (pos x)) && not ((nat_abs (neg_ℤ (pos x)) == y) || false)) (are_apart (pos y ∷ []))
    (and_from (is_nonzero (neg_ℤ (pos x))) (not ((nat_abs (neg_ℤ (pos x)) == y) || false))
    (nonzero (neg_ℤ (pos x)) (omega (arith, abs_neg x, first))) none) last

pair_open : (x y : ℕ) → x ≢ y → is_trivial (Of (neg_ℤ (pos x)) ∷ Of (pos y) ∷ []) ≡ false
pair_open x y differ =
    let other : int_eq (neg_ℤ (neg_ℤ (pos x))) (pos y) ≡ false =
    false_unless (int_eq (neg_ℤ (neg_ℤ (pos x))) (pos y)) (λ same. differ
    (ap nat_abs (sym (neg_ℤ-neg_ℤ (pos x)) ∙ same_int (neg_ℤ (neg_ℤ (pos x))) (pos y) same))) in
    λ i. (other i || false) || false

module _ (literals : Literals) (splits : Splitting) (graph : Graph) (reduced : IsReduced graph) (o : Operands)
    (split : AreSplit graph o) where
  pub both : AreLiterals graph o.u o.v
  both = literals.differ graph reduced o.u o.v split.first split.second split.differ

  in_variables : implication_atoms graph o.u o.v ≡ implication (Of (pos both.first)) (Of (pos both.second))
  in_variables i = implication (both.first_is i) (both.second_is i)

  pub clause_there : clause_from_atoms (implication_atoms graph o.u o.v) ≡ Some (neg_ℤ (pos both.first) ∷ pos both.second ∷ [])
  clause_there = ap clause_from_atoms in_variables

  pub is_open : is_trivial (implication_atoms graph o.u o.v) ≡ false
  is_open = ap is_trivial in_variables ∙ pair_open both.first both.second both.differ

  module _ (clause : List ℤ) (is : clause_from_atoms (implication_atoms graph o.u o.v) ≡ Some clause) where
    literals_are : neg_ℤ (pos both.first) ∷ pos both.second ∷ [] ≡ clause
    literals_are = let same : Some (neg_ℤ (pos both.first) ∷ pos both.second ∷ []) ≡ Some clause = sym clause_there ∙ is in cc

    pub low_apart : are_apart clause ≡ true
    low_apart = subst (λ (c : List ℤ). are_apart c ≡ true) literals_are
        (pair_apart both.first both.second both.first_above both.second_above both.differ)

    pub owned : AreOwned graph clause
    owned = subst (λ (c : List ℤ). AreOwned graph c) literals_are
        (λ y there. elim (or_cases (int_eq y (neg_ℤ (pos both.first))) (int_eq y (pos both.second) || false) there) [
          | inl is ↦ literals.negated graph o.u y (ap (λ (t : Atom). is_literal y (neg_atom t)) both.first_is ∙ is)
          | inr more ↦ elim (or_cases (int_eq y (pos both.second)) false more) [
            | inl is ↦ literals.own graph o.v y (ap (λ (t : Atom). is_literal y t) both.second_is ∙ is)
            | inr never ↦ cc
          ]
        ])

    pub high_clause : clause_from_atoms (where_true (pos (variable_at graph o.level)) (implication_atoms graph o.u o.v))
        ≡ Some (neg_ℤ (pos (variable_at graph o.level)) ∷ clause)
    high_clause = ap (λ c. option_map (λ literals. neg_ℤ (pos (variable_at graph o.level)) ∷ literals) c) is

    module _ (ordered : IsOrder graph.order) where
      high_both : (are_apart (neg_ℤ (pos (variable_at graph o.level)) ∷ clause) ≡ true)
          × IsOverNodes graph (neg_ℤ (pos (variable_at graph o.level)) ∷ clause)
      high_both = literals.behind graph reduced ordered o.level (splits.level graph reduced o split) clause owned low_apart

      pub high_apart : are_apart (neg_ℤ (pos (variable_at graph o.level)) ∷ clause) ≡ true
      high_apart = high_both.0
