-- The clause of a conjunction: its literals are of different variables, each the extension variable of a node.
use Rattle.std.proofs.Common.{◌≡◌, ◌≢◌, ◌<◌, ◌||◌, ◌&&◌, ℕ, zero, suc, ℤ, pos, neg_ℤ, nat_abs, int_eq, Bool, true, false, not, List, []}
use Rattle.std.proofs.Common.{◌∷◌, Option, None, Some, refl, sym, ap, ◌∙◌, subst, arith, inl, inr, ne_eqb}
use Rattle.std.specs.Prelude.{◌==◌}
use Rattle.std.specs.List.{list_any, list_all}
use Rattle.std.proofs.Math.IntN.{neg_ℤ-neg_ℤ}
use Rattle.std.proofs.lemmas.Bool.{and_parts, and_from, or_cases}
use Rattle.std.proofs.lemmas.Bool.Decides.{Decides-int_eq}
use Rattle.lrat_rules.specs.Soundness.{is_nonzero}
use Rattle.hint_chain.specs.declared.atom.Atom.{Atom}
use Rattle.hint_chain.specs.declared.atom.Atom.TheVariants.{Always, Never, Of}
use Rattle.hint_chain.specs.Atoms.{clause_from_atoms, neg_atom, is_literal, is_trivial}
use Rattle.hint_chain.specs.Closing.{are_among, are_apart}
use Rattle.hint_chain.specs.Additions.{conjunction}
use Rattle.node_table.specs.declared.node.Node.{Node}
use Rattle.node_table.specs.declared.node.Node.TheVariants.{False, True, Inner}
use Rattle.node_table.specs.declared.node.NodeKey.{NodeKey}
use Rattle.node_table.specs.declared.node.Branch.{Branch}
use Rattle.node_table.specs.Diagram.{Graph, IsReduced, branch_at}
use Rattle.node_table.specs.Defined.{atom_of, atom_in}
use Rattle.operations.specs.Additions.{AreLiterals, AreOwned, Literals}
use Rattle.operations.specs.Operands.{IsInner}
use Rattle.operations.specs.Results.{conjunction_atoms}

-- whole numbers and their signs
abs_neg : (n : ℕ) → nat_abs (neg_ℤ (pos n)) ≡ n
abs_neg zero = refl
abs_neg (suc n) = refl

same_int : (x y : ℤ) → int_eq x y ≡ true → x ≡ y
same_int x y is = (Decides-int_eq x y).0 is

false_unless : (b : Bool) → (b ≡ true → ⊥) → b ≡ false
false_unless true h = absurd (h refl)
false_unless false h = refl

-- a list of literals that are of different variables
apart_first : (x : ℤ) (xs : List ℤ) → 0 < nat_abs x → list_any (λ y. nat_abs x == nat_abs y) xs ≡ false → are_apart xs ≡ true
    → are_apart (x ∷ xs) ≡ true
apart_first x xs positive none rest =
    let nonzero : is_nonzero x ≡ true = grind (arith, positive) in
    and_from (is_nonzero x && not (list_any (λ y. nat_abs x == nat_abs y) xs)) (are_apart xs)
    (and_from (is_nonzero x) (not (list_any (λ y. nat_abs x == nat_abs y) xs)) nonzero (ap not none)) rest

among_list : (p : ℤ → Bool) (xs : List ℤ) (y : ℤ) → list_all p xs ≡ true → list_any (int_eq y) xs ≡ true → p y ≡ true
among_list p [] y all is = cc
among_list p (x ∷ xs) y all is =
    let parts = and_parts (p x) (list_all p xs) all in
    elim (or_cases (int_eq y x) (list_any (int_eq y) xs) is) [
      | inl here ↦ subst (λ z. p z ≡ true) (sym (same_int y x here)) parts.0
      | inr there ↦ among_list p xs y parts.1 there
    ]

opposite_signs : (x y : ℕ) → 0 < x → 0 < y → int_eq (neg_ℤ (neg_ℤ (pos x))) (neg_ℤ (pos y)) ≡ false
opposite_signs x y a b = false_unless (int_eq (neg_ℤ (neg_ℤ (pos x))) (neg_ℤ (pos y)))
    (λ same. signs x y a b (same_int (neg_ℤ (neg_ℤ (pos x))) (neg_ℤ (pos y)) same))
  where
    signs : (x y : ℕ) → 0 < x → 0 < y → neg_ℤ (neg_ℤ (pos x)) ≡ neg_ℤ (pos y) → ⊥
    signs zero y a b e = absurd (omega arith)
    signs (suc x) zero a b e = absurd (omega arith)
    signs (suc x) (suc y) a b e = cc

other_variable : (x : ℕ) (l : ℤ) → nat_abs l ≢ x → int_eq (neg_ℤ (neg_ℤ (pos x))) l ≡ false
other_variable x l differ = false_unless (int_eq (neg_ℤ (neg_ℤ (pos x))) l) (λ same.
    differ (ap nat_abs (sym (same_int (neg_ℤ (neg_ℤ (pos x))) l same) ∙ neg_ℤ-neg_ℤ (pos x))))

-- -x, -y and a third literal
record IsThird (x y : ℕ) (third : Atom) : Type 0 where
  apart : (l : ℤ) → third ≡ Of l → (0 < nat_abs l) × (nat_abs l ≢ x) × (nat_abs l ≢ y)

module _ (x y : ℕ) (x_positive : 0 < x) (y_positive : 0 < y) (differ : x ≢ y) where
  pair_apart : (third : Atom) → IsThird x y third → (clause : List ℤ) → clause_from_atoms (conjunction (Of (pos x)) (Of (pos y)) third)
      ≡ Some clause → are_apart clause ≡ true
  pair_apart Always is clause e = cc
  pair_apart Never is clause e =
      let whole : neg_ℤ (pos x) ∷ neg_ℤ (pos y) ∷ [] ≡ clause = cc in
      subst (λ (c : List ℤ). are_apart c ≡ true) whole (apart_first (neg_ℤ (pos x)) (neg_ℤ (pos y)
      ∷ []) (omega (arith, abs_neg x)) none_of_one (apart_first (neg_ℤ (pos y)) [] (omega (arith, abs_neg y)) refl refl))
    where
      none_of_one : list_any (λ z. nat_abs (neg_ℤ (pos x)) == nat_abs z) (neg_ℤ (pos y) ∷ []) ≡ false
      none_of_one = ap (λ b. b || false) (ne_eqb (nat_abs (neg_ℤ (pos x))) (nat_abs (neg_ℤ (pos y)))
          (λ same. differ (sym (abs_neg x) ∙ same ∙ abs_neg y)))
  pair_apart (Of l) is clause e =
      let whole : neg_ℤ (pos x) ∷ neg_ℤ (pos y) ∷ l ∷ [] ≡ clause = cc in
      let third = is.apart l refl in
      let yl : (nat_abs (neg_ℤ (pos y)) == nat_abs l) ≡ false = ne_eqb (nat_abs (neg_ℤ (pos y))) (nat_abs l)
      (λ same. third.2 (sym same ∙ abs_neg y)) in
      let xl : (nat_abs (neg_ℤ (pos x)) == nat_abs l) ≡ false = ne_eqb (nat_abs (neg_ℤ (pos x))) (nat_abs l)
      (λ same. third.1 (sym same ∙ abs_neg x)) in
      let xy : (nat_abs (neg_ℤ (pos x)) == nat_abs (neg_ℤ (pos y)))
      ≡ false = ne_eqb (nat_abs (neg_ℤ (pos x))) (nat_abs (neg_ℤ (pos y))) (λ same. differ (sym (abs_neg x) ∙ same ∙ abs_neg y)) in
      subst (λ (c : List ℤ). are_apart c ≡ true) whole
      (apart_first (neg_ℤ (pos x)) (neg_ℤ (pos y) ∷ l ∷ []) (omega (arith, abs_neg x)) (λ i. xy i || (xl i || false))
      (apart_first (neg_ℤ (pos y)) (l ∷ []) (omega (arith, abs_neg y)) (λ i. yl i || false)
      (apart_first l [] third.0 refl refl)))

  -- it isn't true by itself, unless the third is
  pair_open : (third : Atom) → IsThird x y third → third ≢ Always → is_trivial (conjunction (Of (pos x)) (Of (pos y)) third) ≡ false
  pair_open Always is given = absurd (given refl)
  pair_open Never is given = λ i. (opposite_signs x y x_positive y_positive i || false) || false
  pair_open (Of l) is given =
      let third = is.apart l refl in
      let xy : int_eq (neg_ℤ (neg_ℤ (pos x))) (neg_ℤ (pos y)) ≡ false = opposite_signs x y x_positive y_positive in
      let xl : int_eq (neg_ℤ (neg_ℤ (pos x))) l ≡ false = other_variable x l third.1 in
      let yl : int_eq (neg_ℤ (neg_ℤ (pos y))) l ≡ false = other_variable y l third.2 in
      λ i. (xy i || (xl i || false)) || ((yl i || false) || false)

-- a node that is a literal is an inner one
inner_at : (graph : Graph) (node : Node) (l : ℤ) → atom_of graph node ≡ Of l → IsInner graph node
inner_at graph False l is = cc
inner_at graph True l is = cc
inner_at graph (Inner key) l is = inner_in graph key l (branch_at graph key.index) refl is
  where
    inner_in : (graph : Graph) (key : NodeKey) (l : ℤ) (o : Option Branch) → branch_at graph key.index ≡ o → atom_in o ≡ Of l
        → IsInner graph (Inner key)
    inner_in graph key l None at is = cc
    inner_in graph key l (Some branch) at is = record { branch = branch; is = at }

same_size : (l m : ℤ) → Of l ≡ Of m → nat_abs l ≡ nat_abs m
same_size l m is = let same : l ≡ m = cc in ap nat_abs same

-- a clause over nodes of different variables
module _ (literals : Literals) (graph : Graph) (reduced : IsReduced graph) (u v w : Node) (first : IsInner graph u)
    (second : IsInner graph v) (differ : u ≢ v) (not_first : w ≢ u) (not_second : w ≢ v) where
  both : AreLiterals graph u v
  both = literals.differ graph reduced u v first second differ

  third : IsThird both.first both.second (atom_of graph w)
  third = record {
    apart = λ l is.
        let inner = inner_at graph w l is in
        let beside_first = literals.differ graph reduced w u inner first not_first in
        let beside_second = literals.differ graph reduced w v inner second not_second in
        let size = same_size l (pos beside_first.first) (sym is ∙ beside_first.first_is) in
        let size_again = same_size l (pos beside_second.first) (sym is ∙ beside_second.first_is) in
        let own = same_size (pos both.first) (pos beside_first.second) (sym both.first_is ∙ beside_first.second_is) in
        let own_again = same_size (pos both.second) (pos beside_second.second) (sym both.second_is ∙ beside_second.second_is) in (
          omega (arith, size, beside_first.first_above),
          (λ same. beside_first.differ (sym size ∙ same ∙ own)),
          (λ same. beside_second.differ (sym size_again ∙ same ∙ own_again)),
        );
  }

  in_variables : conjunction_atoms graph u v w ≡ conjunction (Of (pos both.first)) (Of (pos both.second)) (atom_of graph w)
  in_variables i = conjunction (both.first_is i) (both.second_is i) (atom_of graph w)

  pub conjunction_apart : (clause : List ℤ) → clause_from_atoms (conjunction_atoms graph u v w) ≡ Some clause → are_apart clause ≡ true
  conjunction_apart clause e = pair_apart both.first both.second both.first_above both.second_above both.differ
      (atom_of graph w) third clause (sym (ap clause_from_atoms in_variables) ∙ e)

  pub conjunction_open : (clause : List ℤ) → clause_from_atoms (conjunction_atoms graph u v w) ≡ Some clause
      → is_trivial (conjunction_atoms graph u v w) ≡ false
  conjunction_open clause e =
      ap is_trivial in_variables ∙ pair_open both.first both.second both.first_above both.second_above both.differ (atom_of graph w) third
      (λ always. no_clause always)
    where
      e_in_variables : clause_from_atoms (conjunction (Of (pos both.first)) (Of (pos both.second)) (atom_of graph w)) ≡ Some clause
      e_in_variables = sym (ap clause_from_atoms in_variables) ∙ e

      no_clause : atom_of graph w ≡ Always → ⊥
      no_clause always =
          let none : None ≡ clause_from_atoms (conjunction (Of (pos both.first)) (Of (pos both.second)) (atom_of graph w)) =
          ap (λ t. clause_from_atoms (conjunction (Of (pos both.first)) (Of (pos both.second)) t)) (sym always) in
          let never : None ≡ Some clause = none ∙ e_in_variables in
          cc

-- each literal is that of a node
pub conjunction_owned : Literals → (graph : Graph) (u v w : Node) (clause : List ℤ) → are_among (conjunction_atoms graph u v w) clause
    ≡ true → AreOwned graph clause
conjunction_owned literals graph u v w clause among y there =
    let some : list_any (is_literal y) (conjunction_atoms graph u v w)
    ≡ true = among_list (λ x. list_any (is_literal x) (conjunction_atoms graph u v w)) clause y among there in
    elim (or_cases (is_literal y (neg_atom (atom_of graph u))) (is_literal y (neg_atom (atom_of graph v))
    || (is_literal y (atom_of graph w) || false)) some) [
      | inl is ↦ literals.negated graph u y is
      | inr more ↦ elim (or_cases (is_literal y (neg_atom (atom_of graph v))) (is_literal y (atom_of graph w) || false) more) [
        | inl is ↦ literals.negated graph v y is
        | inr last ↦ elim (or_cases (is_literal y (atom_of graph w)) false last) [
          | inl is ↦ literals.own graph w y is
          | inr never ↦ cc
        ]
      ]
    ]
