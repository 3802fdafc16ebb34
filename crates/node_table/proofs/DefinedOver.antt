-- The clauses that define a node hold its extension variable, a variable of the formula, and those of its children alone.
use Rattle.std.proofs.Common.{◌≡◌, ◌||◌, ◌∙◌, ℕ, Bool, true, false, ℤ, pos, List, Option, Some, refl, sym, ap, inl, inr}
use Rattle.std.specs.Prelude.{neg_ℤ}
use Rattle.std.proofs.lemmas.Bool.{eqb-true, or_cases}
use Rattle.cnf_base.specs.ProofText.{given_if}
use Rattle.lrat_rules.specs.State.{Live, clause_at}
use Rattle.hint_chain.specs.declared.atom.Atom.TheVariants.{Of}
use Rattle.hint_chain.specs.Atoms.{high_up, low_up, high_down, low_down}
use Rattle.node_table.specs.declared.node.Branch.{Branch}
use Rattle.node_table.specs.Diagram.{Graph, IsOrder, IsReduced, branch_at, variable_at}
use Rattle.node_table.specs.Defined.{IsDefined, atom_of, clause_named, defs_of, is_defined_by, is_given}
use Rattle.node_table.specs.Tied.{IsOverNodes}
use Rattle.node_table.proofs.Made.{over_input, over_neg, over_node, over_own}
use Rattle.node_table.proofs.Stands.{IsOverAtom, over_clause}

-- the clause of a given number
clause_given : (live : Live) (given : Bool) (n id : ℕ) (o : Option (List ℤ)) → is_given (given_if given n) id ≡ true
    → clause_named live (given_if given n) ≡ o → clause_at live id ≡ o
clause_given live false n id o is named = absurd (let e : false ≡ true = is in cc)
clause_given live true n id o is named = ap (clause_at live) (sym (eqb-true n id is)) ∙ named

module _ (graph : Graph) (live : Live) (ordered : IsOrder graph.order) (reduced : IsReduced graph) (key : ℕ) (b : Branch)
    (at : branch_at graph key ≡ Some b) (defined : IsDefined live graph b)
    (id : ℕ) (clause : List ℤ) (is : clause_at live id ≡ Some clause) where
  abbrev u : ℤ
  u = pos b.variable

  abbrev x : ℤ
  x = pos (variable_at graph b.level)

  over_u : IsOverAtom graph (Of u)
  over_u = over_own graph u (record { key = key; branch = b; stands = at; own = refl })

  over_not_u : IsOverAtom graph (Of (neg_ℤ u))
  over_not_u = over_neg graph (Of u) over_u

  over_x : IsOverAtom graph (Of x)
  over_x = over_input graph x (ordered.within b.level (reduced.level key b at)).1

  over_not_x : IsOverAtom graph (Of (neg_ℤ x))
  over_not_x = over_neg graph (Of x) over_x

  over_high : IsOverAtom graph (atom_of graph b.high)
  over_high = over_node graph b.high (reduced.high key b at).stands

  over_low : IsOverAtom graph (atom_of graph b.low)
  over_low = over_node graph b.low (reduced.low key b at).stands

  over_hu : is_given (defs_of b).hu id ≡ true → IsOverNodes graph clause
  over_hu own = over_clause graph (high_up u x (atom_of graph b.high))
      (over_u, (over_not_x, (over_neg graph (atom_of graph b.high) over_high, tt))) clause (sym (clause_given live _ _ id _ own defined.hu)
      ∙ is)

  over_lu : is_given (defs_of b).lu id ≡ true → IsOverNodes graph clause
  over_lu own = over_clause graph (low_up u x (atom_of graph b.low))
      (over_u, (over_x, (over_neg graph (atom_of graph b.low) over_low, tt))) clause (sym (clause_given live _ _ id _ own defined.lu) ∙ is)

  over_hd : is_given (defs_of b).hd id ≡ true → IsOverNodes graph clause
  over_hd own = over_clause graph (high_down u x (atom_of graph b.high)) (over_not_u, (over_not_x, (over_high, tt))) clause
      (sym (clause_given live _ _ id _ own defined.hd) ∙ is)

  over_ld : is_given (defs_of b).ld id ≡ true → IsOverNodes graph clause
  over_ld own = over_clause graph (low_down u x (atom_of graph b.low)) (over_not_u, (over_x, (over_low, tt))) clause
      (sym (clause_given live _ _ id _ own defined.ld) ∙ is)

  pub definition_over : is_defined_by (defs_of b) id ≡ true → IsOverNodes graph clause
  definition_over own =
      let one = is_given (defs_of b).hu id in
      let two = is_given (defs_of b).lu id in
      let three = is_given (defs_of b).hd id in
      elim (or_cases ((one || two) || three) (is_given (defs_of b).ld id) own) [
        | inl early ↦ elim (or_cases (one || two) three early) [
          | inl first ↦ elim (or_cases one two first) [
            | inl is ↦ over_hu is
            | inr is ↦ over_lu is
          ]
          | inr is ↦ over_hd is
        ]
        | inr is ↦ over_ld is
      ]
