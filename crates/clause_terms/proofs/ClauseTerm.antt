-- The top node of a clause's diagram is the clause's term, and its unit follows from the clause, in whatever order the
-- literals stand.
use Rattle.std.proofs.Common.{◌≡◌, ◌≢◌, ℕ, ℤ, true, pos, neg_ℤ, List, [], ◌∷◌, length, map, Some, is_some, refl, sym, ap, ◌∙◌, subst}
use Rattle.std.specs.Prelude.{IsPermutation, nat_lt, slice_index_or, if◌then◌else◌}
use Rattle.std.specs.List.{list_all, list_any}
use Rattle.std.proofs.lemmas.List.{nil_from_length}
use Rattle.std.proofs.lemmas.List.Sorted.{length_permutation}
use Rattle.cnf_base.specs.Truth.{clause_holds}
use Rattle.lrat_rules.specs.State.{Live, clause_at}
use Rattle.hint_chain.specs.declared.unit.UnitPart.{UnitPart}
use Rattle.node_table.specs.declared.node.Node.{Node}
use Rattle.node_table.specs.declared.node.Node.TheVariants.{False, True, Inner}
use Rattle.node_table.specs.declared.node.Justification.TheVariants.{Trivial, Clause}
use Rattle.node_table.specs.declared.node.Branch.{Branch}
use Rattle.node_table.specs.Defined.{atom_of}
use Rattle.node_table.specs.Diagram.{Graph, IsOrder, branch_of, is_node}
use Rattle.node_table.specs.Justification.{IsJustified}
use Rattle.node_table.specs.Value.{Levels, by_level}
use Rattle.clause_terms.specs.declared.placed.Placed.{Placed}
use Rattle.clause_terms.specs.Placed.{literal_at, placed_holds, AreInOrder}
use Rattle.clause_terms.specs.ClauseDiagram.{IsDiagramOf}
use Rattle.clause_terms.specs.Term.{IsTerm, HasUnitPath}
use Rattle.clause_terms.proofs.Ordered.{same_literals, same_values}
use Rattle.clause_terms.proofs.Taken.{SameSetLaw}

-- a graph of the same order has the same literals
pub still_in_order : (old new : Graph) → new.order ≡ old.order → (clause : List ℤ) (placed : List Placed) → AreInOrder old clause placed
    → AreInOrder new clause placed
still_in_order old new same clause placed in_order = record {
  levels = subst (λ (order : List ℕ). list_all (λ (p : Placed). nat_lt p.level (length order)) placed ≡ true) (sym same) in_order.levels;
  sorted = in_order.sorted;
  same = subst (λ (order : List ℕ). IsPermutation clause
      (map (λ (p : Placed). if p.negative then neg_ℤ (pos (slice_index_or order p.level 0)) else pos
      (slice_index_or order p.level 0)) placed)) (sym same) in_order.same;
}

nothing_placed : (graph : Graph) (clause : List ℤ) → AreInOrder graph clause [] → clause ≡ []
nothing_placed graph clause in_order = nil_from_length clause (sym (length_permutation clause [] in_order.same))

pub unit_path : SameSetLaw → (graph : Graph) (live : Live) (clause : List ℤ) (placed : List Placed) (node : Node) (path : List UnitPart)
    (input : ℕ)
    → AreInOrder graph clause placed → clause ≢ [] → IsDiagramOf graph live placed node path → clause_at live input ≡ Some clause
    → HasUnitPath graph live node path input
unit_path same_set graph live clause [] node path input in_order some diagram there = absurd (some (nothing_placed graph clause in_order))
unit_path same_set graph live clause (p ∷ placed) node path input in_order some diagram there = record {
  branch = diagram.top.branch;
  nodes = diagram.top.nodes;
  clause = clause;
  stands = ap (branch_of graph) diagram.top.named ∙ diagram.top.stands;
  live_clause = there;
  unit = same_set live path (pos diagram.top.branch.variable ∷ diagram.top.nodes) (map (literal_at graph) (p ∷ placed)) clause
      (same_literals graph clause (p ∷ placed) in_order) diagram.top.unit;
}

node_stands : (graph : Graph) (node : Node) (branch : Branch) → branch_of graph node ≡ Some branch → is_node graph node ≡ true
node_stands graph False branch is = refl
node_stands graph True branch is = refl
node_stands graph (Inner key) branch is = ap is_some is

pub clause_term : (graph : Graph) → IsOrder graph.order → (live more : Live) (clause : List ℤ) (placed : List Placed) (node : Node)
    (path : List UnitPart)
    → AreInOrder graph clause placed → IsDiagramOf graph live placed node path → (branch : Branch) → branch_of graph node ≡ Some branch
    → (id : ℕ) → IsJustified more (atom_of graph node ∷ []) (Clause id) → IsTerm graph more (λ a. clause_holds a clause) node (Clause id)
clause_term graph ordered live more clause placed node path in_order diagram branch is id justified = record {
  stands = node_stands graph node branch is;
  value = λ a. diagram.value (by_level graph.order a)
      ∙ sym (same_values graph ordered a (by_level graph.order a) (λ level small. refl) clause placed in_order);
  proved = justified;
}

-- a clause with both signs of a variable
pub true_term : (graph : Graph) → IsOrder graph.order → (live : Live) (clause : List ℤ) (placed : List Placed)
    → AreInOrder graph clause placed
    → ((a : Levels) → list_any (placed_holds a) placed ≡ true) → IsTerm graph live (λ a. clause_holds a clause) True Trivial
true_term graph ordered live clause placed in_order holds = record {
  stands = refl;
  value = λ a. sym (same_values graph ordered a (by_level graph.order a) (λ level small. refl) clause placed in_order
      ∙ holds (by_level graph.order a));
  proved = refl;
}
