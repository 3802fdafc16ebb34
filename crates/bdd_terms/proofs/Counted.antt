-- Nodes counted by parts of functions.
use Rattle.std.proofs.Common.{◌≡◌, ◌∙◌, ℕ, Bool, true, List, Option, None, Some, refl, sym, inl, inr}
use Rattle.cnf_base.specs.Truth.{Assignment}
use Rattle.node_table.specs.declared.error.TableError.{TableError}
use Rattle.node_table.specs.declared.node.Node.{Node}
use Rattle.node_table.specs.declared.node.Branch.{Branch}
use Rattle.node_table.specs.Diagram.{Graph, IsOrder, IsReduced, branch_at, is_node, levels}
use Rattle.node_table.specs.Laws.{Canonical, Growth, Subfunctions}
use Rattle.node_table.specs.Made.{inner}
use Rattle.node_table.specs.Table.{TableState, live_nodes}
use Rattle.node_table.specs.Value.{Levels, by_level, value_of}
use Rattle.clause_terms.specs.Term.{by_variable}
use Rattle.bdd_terms.specs.Counting.{Counting, IsPartOfOne, IsTry}
use Rattle.bdd_terms.proofs.ReachedParts.{reached_part}
use Rattle.bdd_terms.proofs.MoreParts.{are_more}
use Rattle.bdd_terms.proofs.Places.{agree_within, value_there}
use Rattle.bdd_terms.proofs.Priced.{few_tried, price_tried}

-- the variables of a node are those of its levels
by_levels : (graph : Graph) → IsReduced graph → IsOrder graph.order → (node : Node) → is_node graph node ≡ true
    → (holds : Assignment → Bool) → ((a : Assignment) → value_of graph (by_level graph.order a) node ≡ holds a)
    → (a : Levels) → value_of graph a node ≡ holds (by_variable graph.order a)
by_levels graph reduced ordered node stands holds value a =
    sym (agree_within graph reduced ordered (levels graph) (by_level graph.order (by_variable graph.order a)) a node stands
    (λ level small. value_there graph reduced ordered a level small)) ∙ value (by_variable graph.order a)

-- the nodes that a try made are of parts of its functions
made_new : {S : Type 0} (functions : List (Levels → Bool)) (width size : ℕ) (old new : TableState S) (error : Option TableError)
    → IsTry functions width size old new error → (key : ℕ) (branch : Branch) → branch_at new.graph key ≡ Some branch
    → branch_at old.graph key ≡ None → IsPartOfOne functions (λ a. value_of new.graph a (inner key))
made_new functions width size old new error try key branch at none = elim (try.made.each key branch at) [
  | inl was ↦ absurd (let wrong : Some branch ≡ None = sym was ∙ none in cc)
  | inr part ↦ part
]

pub counting : {S : Type 0} → Canonical → Growth → Subfunctions → Counting S
counting {S} canonical growth law = record {
  by_levels = by_levels;
  reached = λ graph reduced node other stands reaches. reached_part law graph reduced node other stands reaches;
  more = λ graph reduced functions each lacks. are_more canonical graph reduced (IsPartOfOne functions) each lacks.part lacks.is_one
      lacks.nowhere (live_nodes graph) refl;
  few = λ functions width size old new error try. few_tried growth canonical old new error try.leaves try.nodes
      (IsPartOfOne functions) (made_new functions width size old new error try) width try.most;
  price = λ functions width size price old new error try is. price_tried growth canonical old new error try.leaves try.nodes
      (IsPartOfOne functions) (made_new functions width size old new error try) width try.most (levels old.graph) size price refl is
      try.adds try.pairs;
}
