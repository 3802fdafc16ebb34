-- A node's value by levels is that by an assignment with the same values.
use Rattle.std.proofs.Common.{◌≡◌, ◌<◌, ℕ, refl, ap, arith, eq-eqb, ne_eqb}
use Rattle.std.specs.Prelude.{◌==◌, IsTrue}
use Rattle.std.proofs.lemmas.List.Sums.{position_or_len_is}
use Rattle.cnf_base.specs.Order.{IsOrder}
use Rattle.node_table.specs.declared.node.Node.{Node}
use Rattle.node_table.specs.Diagram.{Graph, IsReduced, is_node, levels, variable_at}
use Rattle.node_table.specs.Laws.{Cofactors}
use Rattle.node_table.specs.Value.{Levels, by_level, value_of}
use Rattle.clause_terms.specs.Term.{by_variable}

module _ (cofactors : Cofactors) (graph : Graph) (reduced : IsReduced graph) (ordered : IsOrder graph.order) where
  value_there : (a : Levels) (level : ℕ) → level < levels graph → by_variable graph.order a (variable_at graph level) ≡ a level
  value_there a level small =
      ap a (position_or_len_is (λ x. x == variable_at graph level) graph.order level 0 (omega (arith, small))
      (λ k before. ne_eqb (variable_at graph k) (variable_at graph level)
      (λ same. omega (arith, before, ordered.apart k level (omega (arith, before, small)) small same)))
      (λ _. eq-eqb (variable_at graph level) (variable_at graph level) refl))

  pub by_assignment : (a : Levels) (node : Node) → IsTrue (is_node graph node)
      → value_of graph (by_level graph.order (by_variable graph.order a)) node ≡ value_of graph a node
  by_assignment a node stands =
      cofactors.inside graph reduced (by_level graph.order (by_variable graph.order a)) a node stands (value_there a)
