-- The function of a term that lost a variable.
use Rattle.std.proofs.Common.{◌≡◌, ℕ, ◌<◌, true, false, ◌||◌, sym}
use Rattle.cnf_base.specs.Truth.{Assignment}
use Rattle.cnf_base.specs.Formula.{Formula}
use Rattle.node_table.specs.declared.node.Node.{Node}
use Rattle.node_table.specs.Diagram.{Graph, IsOrder, IsReduced, is_node, levels, variable_at}
use Rattle.node_table.specs.Value.{by_level, value_of}
use Rattle.quantify.specs.Quantification.{quantification_of}
use Rattle.clause_terms.specs.Term.{by_variable}
use Rattle.schedule_plan.specs.Plan.{Term, some_value, term_holds}
use Rattle.bdd_terms.specs.Parts.{term_function}
use Rattle.bdd_terms.proofs.Places.{value_there}
use Rattle.bdd_terms.proofs.Quantified.{set_value}

-- one variable set, by its number and by its level
module _ (graph : Graph) (reduced : IsReduced graph) (ordered : IsOrder graph.order) (level x : ℕ) (within : level
    < levels graph) (at : variable_at graph level ≡ x) where
  pub quantified_function : (formula : Formula) (term : Term) (u : Node) → is_node graph u ≡ true
      → ((a : Assignment) → value_of graph (by_level graph.order a) u ≡ term_holds formula a term)
      → quantification_of graph u level ≡ term_function formula graph.order (some_value x term)
  quantified_function formula term u stands same = λ k a.
      set_value graph reduced ordered level x within at (λ a. term_holds formula a term) u stands same (by_variable graph.order a) a
      (λ i small. sym (value_there graph reduced ordered a i small)) true k
      || (set_value graph reduced ordered level x within at) (λ a. term_holds formula a term) u stands same (by_variable graph.order a) a
      (λ i small. sym (value_there graph reduced ordered a i small)) false k
