-- The assignment that is recovered from the last term's node, and from those of the trail.
use Rattle.std.proofs.Common.{◌≡◌, ℕ, Bool, true, false, not, List, [], ◌∷◌, refl, sym, ap, ◌∙◌, subst}
use Rattle.cnf_base.specs.Truth.{AreClausesOf, Assignment, assignment_of, with_value}
use Rattle.cnf_base.specs.Formula.{Formula}
use Rattle.node_table.specs.declared.node.Node.{Node}
use Rattle.node_table.specs.Diagram.{Graph, is_node, levels}
use Rattle.node_table.specs.Value.{by_level, value_of}
use Rattle.schedule_plan.specs.declared.plan.Move.{Move}
use Rattle.schedule_plan.specs.Plan.{IsAdmissible, Term, term_holds}
use Rattle.clause_terms.specs.Recovery.{IsRecoveredFrom, set_node_back, set_nodes_back}
use Rattle.term_runner.specs.Trail.{IsRecoveredBy}
use Rattle.term_runner.specs.Recovered.{IsLeastIn, IsRecovered, set_all_back, set_back, stack_holds}
use Rattle.schedule_plan.specs.SetMove.{in_order}
use Rattle.term_runner.proofs.Plans.{satisfied_alike, satisfied_by_recovered}

-- a variable and a node, where the node has the function of the term that the variable was quantified from
pub record IsNodeOf (formula : Formula) (graph : Graph) (kept : ℕ × Node) (quantified : ℕ × Term) : Type 0 where
  pub variable : kept.0 ≡ quantified.0
  pub stands : is_node graph kept.1 ≡ true
  pub value : (a : Assignment) → value_of graph (by_level graph.order a) kept.1 ≡ term_holds formula a quantified.1

abbrev pub AreNodesOf : Formula → Graph → List (ℕ × Node) → List (ℕ × Term) → Type 0
AreNodesOf formula graph [] [] = Unit {0}
AreNodesOf formula graph [] (quantified ∷ trail) = ⊥
AreNodesOf formula graph (kept ∷ nodes) [] = ⊥
AreNodesOf formula graph (kept ∷ nodes) (quantified ∷ trail) = IsNodeOf formula graph kept quantified × AreNodesOf formula graph nodes trail

-- a kept node sets its variable back as its term does
same_back : (formula : Formula) (graph : Graph) (a : Assignment) (kept : ℕ × Node) (quantified : ℕ × Term)
    → IsNodeOf formula graph kept quantified → set_node_back graph a kept ≡ set_back formula a quantified
same_back formula graph a kept quantified is =
    ap (λ b. with_value a kept.0 (not b)) (is.value (with_value a kept.0 false))
    ∙ ap (λ x. with_value a x (not (term_holds formula (with_value a x false) quantified.1))) is.variable

all_same_back : (formula : Formula) (graph : Graph) (a : Assignment) (nodes : List (ℕ × Node)) (trail : List (ℕ × Term))
    → AreNodesOf formula graph nodes trail
    → set_nodes_back graph a nodes ≡ set_all_back formula a trail
all_same_back formula graph a [] [] are = refl
all_same_back formula graph a [] (quantified ∷ trail) are = absurd are
all_same_back formula graph a (kept ∷ nodes) [] are = absurd are
all_same_back formula graph a (kept ∷ nodes) (quantified ∷ trail) are =
    all_same_back formula graph (set_node_back graph a kept) nodes trail are.1
    ∙ ap (λ (b : Assignment). set_all_back formula b trail) (same_back formula graph a kept quantified are.0)

-- by nodes, and so by the terms
pub by_terms : (formula : Formula) (graph : Graph) (node : Node) (trail : List (ℕ × Node)) (quantified : List (ℕ × Term))
    → AreNodesOf formula graph trail quantified → (values : List Bool) → IsRecoveredFrom graph node trail values
    → IsRecoveredBy formula graph node quantified values
by_terms formula graph node trail quantified kept values from = record {
  one_each = from.one_each;
  first = from.first;
  least = from.least;
  recovered = λ variable above. from.recovered variable above ∙ ap (λ (a : Assignment). a variable)
      (all_same_back formula graph from.first trail quantified kept);
}

pub recovered : (formula : Formula) (graph : Graph) (order : List ℕ) (moves : List Move) → graph.order ≡ order
    → (plan : IsAdmissible formula (in_order order moves)) → AreClausesOf formula.vars formula.clauses → levels graph ≡ formula.vars
    → (node : Node) → ((a : Assignment) → value_of graph (by_level graph.order a) node ≡ stack_holds formula a plan.last.stack)
    → (values : List Bool) → IsRecoveredBy formula graph node plan.last.trail values → IsRecovered formula order moves values
recovered formula graph order moves same_order plan literals vars node same values from =
    let holds : stack_holds formula from.first plan.last.stack ≡ true = sym (same from.first) ∙ from.least.satisfies in
    record {
      one_each = from.one_each ∙ vars;
      last = plan.last;
      reached = plan.possible;
      first = from.first;
      least = subst (λ (o : List ℕ). IsLeastIn o (λ a. stack_holds formula a plan.last.stack) from.first) same_order (record {
        satisfies = holds;
        least = λ other true_of place small earlier at. from.least.least (by_level graph.order other) (same other
            ∙ true_of) place small earlier at;
      });
      recovered = from.recovered;
      satisfied =
          satisfied_alike formula.vars formula.clauses literals (set_all_back formula from.first plan.last.trail) (assignment_of values)
          (λ variable above. sym (from.recovered variable above))
          (satisfied_by_recovered formula (in_order order moves) plan from.first holds);
    }
