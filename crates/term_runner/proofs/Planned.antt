-- The nodes that a plan's moves make are of parts of its terms.
use Rattle.std.proofs.Common.{◌≡◌, ℕ, zero, suc, Bool, true, ◌&&◌, List, [], ◌∷◌, take, Option, None, Some, is_some, sym, ap, ◌∙◌, inl, inr}
use Rattle.std.specs.List.{slice_get}
use Rattle.std.specs.Option.{option_and_then}
use Rattle.cnf_base.specs.Truth.{Assignment}
use Rattle.cnf_base.specs.Formula.{Formula}
use Rattle.lrat_rules.specs.State.{Live}
use Rattle.node_table.specs.declared.node.Node.{Node}
use Rattle.node_table.specs.declared.node.Justification.{Justification}
use Rattle.node_table.specs.Diagram.{Graph, IsOrder, IsReduced, KeepsNodes, is_node, levels}
use Rattle.node_table.specs.Value.{Levels, by_level, value_of}
use Rattle.node_table.specs.Made.{inner}
use Rattle.quantify.specs.RunsFor.{Kind, MakesOnlyOf}
use Rattle.node_table.specs.Laws.{Growth}
use Rattle.schedule_plan.specs.declared.plan.Move.{Move}
use Rattle.schedule_plan.specs.Plan.{Term, both, Stage, term_holds, after_move, after_moves}
use Rattle.clause_terms.specs.Term.{IsTerm, by_variable}
use Rattle.apply_and.specs.Conjunction.{conjunction_of}
use Rattle.bdd_terms.specs.Parts.{term_function}
use Rattle.term_runner.specs.Nodes.{KeepsOrMakes}
use Rattle.bdd_terms.proofs.Places.{agree_within, value_there}

-- the nodes look at no other levels than those of the order
module _ (graph : Graph) (reduced : IsReduced graph) (ordered : IsOrder graph.order) where
  -- a node's function by levels, where it is a term's by assignments
  pub node_function : (formula : Formula) (node : Node) (term : Term) → is_node graph node ≡ true
      → ((a : Assignment) → value_of graph (by_level graph.order a) node ≡ term_holds formula a term)
      → (a : Levels) → value_of graph a node ≡ term_function formula graph.order term a
  node_function formula node term stands value a =
      sym (agree_within graph reduced ordered (levels graph) (by_level graph.order (by_variable graph.order a)) a node stands
      (λ level small. (value_there graph reduced ordered) a level small)) ∙ value (by_variable graph.order a)

  -- the conjunction of two terms' nodes
  pub both_function : (formula : Formula) (live : Live) (u v : Node) (first second : Justification) (one other : Term)
      → IsTerm graph live (λ a. term_holds formula a one) u first → IsTerm graph live (λ a. term_holds formula a other) v second
      → conjunction_of graph u v ≡ term_function formula graph.order (both one other)
  both_function formula live u v first second one other is_u is_v =
      λ i a. node_function formula u one is_u.stands is_u.value a i && node_function formula v other is_v.stands is_v.value a i

-- a front of the moves, and one move more
pub moved_on : (formula : Formula) (moves : List Move) (i : ℕ) (step : Move) (first stage next : Stage) → slice_get moves i ≡ Some step
    → after_moves formula first (take i moves) ≡ Some stage
    → after_move formula stage step ≡ Some next → after_moves formula first (take (suc i) moves) ≡ Some next
moved_on formula [] zero step first stage next at front is = cc
moved_on formula [] (suc i) step first stage next at front is = cc
moved_on formula (move ∷ moves) zero step first stage next at front is =
    ap (option_and_then (λ (later : Stage). Some later)) ((λ k. after_move formula (inside_stage first stage front k)
    (inside_move move step at k)) ∙ is)
  where
    inside_stage : (s t : Stage) → Some s ≡ Some t → s ≡ t
    inside_stage s t e = cc

    inside_move : (s t : Move) → Some s ≡ Some t → s ≡ t
    inside_move s t e = cc
moved_on formula (move ∷ moves) (suc i) step first stage next at front is = go
    (λ later e. moved_on formula moves i step later stage next at e is) (after_move formula first move) front
  where
    go : ((later : Stage) → after_moves formula later (take i moves) ≡ Some stage → after_moves formula later (take (suc i) moves)
        ≡ Some next) → (o : Option Stage)
        → option_and_then (λ later. after_moves formula later (take i moves)) o ≡ Some stage
        → option_and_then (λ later. after_moves formula later (take (suc i) moves)) o ≡ Some next
    go further None e = cc
    go further (Some later) e = further later e

-- what was made of a kind is kept, or of a kind that has all of that one
pub keeps_or_makes : Growth → (old new : Graph) (kind given : Kind) → ((part : Levels → Bool) → kind part → given part) → IsReduced old
    → KeepsNodes old new → MakesOnlyOf old new kind → KeepsOrMakes old new given
keeps_or_makes growth old new kind given gives reduced keeps made = record {
  each = λ key branch at. elim (made.each key branch at) [
    | inl there ↦ inl (there, λ a. growth.value old new reduced keeps a (inner key) (ap is_some there))
    | inr part ↦ inr (gives (λ a. value_of new a (inner key)) part)
  ];
}
