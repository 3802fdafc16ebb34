-- What a move leaves in a graph, and a move that wants one more node than there may be.
use Rattle.std.specs.Prelude.{◌≡◌, ◌⊎◌, ℕ, Bool, List, Some, Contains, IsTrue, take}
use Rattle.cnf_base.specs.Formula.{Formula}
use Rattle.node_table.specs.declared.node.Node.{Node}
use Rattle.node_table.specs.declared.node.Branch.{Branch}
use Rattle.node_table.specs.Diagram.{Graph, branch_at, is_node}
use Rattle.node_table.specs.Made.{inner}
use Rattle.node_table.specs.Value.{Levels, value_of, IsSubfunction}
use Rattle.schedule_plan.specs.declared.plan.Move.{Move}
use Rattle.schedule_plan.specs.Plan.{Stage, Term}
use Rattle.schedule_plan.specs.SetMove.{in_order}
use Rattle.quantify.specs.RunsFor.{Kind}
use Rattle.term_runner.specs.Width.{IsMove, IsPartBehind, IsPartInHand}
use Rattle.bdd_terms.specs.Parts.{term_function}

-- At a move each node has the function of a part in hand, and so has a further one, which is that of no node.
pub record RunsShort (trail : Bool) (formula : Formula) (order : List ℕ) (moves : List Move) (graph : Graph) : Type 0 where
  pub count : ℕ
  pub before : Stage
  pub after : Stage
  pub move : IsMove formula (in_order order moves) count before after
  pub in_hand : (key : ℕ) (branch : Branch) → branch_at graph key ≡ Some branch
      → IsPartInHand trail formula order before after (λ a. value_of graph a (inner key))
  pub further : Levels → Bool
  pub is_part : IsPartInHand trail formula order before after further
  pub nowhere : (node : Node) → IsTrue (is_node graph node) → ((a : Levels) → value_of graph a node ≡ further a) → ⊥

-- a part of a move's result
pub record IsResultPart (formula : Formula) (order : List ℕ) (after : Stage) (part : Levels → Bool) : Type 0 where
  pub term : Term
  pub is_result : Contains (take 1 after.stack) term
  pub is_part : IsSubfunction (term_function formula order term) part

-- a part that a move makes: of its result, or of a term that it puts on the trail, behind the variable that is quantified from it
abbrev pub IsGivenPart : Formula → List ℕ → Stage → Stage → (Levels → Bool) → Type 0
IsGivenPart formula order before after part = IsResultPart formula order after part ⊎ IsPartBehind formula order before after part

-- After a move each node is one that was there, with its function, or its function is of this kind.
pub record KeepsOrMakes (old new : Graph) (kind : Kind) : Type 0 where
  pub each : (key : ℕ) (branch : Branch) → branch_at new key ≡ Some branch
      → ((branch_at old key ≡ Some branch) × ((a : Levels) → value_of new a (inner key) ≡ value_of old a (inner key)))
      ⊎ kind (λ a. value_of new a (inner key))
