-- The width of a plan: how many different parts of terms it has in hand at one move. Those of the trail count only where its terms may
-- stand among the nodes. It speaks of terms and assignments alone, and of no diagram. A reduced diagram has a node for each part of its
-- function that isn't constant. (Bryant: Graph-Based Algorithms for Boolean Function Manipulation, 1986, section 3; Bryant, Heule:
-- Generating Extended Resolution Proofs with a BDD-Based SAT Solver, 2021, section 5.)
use Rattle.std.specs.Prelude.{◌≡◌, ◌⊎◌, ◌<◌, ◌++◌, ◌-◌, ◌==◌, ℕ, Bool, true, false, List, length, take, map, nat_lt, Contains, Some}
use Rattle.std.specs.List.{position_or_len, slice_get}
use Rattle.cnf_base.specs.Formula.{Formula}
use Rattle.node_table.specs.Value.{Levels, IsSubfunction}
use Rattle.schedule_plan.specs.declared.plan.Move.{Move}
use Rattle.schedule_plan.specs.Plan.{Term, Stage, after_move, after_moves, no_stage}
use Rattle.schedule_plan.specs.SetMove.{in_order}
use Rattle.bdd_terms.specs.Parts.{term_function, AreMore}

-- A move of the plan, the one behind so many others, leads from a stage to the next.
pub record IsMove (formula : Formula) (moves : List Move) (count : ℕ) (before after : Stage) : Type 0 where
  pub step : Move
  pub is : slice_get moves count ≡ Some step
  pub reached : after_moves formula no_stage (take count moves) ≡ Some before
  pub leads : after_move formula before step ≡ Some after

-- what a reclamation keeps between two moves: the stacked terms, and those of the trail, where these count
abbrev pub roots : Bool → Stage → List Term
roots false stage = stage.stack
roots true stage = stage.stack ++ map (λ kept. kept.1) stage.trail

-- the terms of the trail may stand among the nodes where fewer than a thousand of these are allowed: else they are copied first
abbrev pub keeps_trail : ℕ → Bool
keeps_trail max_nodes = nat_lt max_nodes 1000

-- in hand at a move: these terms before it, and its result
abbrev pub IsInHand : Bool → Stage → Stage → Term → Type 0
IsInHand trail before after term = Contains (roots trail before) term ⊎ Contains (take 1 after.stack) term

-- a part of a term in hand: its function with some first variables of the order fixed
pub record IsPartOfTerm (trail : Bool) (formula : Formula) (order : List ℕ) (before after : Stage) (part : Levels → Bool) : Type 0 where
  pub term : Term
  pub in_hand : IsInHand trail before after term
  pub is_part : IsSubfunction (term_function formula order term) part

-- A part of a term that a move puts on the trail, with the variable that is quantified from it among those that are fixed. The move makes no
-- other part of the terms between those of a set.
pub record IsPartBehind (formula : Formula) (order : List ℕ) (before after : Stage) (part : Levels → Bool) : Type 0 where
  pub kept : ℕ × Term
  pub fresh : Contains (take (length after.trail - length before.trail) after.trail) kept
  pub is_part : IsSubfunction (term_function formula order kept.1) part
  pub behind : position_or_len (λ variable. variable == kept.0) order < is_part.level

-- a part in hand
abbrev pub IsPartInHand : Bool → Formula → List ℕ → Stage → Stage → (Levels → Bool) → Type 0
IsPartInHand trail formula order before after part = IsPartOfTerm trail formula order before after part
    ⊎ IsPartBehind formula order before after part

-- more parts are in hand than this number
abbrev pub HoldsMore : Bool → Formula → List ℕ → Stage → Stage → ℕ → Type 0
HoldsMore trail formula order before after number = AreMore (IsPartInHand trail formula order before after) number

-- at most so many are in hand beside the trail
abbrev pub HoldsAtMost : Formula → List ℕ → Stage → Stage → ℕ → Type 0
HoldsAtMost formula order before after number = HoldsMore false formula order before after number → ⊥

-- at some move of the plan there are more, where the variables of each set are quantified in the reversed order
pub record IsWiderWith (trail : Bool) (formula : Formula) (order : List ℕ) (moves : List Move) (number : ℕ) : Type 0 where
  pub count : ℕ
  pub before : Stage
  pub after : Stage
  pub move : IsMove formula (in_order order moves) count before after
  pub more : HoldsMore trail formula order before after number

-- there are more beside the trail
abbrev pub IsWider : Formula → List ℕ → List Move → ℕ → Type 0
IsWider formula order moves number = IsWiderWith false formula order moves number

-- the width of the plan, with or without the trail, is this number at most
abbrev pub HasWidthWith : Bool → Formula → List ℕ → List Move → ℕ → Type 0
HasWidthWith trail formula order moves number = IsWiderWith trail formula order moves number → ⊥

-- the width of the plan is this number at most
abbrev pub HasWidth : Formula → List ℕ → List Move → ℕ → Type 0
HasWidth formula order moves number = IsWider formula order moves number → ⊥
