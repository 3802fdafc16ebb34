-- The width of a plan where all terms count whole: the stacked ones, those of the trail, and all that a move gives. What is wider is so by this
-- count, too. (Bryant, Heule: Generating Extended Resolution Proofs with a BDD-Based SAT Solver, 2021, section 5.)
use Rattle.std.specs.Prelude.{◌⊎◌, ℕ, Bool, List, map, Contains}
use Rattle.cnf_base.specs.Formula.{Formula}
use Rattle.node_table.specs.Value.{Levels, IsSubfunction}
use Rattle.schedule_plan.specs.declared.plan.Move.{Move}
use Rattle.schedule_plan.specs.Plan.{Stage, Term}
use Rattle.schedule_plan.specs.SetMove.{IsGiven, in_order}
use Rattle.bdd_terms.specs.Parts.{AreMore, term_function}
use Rattle.term_runner.specs.Width.{IsMove}

-- a part of one of these terms
pub record IsWholePart (formula : Formula) (order : List ℕ) (before after : Stage) (part : Levels → Bool) : Type 0 where
  pub term : Term
  pub there : Contains before.stack term ⊎ (Contains (map (λ kept. kept.1) before.trail) term ⊎ IsGiven before after term)
  pub is_part : IsSubfunction (term_function formula order term) part

-- at some move of the plan there are more parts than this number
pub record IsWiderWhole (formula : Formula) (order : List ℕ) (moves : List Move) (number : ℕ) : Type 0 where
  pub count : ℕ
  pub before : Stage
  pub after : Stage
  pub move : IsMove formula (in_order order moves) count before after
  pub more : AreMore (IsWholePart formula order before after) number
