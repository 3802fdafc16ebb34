-- A stacked term has few parts.
use Rattle.std.proofs.Common.{ℕ, false, List, inl}
use Rattle.cnf_base.specs.Formula.{Formula}
use Rattle.schedule_plan.specs.Plan.{Stage, Term}
use Rattle.bdd_terms.specs.Parts.{HasAtMost, term_function}
use Rattle.term_runner.specs.Width.{HoldsAtMost, IsInHand}

-- a term in hand has no more parts than are in hand
pub few_of_term : (formula : Formula) (order : List ℕ) (before after : Stage) (term : Term) → IsInHand false before after term → (width : ℕ)
    → HoldsAtMost formula order before after width
    → HasAtMost (term_function formula order term) width
few_of_term formula order before after term there width most more =
    most (record {
      parts = more.parts;
      more = more.more;
      are = λ place small. inl (record { term = term; in_hand = there; is_part = more.are place small });
      essential = more.essential;
      differ = more.differ;
    })
