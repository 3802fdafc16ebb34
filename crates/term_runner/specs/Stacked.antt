-- The terms of a run, between two moves of a plan.
use Rattle.std.specs.Prelude.{reverse}
use Rattle.cnf_base.specs.Formula.{Formula}
use Rattle.schedule_plan.specs.Plan.{Stage}
use Rattle.term_runner.specs.declared.stacked.StackedTerms.{StackedTerms}
use Rattle.bdd_terms.specs.Caches.{all_entries}
use Rattle.term_runner.specs.Held.{IsAt, IsReady}
use Rattle.bdd_terms.specs.Units.{HasUnits}

-- its terms and its trail are those of this stage
abbrev pub IsAtStage : {S : Type 0} → Formula → StackedTerms S → Stage → Type 0
IsAtStage formula terms stage = IsAt formula terms.table.graph terms.table.book.state.live terms.out.items terms.trail stage

-- it is ready for a move
abbrev pub IsOpen : {S : Type 0} → Formula → StackedTerms S → Type 0
IsOpen formula terms = IsReady formula terms.table (all_entries terms.caches)

-- each of its units is that of one term, and no clause that was added is lost
abbrev pub HasOwnUnits : {S : Type 0} → StackedTerms S → Type 0
HasOwnUnits terms = HasUnits terms.table (all_entries terms.caches) (reverse terms.out.items)
