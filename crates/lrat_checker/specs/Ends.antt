-- Where a run over hints ends, beside the set of false literals that it leaves.
use Rattle.lrat_rules.specs.Chain.{FalseSet, Outcome, Open, Closed, Bad}
use Rattle.lrat_checker.specs.declared.propagation.HintsEnd.{HintsEnd}
use Rattle.lrat_checker.specs.declared.propagation.HintsEnd.TheVariants.{NoConflict, Conflict, BadHint}

-- what the end says, the false literals being these
abbrev pub outcome_at : FalseSet → HintsEnd → Outcome
outcome_at n NoConflict = Open n
outcome_at n Conflict = Closed
outcome_at n (BadHint reason) = Bad reason
