-- The numbers of the reasons why a proof is refused. (They are this project's own.)
use Rattle.std.specs.Prelude.{ℕ}
use Rattle.lrat_rules.specs.declared.outcome.Reason.{Reason}
use Rattle.lrat_rules.specs.declared.outcome.Reason.TheVariants.{Syntax, IdNotGreater, HintNotLive, HintNotUnit, NoConflict, CandidateOpen}
use Rattle.lrat_rules.specs.declared.outcome.Reason.TheVariants.{GroupStray, NoEmptyClause}

-- the number of a reason
abbrev pub number_of : Reason → ℕ
number_of Syntax = 1
number_of IdNotGreater = 2
number_of HintNotLive = 3
number_of HintNotUnit = 4
number_of NoConflict = 5
number_of CandidateOpen = 6
number_of GroupStray = 7
number_of NoEmptyClause = 8
