-- What is left to show of `unit_path_law`.
use Rattle.hint_chain.proofs.UnitPaths.{IsUnitPath-last, IsUnitPath-on_top, IsUnitPath-kept, IsUnitPath-same_set}
use Rattle.hint_chain.proofs.laws.unit_path_law.Goals as goal

pub returns-clause-last : goal.returns-clause-last
returns-clause-last c = IsUnitPath-last

pub returns-clause-on_top : goal.returns-clause-on_top
returns-clause-on_top c = IsUnitPath-on_top

pub returns-clause-kept : goal.returns-clause-kept
returns-clause-kept c = IsUnitPath-kept

pub returns-clause-same_set : goal.returns-clause-same_set
returns-clause-same_set c = IsUnitPath-same_set
