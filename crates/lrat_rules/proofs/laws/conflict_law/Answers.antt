-- What is left to show of `conflict_law`.
use Rattle.lrat_rules.proofs.Strictness.{conflict_refutes}
use Rattle.lrat_rules.proofs.laws.conflict_law.Goals as goal

pub returns : goal.returns
returns c live clause hint at = conflict_refutes live clause hint at
