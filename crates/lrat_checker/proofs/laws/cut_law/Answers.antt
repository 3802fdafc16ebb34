-- What is left to show of `cut_law`.
use Rattle.lrat_checker.proofs.Cutting.{cut_by-uses}
use Rattle.lrat_checker.proofs.laws.cut_law.Goals as goal

pub returns : goal.returns
returns c = cut_by-uses
