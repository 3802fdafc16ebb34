-- The formula's clauses stand.
use Rattle.std.proofs.Common.{◌∙◌, ap}
use Rattle.drat_checker.specs.Places.{standing}
use Rattle.drat_checker.proofs.Standing.{standing-all}
use Rattle.drat_checker.proofs.judge.DratJudge.open.Goals as goal

pub returns : goal.returns
returns c = ap standing c.in_ok-judge.ensures ∙ standing-all c.args.formula.now.clauses
