-- What is left to show of `trim_proof`.
use Rattle.std.proofs.Common.{rules}
use Rattle.solver_cli.proofs.Cut.{cut_whole, unopened}
use Rattle.solver_cli.proofs.trimming.trim_proof.Goals as goal

pub returns-then-is_err-clause-trims : goal.returns-then-is_err-clause-trims
returns-then-is_err-clause-trims g c = unopened c.open_read.ensures.opens (search rules)

pub returns-clause-trims : goal.returns-clause-trims
returns-clause-trims g c =
    cut_whole c.open_read.ensures.opens (search rules) c.open_read.ensures.content
    c.trim_opened.ensures.trims
