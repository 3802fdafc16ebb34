-- What is left to show of `trim_opened`.
use Rattle.std.proofs.Common.{rules}
use Rattle.solver_cli.proofs.Cut.{cut}
use Rattle.solver_cli.proofs.trimming.trim_opened.Goals as goal

pub returns-clause-trims : goal.returns-clause-trims
returns-clause-trims g c =
    let made = c.new-source.ensures in
    let trims = c.trim.ensures in
    cut (cc) (c.beside_kept.ensures.source made.same_reference made.same_value made.role trims.beside (search rules)).same trims.decides
    trims.fault trims.unfailed trims.undecided trims.memory trims.reads

pub returns-clause-kept : goal.returns-clause-kept
returns-clause-kept g c =
    let made = c.new-source.ensures in
    (c.beside_kept.ensures.source made.same_reference made.same_value made.role c.trim.ensures.beside (search rules)).kept
