-- What is left to show of `check_opened`.
use Rattle.std.proofs.Common.{rules}
use Rattle.solver_cli.proofs.Judging.{checked}
use Rattle.solver_cli.proofs.judgement.check_opened.Goals as goal

pub returns-clause-checks : goal.returns-clause-checks
returns-clause-checks g c =
    let made = c.new-source.ensures in
    let judged = c.check_in.ensures in
    checked c.args.format (cc) (c.beside_kept.ensures.source made.same_reference made.same_value made.role judged.beside
    (search rules)).same judged.decides judged.fault judged.unfailed judged.undecided judged.memory judged.reads

pub returns-clause-kept : goal.returns-clause-kept
returns-clause-kept g c =
    let made = c.new-source.ensures in
    (c.beside_kept.ensures.source made.same_reference made.same_value made.role c.check_in.ensures.beside (search rules)).kept
