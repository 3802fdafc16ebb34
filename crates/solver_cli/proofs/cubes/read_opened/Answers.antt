-- What is left to show of `read_opened`.
use Rattle.std.proofs.Common.{inr, rules}
use Rattle.solver_cli.proofs.Reading.{read}
use Rattle.solver_cli.proofs.cubes.read_opened.Goals as goal

pub returns-clause-reads : goal.returns-clause-reads
returns-clause-reads g c =
    let made = c.new-source.ensures in
    let answer = c.read_cubes.ensures in
    read (cc) (c.beside_kept.ensures.source made.same_reference made.same_value made.role answer.beside
    (search rules)).same answer.decides answer.cubes answer.fault answer.unfailed answer.undecided
    (λ t e. inr (answer.memory t e)) answer.reads

pub returns-clause-kept : goal.returns-clause-kept
returns-clause-kept g c =
    let made = c.new-source.ensures in
    (c.beside_kept.ensures.source made.same_reference made.same_value made.role c.read_cubes.ensures.beside (search rules)).kept
