-- What is left to show of `write_deletion`.
use Rattle.drat_text.specs.declared.step.DratStep.TheVariants.{Delete as deletes}
use Rattle.drat_proof.specs.Naming.{names_ahead}
use Rattle.drat_proof.proofs.Named.{no_steps}
use Rattle.drat_proof.proofs.Taking.{one_line_by, nothing_written}
use Rattle.drat_proof.proofs.take.write_deletion.Goals as goal

pub returns-in-Some-clause-writes : goal.returns-in-Some-clause-writes
returns-in-Some-clause-writes g c =
    rw c.in-Some.is (one_line_by (names_ahead c.args.naming.now) (names_ahead c.leave.new.self) (deletes c.in-Some.clause.now)
    c.leave.ensures c.write_step.ensures.writes)

pub returns-in-None-clause-writes : goal.returns-in-None-clause-writes
returns-in-None-clause-writes g c =
    rw (c.in-None.is, no_steps (names_ahead c.args.naming.now)) (nothing_written _)
