-- What is left to show of `write_addition`.
use Rattle.drat_proof.specs.Naming.{names_ahead}
use Rattle.drat_proof.proofs.Taking.{writes_addition}
use Rattle.drat_proof.proofs.take.write_addition.Goals as goal

pub returns-clause-writes : goal.returns-clause-writes
returns-clause-writes g c =
    rw c.answer_by.ensures (writes_addition (names_ahead c.args.naming.now) c.args.clause.now c.write_step.result c.in_ok-enter.ensures
    c.write_step.ensures.writes)
