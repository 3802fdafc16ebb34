-- What is left to show of `take_step`.
use Rattle.std.proofs.Common.{rules}
use Rattle.drat_proof.specs.Naming.{names_ahead}
use Rattle.drat_proof.specs.Conversion.{Takes}
use Rattle.host_io.proofs.Written.{carried}
use Rattle.drat_proof.proofs.take.take_step.Goals as goal

pub returns-clause-takes : goal.returns-clause-takes
returns-clause-takes g c =
    let made = c.new-sink.ensures in
    carried (λ old new. Takes g.H.Host.tells old new c.args.judge.now c.take_into.new.judge (names_ahead c.args.naming.now)
    (names_ahead c.take_into.new.naming) c.args.step.now c.take_into.result) _ _ _ _
    c.take_into.ensures.takes (cc)
    (c.beside_kept.ensures.sink made.same_reference made.same_value made.role c.take_into.ensures.beside (search rules)).same

pub returns-clause-kept : goal.returns-clause-kept
returns-clause-kept g c =
    let made = c.new-sink.ensures in
    (c.beside_kept.ensures.sink made.same_reference made.same_value made.role c.take_into.ensures.beside (search rules)).kept
