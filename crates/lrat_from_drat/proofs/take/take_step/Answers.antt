-- The sink is a view of the host's role.
use Rattle.std.proofs.Common.{rules}
use Rattle.host_io.proofs.Written.{carried}
use Rattle.drat_rules.specs.Clauses.{equality_of}
use Rattle.lrat_from_drat.specs.Writing.{Takes}
use Rattle.lrat_from_drat.proofs.take.take_step.Goals as goal

pub returns-clause-takes : goal.returns-clause-takes
returns-clause-takes g c =
    let made = c.new-sink.ensures in
    carried (λ old new. Takes g.H.Host.tells old new (equality_of c.args.deletions) c.args.judge.now c.take_into.new.judge c.args.step.now
    c.take_into.result) _ _ _ _
    c.take_into.ensures.takes (cc)
    (c.beside_kept.ensures.sink made.same_reference made.same_value made.role c.take_into.ensures.beside (search rules)).same

pub returns-clause-kept : goal.returns-clause-kept
returns-clause-kept g c =
    let made = c.new-sink.ensures in
    (c.beside_kept.ensures.sink made.same_reference made.same_value made.role c.take_into.ensures.beside (search rules)).kept
