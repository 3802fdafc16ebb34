-- The sink is a view of the host's role.
use Rattle.std.proofs.Common.{rules}
use Rattle.host_io.proofs.Written.{carried}
use Rattle.lrat_from_drat.specs.Starting.{Begins}
use Rattle.lrat_from_drat.proofs.start.begin_in.Goals as goal

pub returns-clause-begins : goal.returns-clause-begins
returns-clause-begins g c = λ clauses from.
    let made = c.new-sink.ensures in
    carried (λ old new. Begins g.H.Host.tells old new clauses c.begin.result) _ _ _ _
    (c.begin.ensures.begins clauses from) (cc)
    (c.beside_kept.ensures.sink made.same_reference made.same_value made.role c.begin.ensures.beside (search rules)).same

pub returns-clause-kept : goal.returns-clause-kept
returns-clause-kept g c =
    let made = c.new-sink.ensures in
    (c.beside_kept.ensures.sink made.same_reference made.same_value made.role c.begin.ensures.beside (search rules)).kept
