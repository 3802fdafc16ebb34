-- Two inner nodes that differ.
use Rattle.quantify.proofs.Disjunctions.{is_inner}
use Rattle.quantify.proofs.disjoin.plain.Goals as goal

pub returns-in-Inner-Inner-2-clause-disjoined : goal.returns-in-Inner-Inner-2-clause-disjoined
returns-in-Inner-Inner-2-clause-disjoined c graph first second = (
  is_inner graph c.args.u c.in-Inner-Inner-2.field-0-0 c.in-Inner-Inner-2.is-0 first,
  is_inner graph c.args.v c.in-Inner-Inner-2.field-0-1 c.in-Inner-Inner-2.is-1 second,
)
