-- What is left to show of `emit_first`.
use Rattle.host_io.proofs.Emitting.{alone}
use Rattle.host_io.proofs.held.emit_first.Goals as goal

pub returns-in-Err-clause-emits : goal.returns-in-Err-clause-emits
returns-in-Err-clause-emits g c = rw (c.in-Err.ensures.err, c.requires) (alone c.write_all.ensures.writes)
