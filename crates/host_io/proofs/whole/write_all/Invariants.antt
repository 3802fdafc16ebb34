-- What the loops of `write_all` keep.
use Rattle.std.proofs.Common.{◌≡◌, ◌-◌, length}
use Rattle.host_io.proofs.Written.{HasWritten}
use Rattle.host_io.proofs.whole.write_all.Given as goal

abbrev pub invariant-pieces : goal.invariant-pieces
invariant-pieces g l =
    HasWritten g.S.Sink.tells (g.S.Sink.channel l.fn.sink) (g.S.Sink.channel l.sink) l.bytes l.done
    × (g.S.Sink.beside l.sink ≡ g.S.Sink.beside l.fn.sink)

abbrev pub decreases-pieces : goal.decreases-pieces
decreases-pieces g l = length l.bytes - l.done
