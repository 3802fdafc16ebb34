-- What the loops of `fill` keep.
use Rattle.std.proofs.Common.{◌≡◌, ◌-◌, length}
use Rattle.host_io.proofs.HasRead.{HasRead}
use Rattle.host_io.proofs.whole.fill.Given as goal

abbrev pub invariant-pieces : goal.invariant-pieces
invariant-pieces g l =
    HasRead g.S.Source.tells (g.S.Source.channel l.fn.source) (g.S.Source.channel l.source) l.buf l.done
    × (g.S.Source.beside l.source ≡ g.S.Source.beside l.fn.source)

abbrev pub decreases-pieces : goal.decreases-pieces
decreases-pieces g l = length l.buf - l.done
