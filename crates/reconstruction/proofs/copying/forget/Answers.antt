-- What is left to show of `forget`.
use Rattle.std.proofs.Common.{arith}
use Rattle.reconstruction.proofs.Copied.{forgets_all}
use Rattle.reconstruction.proofs.copying.forget.Goals as goal

pub returns-clause-forgets : goal.returns-clause-forgets
returns-clause-forgets g c = forgets_all c.args.table.now.graph c.args.copies.now.items c.keys.copies.items c.keys.key c.keys.invariant.places
    (omega (arith, c.keys.invariant.places)) c.keys.invariant.done
