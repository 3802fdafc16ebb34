-- What is left to show of `set_all_back`.
use Rattle.std.proofs.Common.{arith}
use Rattle.reconstruction.proofs.SetEntries.{Contains-taken}
use Rattle.reconstruction.proofs.restore.set_all_back.Goals as goal

pub set_last_back-requires-clause-within : goal.set_last_back-requires-clause-within
set_last_back-requires-clause-within c entry there =
    c.requires.within entry (Contains-taken c.args.entries.now c.back.left entry there)

pub set_last_back-requires-clause-variables : goal.set_last_back-requires-clause-variables
set_last_back-requires-clause-variables c entry there =
    let it = c.requires.variables entry (Contains-taken c.args.entries.now c.back.left entry there) in
    (it.0, omega (arith, it.1, c.back.invariant.one_each))
