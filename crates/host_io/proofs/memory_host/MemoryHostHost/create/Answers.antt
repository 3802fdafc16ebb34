-- What is left to show of `MemoryHostHost::create`.
use Rattle.std.proofs.Common.{inr}
use Rattle.host_io.proofs.Unopened.{opens_not}
use Rattle.host_io.proofs.memory_host.MemoryHostHost.create.Goals as goal

pub returns-in-Err-clause-opens : goal.returns-in-Err-clause-opens
returns-in-Err-clause-opens c =
    let unused = c.unnamed_law.ensures _ (inr c.requires.created) c.requires.unnamed in
    opens_not _ _ _ _ unused c.requires.unnamed c.fail.ensures.faulted c.fail.ensures.no_less
