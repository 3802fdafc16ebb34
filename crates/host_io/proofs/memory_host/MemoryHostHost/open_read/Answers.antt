-- What is left to show of `MemoryHostHost::open_read`.
use Rattle.std.proofs.Common.{inl}
use Rattle.host_io.proofs.Unopened.{opens_not}
use Rattle.host_io.proofs.memory_host.MemoryHostHost.open_read.Goals as goal

pub returns-in-None-clause-opens : goal.returns-in-None-clause-opens
returns-in-None-clause-opens c =
    let unused = c.unnamed_law.ensures _ (inl c.requires.input) c.requires.unnamed in
    opens_not _ _ _ _ unused c.requires.unnamed c.fail.ensures.faulted c.fail.ensures.no_less
