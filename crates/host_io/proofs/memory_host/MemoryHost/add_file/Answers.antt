-- What is left to show of `MemoryHost::add_file`.
use Rattle.std.proofs.Common.{arith}
use Rattle.std.proofs.lemmas.Grind.{common_steps}
use Rattle.host_io.proofs.Added.{adds_front}
use Rattle.host_io.proofs.memory_host.MemoryHost.add_file.Goals as goal

pub returns-clause-ok : goal.returns-clause-ok
returns-clause-ok c =
    adds_front _ _ _ _ _ _ _ _ c.self.view_is c.in_ok-insert.ensures.items (grind (arith, common_steps))
    (grind (arith, common_steps)) c.requires
