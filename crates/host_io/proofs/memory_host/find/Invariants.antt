-- What the loops of `find` keep.
use Rattle.std.proofs.Common.{◌≡◌, drop}
use Rattle.host_io.specs.Memory.{stored}
use Rattle.host_io.proofs.memory_host.find.Given as goal

abbrev pub invariant-loop-file : goal.invariant-loop-file
invariant-loop-file l = stored (drop l.file-index l.files) l.name ≡ stored l.files l.name
