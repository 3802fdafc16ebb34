-- How a run ends that had to write a text yet.
use Rattle.std.specs.Prelude.{Result, Ok, Err, ⊤}
use Rattle.host_io.specs.declared.source.Failed.{Failed}
use Rattle.solver_cli.specs.declared.status.Status.{Status}
use Rattle.solver_cli.specs.declared.status.Status.TheVariants.{WriteFault}

-- so, or by a write fault
abbrev pub ended_by : Status → Result ⊤ Failed → Status
ended_by so (Ok x) = so
ended_by so (Err e) = WriteFault
