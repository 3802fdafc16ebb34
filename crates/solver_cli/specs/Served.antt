-- How far the commands come that leave standard error alone.
use Rattle.std.specs.Prelude.{Bool, ⊤}
use Rattle.host_io.specs.Files.{Files}
use Rattle.command_line.specs.Reading.{convert_of, trim_of}
use Rattle.schedule_plan.specs.Limits.{AreLimits}
use Rattle.solver_cli.specs.declared.service.Served.{Served}
use Rattle.solver_cli.specs.declared.service.Served.TheVariants as served
use Rattle.solver_cli.specs.declared.status.Status.{Status}
use Rattle.solver_cli.specs.Stages.{CameToArrange, CameToAsk, CameToCheck, CameToConvert, CameToTrim, Streams, arrange_of, ask_of, check_of}

abbrev pub CameBy : Bool → Served → Streams → Streams → Files → Status → Type 0
CameBy tells (served.Check task) old new files status = CameToCheck tells old new files (check_of task) status
CameBy tells (served.Order task) old new files status = CameToArrange tells old new files (arrange_of task) status
CameBy tells (served.Ask task) old new files status = CameToAsk tells old new files (ask_of task) status
CameBy tells (served.Convert task) old new files status = CameToConvert tells old new files (convert_of task) status
CameBy tells (served.Trim task) old new files status = CameToTrim tells old new files (trim_of task) status

-- its limits, where it has some, are ones that a run may have
abbrev pub HasLimits : Served → Type 0
HasLimits (served.Check task) = ⊤
HasLimits (served.Order task) = ⊤
HasLimits (served.Ask task) = AreLimits task.limits
HasLimits (served.Convert task) = ⊤
HasLimits (served.Trim task) = ⊤
