-- What is left to show of `put_core`.
use Rattle.std.proofs.Common.{ap}
use Rattle.command_line.specs.Reading.{text_of}
use Rattle.solver_cli.proofs.Cut.{put_named, put_unnamed}
use Rattle.solver_cli.proofs.trimming.put_core.Goals as goal

pub returns-in-Some-clause-puts : goal.returns-in-Some-clause-puts
returns-in-Some-clause-puts g c = put_named (ap text_of c.in-Some.is) c.put_core_at.ensures.puts

pub returns-in-None-clause-puts : goal.returns-in-None-clause-puts
returns-in-None-clause-puts g c = put_unnamed (ap text_of c.in-None.is)
