-- What is left to show of `put_core_at`.
use Rattle.std.proofs.Common.{rules}
use Rattle.solver_cli.proofs.Cut.{put_whole, uncreated}
use Rattle.solver_cli.proofs.trimming.put_core_at.Goals as goal

pub returns-then-is_err-clause-puts : goal.returns-then-is_err-clause-puts
returns-then-is_err-clause-puts g c = uncreated c.create.ensures.opens (search rules)

pub returns-clause-puts : goal.returns-clause-puts
returns-clause-puts g c = put_whole c.create.ensures.opens (search rules) c.put_numbers.ensures.puts
