-- What is left to show of `put_reasons`.
use Rattle.solver_cli.proofs.Commented.{put_told}
use Rattle.solver_cli.proofs.explaining.put_reasons.Goals as goal

pub returns-clause-told : goal.returns-clause-told
returns-clause-told g c = put_told c.bytes.result.now c.put_line-written.result c.bytes.ensures c.put_line-written.ensures.puts
