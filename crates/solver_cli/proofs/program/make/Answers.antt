-- What is left to show of `make`.
use Rattle.std.proofs.Common.{rules}
use Rattle.solver_cli.proofs.Answering.{board_made, board_text, file_uncreated}
use Rattle.solver_cli.proofs.program.make.Goals as goal

pub returns-then-is_err-clause-came : goal.returns-then-is_err-clause-came
returns-then-is_err-clause-came g c =
    board_made (g.H.Host.channel c.args.host.now) (g.H.Host.channel c.create.new.self) c.create.ensures.kept.others
    (file_uncreated c.create.ensures.opens (search rules))

pub returns-clause-came : goal.returns-clause-came
returns-clause-came g c =
    board_text (g.H.Host.channel c.args.host.now) (g.H.Host.channel c.create.new.self) (g.H.Host.channel c.put_part-written.new.host)
    c.create.ensures.opens (search rules) c.create.ensures.kept.others c.put_part-written.ensures.puts
    c.put_part-written.ensures.kept.others c.ended_by.ensures
