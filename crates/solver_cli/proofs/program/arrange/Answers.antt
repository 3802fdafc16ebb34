-- What is left to show of `arrange`.
use Rattle.std.proofs.Common.{rules}
use Rattle.solver_cli.specs.Stages.{arrange_of}
use Rattle.solver_cli.proofs.Answering.{arranged, file_uncreated, order_text}
use Rattle.solver_cli.proofs.program.arrange.Goals as goal

pub returns-then-is_err-clause-came : goal.returns-then-is_err-clause-came
returns-then-is_err-clause-came g c =
    arranged {task = arrange_of c.args.asked.now} (g.H.Host.channel c.args.host.now) (g.H.Host.channel c.take_formula.new.host)
    (g.H.Host.channel c.create.new.self) c.in-Ok.ensures.takes c.in-Ok.ensures.kept.others c.in-Ok-order_by.ensures
    c.create.ensures.kept.others (file_uncreated c.create.ensures.opens (search rules))

pub returns-clause-came : goal.returns-clause-came
returns-clause-came g c =
    order_text {task = arrange_of c.args.asked.now} (g.H.Host.channel c.args.host.now) (g.H.Host.channel c.take_formula.new.host)
    (g.H.Host.channel c.create.new.self) (g.H.Host.channel c.put_order-written.new.host) c.in-Ok.ensures.takes c.in-Ok.ensures.kept.others
    c.in-Ok-order_by.ensures c.create.ensures.opens (search rules) c.create.ensures.kept.others c.put_order-written.ensures.puts
    c.put_order-written.ensures.kept.others c.ended_by.ensures
