-- What is left to show of `serve_over`: how far the command came is said of the one that was served.
use Rattle.std.proofs.Common.{sym, subst}
use Rattle.solver_cli.specs.declared.service.Served.{Served}
use Rattle.solver_cli.specs.Served.{CameBy}
use Rattle.solver_cli.specs.Stages.{streams_of}
use Rattle.solver_cli.proofs.service.serve_over.Goals as goal

pub returns-in-Order-clause-came : goal.returns-in-Order-clause-came
returns-in-Order-clause-came g c =
    subst (λ (s : Served). CameBy g.H.Host.tells s (streams_of (g.H.Host.channel c.args.host.now))
    (streams_of (g.H.Host.channel c.arrange.new.host)) (g.H.Host.files c.args.host.now) c.arrange.result)
    (sym c.in-Order.is) c.arrange.ensures.came

pub returns-in-Ask-clause-came : goal.returns-in-Ask-clause-came
returns-in-Ask-clause-came g c =
    subst (λ (s : Served). CameBy g.H.Host.tells s (streams_of (g.H.Host.channel c.args.host.now))
    (streams_of (g.H.Host.channel c.ask.new.host)) (g.H.Host.files c.args.host.now) c.ask.result)
    (sym c.in-Ask.is) c.ask.ensures.came

pub returns-in-Trim-clause-came : goal.returns-in-Trim-clause-came
returns-in-Trim-clause-came g c =
    subst (λ (s : Served). CameBy g.H.Host.tells s (streams_of (g.H.Host.channel c.args.host.now))
    (streams_of (g.H.Host.channel c.trim.new.host)) (g.H.Host.files c.args.host.now) c.trim.result)
    (sym c.in-Trim.is) c.trim.ensures.came
