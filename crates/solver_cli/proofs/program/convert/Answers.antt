-- What is left to show of `convert`.
use Rattle.std.proofs.Common.{ap, ◌∙◌}
use Rattle.host_io.specs.declared.role.Role.TheVariants.{Out}
use Rattle.command_line.specs.Reading.{convert_of}
use Rattle.solver_cli.specs.Ended.{ended_by}
use Rattle.solver_cli.specs.declared.status.Status.{Status}
use Rattle.solver_cli.proofs.StagedConversion.{converted, error_converted, error_unconverted, files_converted, files_unconverted}
use Rattle.solver_cli.proofs.StagedConversion.{unconverted}
use Rattle.solver_cli.proofs.program.convert.Goals as goal

pub returns-in-Err-rewrite-clause-came : goal.returns-in-Err-rewrite-clause-came
returns-in-Err-rewrite-clause-came g c =
    unconverted {task = convert_of c.args.asked.now} (g.H.Host.channel c.args.host.now) (g.H.Host.channel c.take_formula.new.host)
    (g.H.Host.channel c.rewrite.new.host) (g.H.Host.files c.args.host.now) (g.H.Host.files c.take_formula.new.host)
    (g.H.Host.files c.rewrite.new.host) c.in-Ok.ensures.takes c.in-Ok.ensures.kept c.in-Err-rewrite.ensures.rewrites c.rewrite.ensures.kept
    c.from-in-Err-rewrite.ensures

pub returns-in-Err-rewrite-clause-error : goal.returns-in-Err-rewrite-clause-error
returns-in-Err-rewrite-clause-error g c = error_unconverted c.in-Ok.ensures.kept c.rewrite.ensures.kept

pub returns-in-Err-rewrite-clause-files : goal.returns-in-Err-rewrite-clause-files
returns-in-Err-rewrite-clause-files g c = files_unconverted c.in-Ok.ensures.kept c.rewrite.ensures.kept

pub returns-clause-came : goal.returns-clause-came
returns-clause-came g c =
    converted {task = convert_of c.args.asked.now} (g.H.Host.channel c.args.host.now) (g.H.Host.channel c.take_formula.new.host)
    (g.H.Host.channel c.rewrite.new.host) (g.H.Host.channel c.put_verdict-printed.new.host) (g.H.Host.files c.args.host.now)
    (g.H.Host.files c.take_formula.new.host) (g.H.Host.files c.rewrite.new.host) (g.H.Host.files c.put_verdict-printed.new.host)
    c.in-Ok.ensures.takes c.in-Ok.ensures.kept c.in-Ok-rewrite.ensures.rewrites c.rewrite.ensures.kept c.put_verdict-printed.ensures.puts
    c.put_verdict-printed.ensures.kept
    (c.ended_by.ensures ∙ ap (λ (s : Status). ended_by s c.put_verdict-printed.result) c.verdict_status.ensures)

pub returns-clause-error : goal.returns-clause-error
returns-clause-error g c = error_converted c.in-Ok.ensures.kept c.rewrite.ensures.kept c.put_verdict-printed.ensures.kept

pub returns-clause-files : goal.returns-clause-files
returns-clause-files g c =
    files_converted (c.requires.unnamed Out) c.in-Ok.ensures.kept c.rewrite.ensures.kept c.put_verdict-printed.ensures.kept
