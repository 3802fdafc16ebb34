-- What is left to show of `answer_cubes`.
use Rattle.std.proofs.Common.{rules, ap, ◌∙◌}
use Rattle.solver_cli.specs.Ended.{ended_by}
use Rattle.solver_cli.specs.declared.status.Status.{Status}
use Rattle.solver_cli.proofs.StagedAsk.{beside_replied, beside_unreplied, replied, uncreated, unreplied}
use Rattle.solver_cli.proofs.StagedTrim.{kept_file}
use Rattle.solver_cli.proofs.asking.answer_cubes.Goals as goal

pub returns-then-is_err-clause-came : goal.returns-then-is_err-clause-came
returns-then-is_err-clause-came g c =
    uncreated {old = g.H.Host.channel c.args.host.now} {new = g.H.Host.channel c.create.new.self} c.create.ensures.opens (search rules)
    c.create.ensures.kept

pub returns-then-is_err-clause-beside : goal.returns-then-is_err-clause-beside
returns-then-is_err-clause-beside g c = kept_file c.create.ensures.kept

pub returns-in-Err-clause-came : goal.returns-in-Err-clause-came
returns-in-Err-clause-came g c =
    unreplied {old = g.H.Host.channel c.args.host.now} {created = g.H.Host.channel c.create.new.self}
    {new = g.H.Host.channel c.reply.new.host} c.create.ensures.opens (search rules) c.create.ensures.kept c.in-Err.ensures.writes
    c.reply.ensures.kept c.from.ensures

pub returns-in-Err-clause-beside : goal.returns-in-Err-clause-beside
returns-in-Err-clause-beside g c = beside_unreplied c.create.ensures.kept c.reply.ensures.kept c.in-Err.ensures.writes.name

pub returns-clause-came : goal.returns-clause-came
returns-clause-came g c =
    replied {old = g.H.Host.channel c.args.host.now} {created = g.H.Host.channel c.create.new.self}
    {read = g.H.Host.channel c.reply.new.host} {new = g.H.Host.channel c.put_replies-printed.new.host} c.create.ensures.opens (search rules)
    c.create.ensures.kept c.in-Ok.ensures.writes c.reply.ensures.kept c.put_replies-printed.ensures.puts
    c.put_replies-printed.ensures.kept (c.ended_by.ensures ∙ ap (λ (s : Status). ended_by s c.put_replies-printed.result) c.status_of_replies.ensures)

pub returns-clause-beside : goal.returns-clause-beside
returns-clause-beside g c =
    beside_replied c.requires.unnamed_out c.create.ensures.kept c.reply.ensures.kept c.in-Ok.ensures.writes.name c.put_replies-printed.ensures.kept
