-- What is left to show of `check`.
use Rattle.std.proofs.Common.{refl, ap, ◌∙◌}
use Rattle.host_io.specs.declared.role.Role.TheVariants.{Err as ErrRole}
use Rattle.solver_cli.specs.Ended.{ended_by}
use Rattle.solver_cli.specs.declared.status.Status.{Status}
use Rattle.solver_cli.proofs.StagedCheck.{unjudged, judged}
use Rattle.solver_cli.proofs.program.check.Goals as goal

pub returns-in-Err-judge-clause-came : goal.returns-in-Err-judge-clause-came
returns-in-Err-judge-clause-came g c =
    unjudged (g.H.Host.channel c.args.host.now) (g.H.Host.channel c.take_formula.new.host) (g.H.Host.channel c.judge.new.host)
    (g.H.Host.files c.args.host.now) (g.H.Host.files c.take_formula.new.host)
    c.in-Ok.ensures.takes c.in-Ok.ensures.kept.others c.in-Ok.ensures.kept.files c.in-Err-judge.ensures.judges
    c.judge.ensures.kept.others c.from-in-Err-judge.ensures

pub returns-clause-came : goal.returns-clause-came
returns-clause-came g c =
    judged (g.H.Host.channel c.args.host.now) (g.H.Host.channel c.take_formula.new.host) (g.H.Host.channel c.judge.new.host)
    (g.H.Host.channel c.put_verdict-printed.new.host) (g.H.Host.files c.args.host.now) (g.H.Host.files c.take_formula.new.host)
    c.in-Ok.ensures.takes c.in-Ok.ensures.kept.others c.in-Ok.ensures.kept.files c.in-Ok-judge.ensures.judges
    c.judge.ensures.kept.others c.put_verdict-printed.ensures.puts c.put_verdict-printed.ensures.kept.others
    (c.ended_by.ensures ∙ ap (λ (s : Status). ended_by s c.put_verdict-printed.result) c.verdict_status.ensures)

-- what was left alone
pub returns-in-Err-clause-error : goal.returns-in-Err-clause-error
returns-in-Err-clause-error g c = c.take_formula.ensures.kept.others ErrRole refl

pub returns-in-Err-judge-clause-error : goal.returns-in-Err-judge-clause-error
returns-in-Err-judge-clause-error g c = c.judge.ensures.kept.others ErrRole refl ∙ c.in-Ok.ensures.kept.others ErrRole refl

pub returns-clause-error : goal.returns-clause-error
returns-clause-error g c =
    c.put_verdict-printed.ensures.kept.others ErrRole refl ∙ c.judge.ensures.kept.others ErrRole refl
    ∙ c.in-Ok.ensures.kept.others ErrRole refl

pub returns-in-Err-clause-files : goal.returns-in-Err-clause-files
returns-in-Err-clause-files g c = c.take_formula.ensures.kept.files

pub returns-in-Err-judge-clause-files : goal.returns-in-Err-judge-clause-files
returns-in-Err-judge-clause-files g c = λ file own. c.judge.ensures.kept.files file own ∙ c.in-Ok.ensures.kept.files file own
