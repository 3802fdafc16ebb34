-- What is left to show of `answer`.
use Rattle.std.proofs.Common.{rules, refl, ap, ◌∙◌}
use Rattle.host_io.specs.declared.role.Role.TheVariants.{Out, ProofOut, Err as ErrRole}
use Rattle.solver_cli.specs.Ended.{ended_by}
use Rattle.solver_cli.specs.declared.status.Status.{Status}
use Rattle.solver_cli.proofs.Answering.{leaves_created, leaves_proved, leaves_printed, uncreated, undecided, answered, files_answered}
use Rattle.solver_cli.proofs.Commented.{told_between, untold}
use Rattle.solver_cli.proofs.Muted.{muted, muted_but, muted_kept, muted_others, muted_two, of_muted}
use Rattle.solver_cli.proofs.program.answer.Goals as goal

pub returns-then-is_err-clause-came : goal.returns-then-is_err-clause-came
returns-then-is_err-clause-came g c = uncreated c.create.ensures.opens (search rules) c.create.ensures.kept.others

pub returns-then-is_err-clause-told : goal.returns-then-is_err-clause-told
returns-then-is_err-clause-told g c = untold c.args.job.now.progress (c.create.ensures.kept.others ErrRole refl)

pub returns-then-is_err-clause-inputs : goal.returns-then-is_err-clause-inputs
returns-then-is_err-clause-inputs g c = leaves_created c.create.ensures.kept.others

pub returns-in-Err-clause-came : goal.returns-in-Err-clause-came
returns-in-Err-clause-came g c =
    undecided {old = (muted (g.H.Host.channel c.args.host.now))} {created = (muted (g.H.Host.channel c.create.new.self))}
    {new = (muted (g.H.Host.channel c.prove.new.host))}
    c.create.ensures.opens (search rules) (muted_others ProofOut c.create.ensures.kept.others) c.in-Err.ensures.writes
    (muted_two ProofOut c.prove.ensures.kept.others) c.from.ensures

pub returns-in-Err-clause-told : goal.returns-in-Err-clause-told
returns-in-Err-clause-told g c = told_between (c.create.ensures.kept.others ErrRole refl) refl c.prove.ensures.notes

pub returns-in-Err-clause-inputs : goal.returns-in-Err-clause-inputs
returns-in-Err-clause-inputs g c =
    of_muted (leaves_proved {old = (muted (g.H.Host.channel c.args.host.now))} {created = (muted (g.H.Host.channel c.create.new.self))}
    {proved = (muted (g.H.Host.channel c.prove.new.host))}
    (muted_others ProofOut c.create.ensures.kept.others) (muted_two ProofOut c.prove.ensures.kept.others))

pub returns-clause-came : goal.returns-clause-came
returns-clause-came g c =
    answered {old = (muted (g.H.Host.channel c.args.host.now))} {created = (muted (g.H.Host.channel c.create.new.self))}
    {proved = (muted (g.H.Host.channel c.prove.new.host))} {new = (muted (g.H.Host.channel c.put_answer-printed.new.host))}
    c.create.ensures.opens (search rules) (muted_others ProofOut c.create.ensures.kept.others) c.in-Ok.ensures.writes
    (muted_two ProofOut c.prove.ensures.kept.others)
    c.put_answer-printed.ensures.puts (muted_others Out c.put_answer-printed.ensures.kept.others)
    (c.ended_by.ensures ∙ ap (λ (s : Status). ended_by s c.put_answer-printed.result) c.status_of.ensures)

pub returns-clause-told : goal.returns-clause-told
returns-clause-told g c =
    told_between (c.create.ensures.kept.others ErrRole refl) (c.put_answer-printed.ensures.kept.others ErrRole refl) c.prove.ensures.notes

pub returns-clause-inputs : goal.returns-clause-inputs
returns-clause-inputs g c =
    of_muted (leaves_printed {old = (muted (g.H.Host.channel c.args.host.now))} {created = (muted (g.H.Host.channel c.create.new.self))}
    {proved = (muted (g.H.Host.channel c.prove.new.host))} {new = (muted (g.H.Host.channel c.put_answer-printed.new.host))}
    (muted_others ProofOut c.create.ensures.kept.others) (muted_two ProofOut c.prove.ensures.kept.others)
    (muted_others Out c.put_answer-printed.ensures.kept.others))

pub returns-clause-files : goal.returns-clause-files
returns-clause-files g c =
    files_answered {old = (muted (g.H.Host.channel c.args.host.now))} {created = (muted (g.H.Host.channel c.create.new.self))}
    {proved = (muted (g.H.Host.channel c.prove.new.host))} {new = (muted (g.H.Host.channel c.put_answer-printed.new.host))}
    c.requires.unnamed_out (muted_kept c.create.ensures.kept) (muted_but c.prove.ensures.kept) c.in-Ok.ensures.writes.only.name
    (muted_kept c.put_answer-printed.ensures.kept)
