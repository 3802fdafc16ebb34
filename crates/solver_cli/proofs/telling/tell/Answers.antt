-- What is left to show of `tell`.
use Rattle.std.proofs.Common.{Bool, sym, ap, ◌∙◌, subst}
use Rattle.host_io.specs.declared.role.Role.TheVariants.{Err as ErrRole}
use Rattle.solver_cli.specs.Comments.{are_comments}
use Rattle.solver_cli.specs.Progress.{Comments}
use Rattle.solver_cli.proofs.Commented.{notes_on, put}
use Rattle.solver_cli.proofs.telling.tell.Goals as goal

pub returns-then-is_telling-clause-notes : goal.returns-then-is_telling-clause-notes
returns-then-is_telling-clause-notes g c =
    notes_on c.if-is_telling.true (subst (λ (on : Bool). Comments on g.H.Host.tells (g.H.Host.channel c.args.host.now ErrRole)
    (g.H.Host.channel c.put_line.new.host ErrRole)) (sym c.is_ok.ensures.value)
    (put c.as_slice.result.now c.put_line.result (ap are_comments c.as_slice.ensures.value ∙ c.into_line-line.ensures) c.put_line.ensures.puts))
