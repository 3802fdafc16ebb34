-- What is left to show of `ask`.
use Rattle.std.proofs.Common.{◌≤◌, ℕ, refl, sym, ◌∙◌, subst}
use Rattle.cnf_base.specs.Limits.{max_vars}
use Rattle.cube_text.specs.CubeText.{AreCubes}
use Rattle.host_io.specs.declared.role.Role.TheVariants.{Err as ErrRole}
use Rattle.solver_cli.specs.Stages.{ask_of}
use Rattle.solver_cli.proofs.Staged.{order_of}
use Rattle.solver_cli.proofs.StagedAsk.{cubes_of, error_asked, files_asked, questioned, uncubed, unordered}
use Rattle.solver_cli.proofs.asking.ask.Goals as goal

pub take_cubes-requires-clause-few : goal.take_cubes-requires-clause-few
take_cubes-requires-clause-few g c = subst (λ (n : ℕ). n ≤ max_vars) (sym c.vars-2.ensures) c.in-Ok.ensures.takes.fits.vars

pub answer_cubes-requires-clause-cubes : goal.answer_cubes-requires-clause-cubes
answer_cubes-requires-clause-cubes g c =
    subst (λ (n : ℕ). AreCubes n c.in-Ok-take_cubes.cubes) c.vars-2.ensures c.in-Ok-take_cubes.ensures.takes.fits

pub returns-in-Err-take_order-clause-came : goal.returns-in-Err-take_order-clause-came
returns-in-Err-take_order-clause-came g c =
    unordered {task = ask_of c.args.asked.now} (g.H.Host.channel c.args.host.now) (g.H.Host.channel c.take_formula.new.host)
    (g.H.Host.channel c.take_order.new.host) (g.H.Host.files c.args.host.now) (g.H.Host.files c.take_formula.new.host)
    (g.H.Host.files c.take_order.new.host) (record { takes = c.in-Ok.ensures.takes; kept = c.in-Ok.ensures.kept })
    (order_of c.vars.ensures c.in-Err-take_order.ensures.takes) c.in-Err-take_order.ensures.kept c.from-in-Err-take_order.ensures

pub returns-in-Err-take_order-clause-error : goal.returns-in-Err-take_order-clause-error
returns-in-Err-take_order-clause-error g c =
    c.in-Err-take_order.ensures.kept.others ErrRole refl ∙ c.in-Ok.ensures.kept.others ErrRole refl

pub returns-in-Err-take_cubes-clause-came : goal.returns-in-Err-take_cubes-clause-came
returns-in-Err-take_cubes-clause-came g c =
    uncubed {task = ask_of c.args.asked.now} (g.H.Host.channel c.args.host.now) (g.H.Host.channel c.take_formula.new.host)
    (g.H.Host.channel c.take_order.new.host) (g.H.Host.channel c.take_cubes.new.host) (g.H.Host.files c.args.host.now)
    (g.H.Host.files c.take_formula.new.host) (g.H.Host.files c.take_order.new.host) (g.H.Host.files c.take_cubes.new.host)
    (record {
      took = record { takes = c.in-Ok.ensures.takes; kept = c.in-Ok.ensures.kept };
      orders = order_of c.vars.ensures c.in-Ok-take_order.ensures.takes;
      kept = c.in-Ok-take_order.ensures.kept;
    })
    (cubes_of c.vars-2.ensures c.in-Err-take_cubes.ensures.takes) c.in-Err-take_cubes.ensures.kept c.from-in-Err-take_cubes.ensures

pub returns-in-Err-take_cubes-clause-error : goal.returns-in-Err-take_cubes-clause-error
returns-in-Err-take_cubes-clause-error g c =
    c.in-Err-take_cubes.ensures.kept.others ErrRole refl ∙ c.in-Ok-take_order.ensures.kept.others ErrRole refl
    ∙ c.in-Ok.ensures.kept.others ErrRole refl

pub returns-clause-came : goal.returns-clause-came
returns-clause-came g c =
    questioned {task = ask_of c.args.asked.now} (g.H.Host.channel c.args.host.now) (g.H.Host.channel c.take_formula.new.host)
    (g.H.Host.channel c.take_order.new.host) (g.H.Host.channel c.take_cubes.new.host) (g.H.Host.channel c.answer_cubes.new.host)
    (g.H.Host.files c.args.host.now) (g.H.Host.files c.take_formula.new.host) (g.H.Host.files c.take_order.new.host)
    (g.H.Host.files c.take_cubes.new.host) (g.H.Host.files c.answer_cubes.new.host)
    (record {
      took = record { takes = c.in-Ok.ensures.takes; kept = c.in-Ok.ensures.kept };
      orders = order_of c.vars.ensures c.in-Ok-take_order.ensures.takes;
      kept = c.in-Ok-take_order.ensures.kept;
    })
    (cubes_of c.vars-2.ensures c.in-Ok-take_cubes.ensures.takes) c.in-Ok-take_cubes.ensures.kept c.answer_cubes.ensures.came
    c.answer_cubes.ensures.beside

pub returns-clause-error : goal.returns-clause-error
returns-clause-error g c =
    error_asked c.in-Ok.ensures.kept c.in-Ok-take_order.ensures.kept c.in-Ok-take_cubes.ensures.kept c.answer_cubes.ensures.beside

pub returns-clause-files : goal.returns-clause-files
returns-clause-files g c =
    files_asked c.in-Ok.ensures.kept c.in-Ok-take_order.ensures.kept c.in-Ok-take_cubes.ensures.kept c.answer_cubes.ensures.beside
