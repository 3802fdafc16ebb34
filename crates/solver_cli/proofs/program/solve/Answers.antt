-- What is left to show of `solve`.
use Rattle.std.proofs.Common.{◌≡◌, ℕ, List, Option, Some, None, refl, ◌∙◌}
use Rattle.host_io.specs.declared.role.Role.TheVariants.{Err as ErrRole}
use Rattle.solver_cli.specs.Stages.{task_of}
use Rattle.solver_cli.proofs.Commented.{noted_then, told_between, untold}
use Rattle.solver_cli.proofs.Muted.{muted, muted_but, muted_inputs, muted_kept}
use Rattle.solver_cli.proofs.Staged.{order_of, buckets_of, unordered, unbucketed, unplanned, solved, files_left}
use Rattle.solver_cli.proofs.program.solve.Goals as goal

pub returns-in-Err-take_order-clause-came : goal.returns-in-Err-take_order-clause-came
returns-in-Err-take_order-clause-came g c =
    unordered (g.H.Host.channel c.args.host.now) (g.H.Host.channel c.take_formula.new.host) (g.H.Host.channel c.take_order.new.host)
    (g.H.Host.files c.args.host.now) (g.H.Host.files c.take_formula.new.host) (g.H.Host.files c.take_order.new.host)
    (record { takes = c.in-Ok.ensures.takes; kept = c.in-Ok.ensures.kept })
    (order_of c.vars.ensures c.in-Err-take_order.ensures.takes) c.in-Err-take_order.ensures.kept c.from-in-Err-take_order.ensures

pub returns-in-Err-take_buckets-clause-came : goal.returns-in-Err-take_buckets-clause-came
returns-in-Err-take_buckets-clause-came g c =
    unbucketed (g.H.Host.channel c.args.host.now) (g.H.Host.channel c.take_formula.new.host) (g.H.Host.channel c.take_order.new.host)
    (g.H.Host.channel c.take_buckets.new.host)
    (g.H.Host.files c.args.host.now) (g.H.Host.files c.take_formula.new.host) (g.H.Host.files c.take_order.new.host)
    (g.H.Host.files c.take_buckets.new.host)
    (record {
      took = record { takes = c.in-Ok.ensures.takes; kept = c.in-Ok.ensures.kept };
      orders = order_of c.vars.ensures c.in-Ok-take_order.ensures.takes;
      kept = c.in-Ok-take_order.ensures.kept;
    })
    (buckets_of c.vars-2.ensures c.buckets_name.ensures c.in-Err-take_buckets.ensures.takes) c.in-Err-take_buckets.ensures.kept
    c.buckets_status.ensures

pub returns-in-Err-take_plan-clause-came : goal.returns-in-Err-take_plan-clause-came
returns-in-Err-take_plan-clause-came g c =
    unplanned (muted (g.H.Host.channel c.args.host.now)) (muted (g.H.Host.channel c.take_formula.new.host))
    (muted (g.H.Host.channel c.take_order.new.host)) (muted (g.H.Host.channel c.take_buckets.new.host))
    (muted (g.H.Host.channel c.take_plan.new.host))
    (g.H.Host.files c.args.host.now) (g.H.Host.files c.take_formula.new.host) (g.H.Host.files c.take_order.new.host)
    (g.H.Host.files c.take_buckets.new.host) (g.H.Host.files c.take_plan.new.host)
    (record {
      ordered = record {
        took = record { takes = c.in-Ok.ensures.takes; kept = muted_kept c.in-Ok.ensures.kept };
        orders = order_of c.vars.ensures c.in-Ok-take_order.ensures.takes;
        kept = muted_kept c.in-Ok-take_order.ensures.kept;
      };
      bucketed = buckets_of c.vars-2.ensures c.buckets_name.ensures c.in-Ok-take_buckets.ensures.takes;
      kept = muted_kept c.in-Ok-take_buckets.ensures.kept;
    })
    c.in-Err-take_plan.ensures.takes (muted_but c.in-Err-take_plan.ensures.kept) c.from-in-Err-take_plan.ensures

pub returns-clause-came : goal.returns-clause-came
returns-clause-came g c =
    solved {old = (muted (g.H.Host.channel c.args.host.now))} {taken = (muted (g.H.Host.channel c.take_formula.new.host))}
    {had = (muted (g.H.Host.channel c.take_order.new.host))} {split = (muted (g.H.Host.channel c.take_buckets.new.host))}
    {made = (muted (g.H.Host.channel c.take_plan.new.host))}
    (muted (g.H.Host.channel c.answer.new.host))
    (record {
      splits = record {
        ordered = record {
          took = record { takes = c.in-Ok.ensures.takes; kept = muted_kept c.in-Ok.ensures.kept };
          orders = order_of c.vars.ensures c.in-Ok-take_order.ensures.takes;
          kept = muted_kept c.in-Ok-take_order.ensures.kept;
        };
        bucketed = buckets_of c.vars-2.ensures c.buckets_name.ensures c.in-Ok-take_buckets.ensures.takes;
        kept = muted_kept c.in-Ok-take_buckets.ensures.kept;
      };
      plans = c.in-Ok-take_plan.ensures.takes;
      kept = muted_but c.in-Ok-take_plan.ensures.kept;
    })
    (muted_inputs c.answer.ensures.inputs) c.answer.ensures.came

pub returns-clause-files : goal.returns-clause-files
returns-clause-files g c =
    files_left {old = (muted (g.H.Host.channel c.args.host.now))} {taken = (muted (g.H.Host.channel c.take_formula.new.host))}
    {had = (muted (g.H.Host.channel c.take_order.new.host))} {split = (muted (g.H.Host.channel c.take_buckets.new.host))}
    {made = (muted (g.H.Host.channel c.take_plan.new.host))}
    {task = task_of c.args.asked.now}
    (record {
      splits = record {
        ordered = record {
          took = record { takes = c.in-Ok.ensures.takes; kept = muted_kept c.in-Ok.ensures.kept };
          orders = order_of c.vars.ensures c.in-Ok-take_order.ensures.takes;
          kept = muted_kept c.in-Ok-take_order.ensures.kept;
        };
        bucketed = buckets_of c.vars-2.ensures c.buckets_name.ensures c.in-Ok-take_buckets.ensures.takes;
        kept = muted_kept c.in-Ok-take_buckets.ensures.kept;
      };
      plans = c.in-Ok-take_plan.ensures.takes;
      kept = muted_but c.in-Ok-take_plan.ensures.kept;
    })
    c.answer.ensures.files

pub returns-in-Err-clause-told : goal.returns-in-Err-clause-told
returns-in-Err-clause-told g c = untold c.args.asked.now.progress (c.in-Err.ensures.kept.others ErrRole refl)

pub returns-in-Err-take_order-clause-told : goal.returns-in-Err-take_order-clause-told
returns-in-Err-take_order-clause-told g c =
    untold c.args.asked.now.progress (c.in-Err-take_order.ensures.kept.others ErrRole refl ∙ c.in-Ok.ensures.kept.others ErrRole refl)

pub returns-in-Err-take_buckets-clause-told : goal.returns-in-Err-take_buckets-clause-told
returns-in-Err-take_buckets-clause-told g c =
    untold c.args.asked.now.progress (c.in-Err-take_buckets.ensures.kept.others ErrRole refl
    ∙ c.in-Ok-take_order.ensures.kept.others ErrRole refl ∙ c.in-Ok.ensures.kept.others ErrRole refl)

pub returns-in-Err-take_plan-clause-told : goal.returns-in-Err-take_plan-clause-told
returns-in-Err-take_plan-clause-told g c =
    told_between (c.in-Ok-take_buckets.ensures.kept.others ErrRole refl ∙ c.in-Ok-take_order.ensures.kept.others ErrRole refl
    ∙ c.in-Ok.ensures.kept.others ErrRole refl) refl c.in-Err-take_plan.ensures.notes

pub returns-clause-told : goal.returns-clause-told
returns-clause-told g c =
    noted_then (c.in-Ok-take_buckets.ensures.kept.others ErrRole refl ∙ c.in-Ok-take_order.ensures.kept.others ErrRole refl
    ∙ c.in-Ok.ensures.kept.others ErrRole refl) c.in-Ok-take_plan.ensures.notes c.answer.ensures.told

-- what was left alone
none_some : {file : List ℕ} → ◌≡◌ {A = Option (List ℕ)} None (Some file) → ⊥
none_some e = cc

pub returns-in-Err-clause-files : goal.returns-in-Err-clause-files
returns-in-Err-clause-files g c = λ file own. c.in-Err.ensures.kept.files file none_some

pub returns-in-Err-take_order-clause-files : goal.returns-in-Err-take_order-clause-files
returns-in-Err-take_order-clause-files g c = λ file own.
    c.in-Err-take_order.ensures.kept.files file none_some ∙ c.in-Ok.ensures.kept.files file none_some

pub returns-in-Err-take_buckets-clause-files : goal.returns-in-Err-take_buckets-clause-files
returns-in-Err-take_buckets-clause-files g c = λ file own.
    c.in-Err-take_buckets.ensures.kept.files file none_some ∙ c.in-Ok-take_order.ensures.kept.files file none_some
    ∙ c.in-Ok.ensures.kept.files file none_some

pub returns-in-Err-take_plan-clause-files : goal.returns-in-Err-take_plan-clause-files
returns-in-Err-take_plan-clause-files g c = λ file own.
    c.in-Err-take_plan.ensures.kept.files file none_some ∙ c.in-Ok-take_buckets.ensures.kept.files file none_some
    ∙ c.in-Ok-take_order.ensures.kept.files file none_some ∙ c.in-Ok.ensures.kept.files file none_some
