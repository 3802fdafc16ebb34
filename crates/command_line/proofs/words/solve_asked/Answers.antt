-- What is left to show of `solve_asked`.
use Rattle.std.proofs.Common.{rules, None, Some, ◌≡◌, refl, codes}
use Rattle.clap.specs.Words.{first_value, found_of, rows_of}
use Rattle.command_line.specs.Command.{Misuse, limits_among, mode_given, parity_among, plan_among, progress_among, solve_means}
use Rattle.command_line.specs.Reading.{planned_of, text_of}
use Rattle.command_line.proofs.Meant.{solve_values}
use Rattle.command_line.proofs.words.solve_asked.Goals as goal

pub returns-in_err-files-clause-meant : goal.returns-in_err-files-clause-meant
returns-in_err-files-clause-meant c =
    let lax = first_value (found_of c.args.values.now) (codes "lax") in
    let means : solve_means (rows_of (found_of c.args.values.now)) ≡ Misuse =
    solve_values c.args.values.now None (mode_given lax) lax (first_value (found_of c.args.values.now) (codes "order"))
    (plan_among (rows_of (found_of c.args.values.now))) (limits_among (rows_of (found_of c.args.values.now)))
    (progress_among (rows_of (found_of c.args.values.now))) (parity_among (rows_of (found_of c.args.values.now)))
    c.in_err-files.ensures refl refl refl refl refl refl refl in
    search (rules, means)

pub returns-in_err-plan-clause-meant : goal.returns-in_err-plan-clause-meant
returns-in_err-plan-clause-meant c =
    let means : solve_means (rows_of (found_of c.args.values.now)) ≡ Misuse =
    solve_values c.args.values.now (Some (c.in_ok-files.files.formula.now, c.in_ok-files.files.proof.now)) c.mode_given-mode.result
    (text_of c.get_str.result) (text_of c.get_str-order.result) None (limits_among (rows_of (found_of c.args.values.now)))
    (progress_among (rows_of (found_of c.args.values.now))) (parity_among (rows_of (found_of c.args.values.now)))
    c.in_ok-files.ensures c.mode_given-mode.ensures c.get_str.ensures c.get_str-order.ensures c.in_err-plan.ensures refl refl refl in
    search (rules, means)

pub returns-in_err-limits-clause-meant : goal.returns-in_err-limits-clause-meant
returns-in_err-limits-clause-meant c =
    let means : solve_means (rows_of (found_of c.args.values.now)) ≡ Misuse =
    solve_values c.args.values.now (Some (c.in_ok-files.files.formula.now, c.in_ok-files.files.proof.now)) c.mode_given-mode.result
    (text_of c.get_str.result) (text_of c.get_str-order.result) (Some (planned_of c.in_ok-plan.plan)) None
    (progress_among (rows_of (found_of c.args.values.now))) (parity_among (rows_of (found_of c.args.values.now)))
    c.in_ok-files.ensures c.mode_given-mode.ensures c.get_str.ensures c.get_str-order.ensures c.in_ok-plan.ensures
    c.in_err-limits.ensures.given refl refl in
    search (rules, means)

pub returns-clause-meant : goal.returns-clause-meant
returns-clause-meant c =
    solve_values c.args.values.now (Some (c.in_ok-files.files.formula.now, c.in_ok-files.files.proof.now)) c.mode_given-mode.result
    (text_of c.get_str.result) (text_of c.get_str-order.result) (Some (planned_of c.in_ok-plan.plan)) (Some c.in_ok-limits.limits)
    c.flag_among-progress.result c.flag_among-parity.result
    c.in_ok-files.ensures c.mode_given-mode.ensures c.get_str.ensures c.get_str-order.ensures c.in_ok-plan.ensures
    c.in_ok-limits.ensures.given c.flag_among-progress.ensures c.flag_among-parity.ensures
