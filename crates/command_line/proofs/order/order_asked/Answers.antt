-- What is left to show of `order_asked`.
use Rattle.std.proofs.Common.{rules, None, Some, ◌≡◌, ◌∙◌, ap, sym, refl, codes}
use Rattle.std.specs.Prelude.{Option}
use Rattle.std.specs.Option.{option_and_then}
use Rattle.clap.specs.Words.{Text, first_value, found_of, rows_of}
use Rattle.command_line.specs.Command.{Misuse, method_named, mode_given, order_means, progress_among, to_order}
use Rattle.command_line.specs.Reading.{text_of}
use Rattle.command_line.proofs.Meant.{ap₃, order_values}
use Rattle.command_line.proofs.order.order_asked.Goals as goal

pub returns-in_err-formula-clause-meant : goal.returns-in_err-formula-clause-meant
returns-in_err-formula-clause-meant c =
    let method = first_value (found_of c.args.values.now) (codes "by") in
    let lax = first_value (found_of c.args.values.now) (codes "lax") in
    let shown = progress_among (rows_of (found_of c.args.values.now)) in
    let means : order_means (rows_of (found_of c.args.values.now)) ≡ Misuse =
    order_values c.args.values.now (text_of c.get_str.result) (text_of c.get_str-2.result) method lax shown c.get_str.ensures
    c.get_str-2.ensures refl refl refl
    ∙ ap (λ (names : Option (Text × Text)). to_order names (option_and_then method_named method) (mode_given lax) shown)
    c.in_err-formula.ensures in
    search (rules, means)

pub returns-in_err-get_str-clause-meant : goal.returns-in_err-get_str-clause-meant
returns-in_err-get_str-clause-meant c =
    let lax = first_value (found_of c.args.values.now) (codes "lax") in
    let shown = progress_among (rows_of (found_of c.args.values.now)) in
    let means : order_means (rows_of (found_of c.args.values.now)) ≡ Misuse =
    order_values c.args.values.now (text_of c.get_str.result) (text_of c.get_str-2.result) None lax shown c.get_str.ensures
    c.get_str-2.ensures c.in_err-get_str.ensures refl refl
    ∙ ap (λ (names : Option (Text × Text)). to_order names None (mode_given lax) shown) c.in_ok-formula.ensures in
    search (rules, means)

pub returns-in_err-method-clause-meant : goal.returns-in_err-method-clause-meant
returns-in_err-method-clause-meant c =
    let lax = first_value (found_of c.args.values.now) (codes "lax") in
    let shown = progress_among (rows_of (found_of c.args.values.now)) in
    let means : order_means (rows_of (found_of c.args.values.now)) ≡ Misuse =
    order_values c.args.values.now (text_of c.get_str.result) (text_of c.get_str-2.result) (Some c.in_ok-get_str.field-0.now) lax
    shown c.get_str.ensures c.get_str-2.ensures c.in_ok-get_str.ensures refl refl
    ∙ ap₃ (λ names method mode. to_order names method mode shown) c.in_ok-formula.ensures (sym c.in_err-method.ensures) refl in
    search (rules, means)

pub returns-clause-meant : goal.returns-clause-meant
returns-clause-meant c =
    order_values c.args.values.now (text_of c.get_str.result) (text_of c.get_str-2.result) (Some c.in_ok-get_str.field-0.now)
    (text_of c.get_str-4.result) c.flag_among-progress.result c.get_str.ensures c.get_str-2.ensures c.in_ok-get_str.ensures
    c.get_str-4.ensures c.flag_among-progress.ensures
    ∙ ap₃ (λ names method mode. to_order names method mode c.flag_among-progress.result) c.in_ok-formula.ensures
    (sym c.in_ok-method.ensures) (sym c.mode_given-mode.ensures)
