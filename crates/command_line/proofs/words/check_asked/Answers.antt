-- What is left to show of `check_asked`.
use Rattle.std.proofs.Common.{rules, ◌≡◌, ◌∙◌, ap, sym, refl, codes}
use Rattle.std.specs.Prelude.{Option}
use Rattle.clap.specs.Words.{Text, first_value, found_of, rows_of}
use Rattle.command_line.specs.Command.{Misuse, any_order_among, check_means, format_given, mode_given, progress_among, to_check}
use Rattle.command_line.specs.Reading.{text_of}
use Rattle.command_line.proofs.Meant.{ap₃, check_values}
use Rattle.command_line.proofs.words.check_asked.Goals as goal

pub returns-in_err-formula-clause-meant : goal.returns-in_err-formula-clause-meant
returns-in_err-formula-clause-meant c =
    let format = first_value (found_of c.args.values.now) (codes "format") in
    let lax = first_value (found_of c.args.values.now) (codes "lax") in
    let any_order = any_order_among (rows_of (found_of c.args.values.now)) in
    let shown = progress_among (rows_of (found_of c.args.values.now)) in
    let means : check_means (rows_of (found_of c.args.values.now)) ≡ Misuse =
    check_values c.args.values.now (text_of c.get_str.result) (text_of c.get_str-2.result) format lax any_order shown c.get_str.ensures
    c.get_str-2.ensures refl refl refl refl
    ∙ ap (λ (names : Option (Text × Text)). to_check names (format_given any_order format) (mode_given lax) shown) c.in_err-formula.ensures
    in
    search (rules, means)

pub returns-in_err-format-clause-meant : goal.returns-in_err-format-clause-meant
returns-in_err-format-clause-meant c =
    let lax = first_value (found_of c.args.values.now) (codes "lax") in
    let shown = progress_among (rows_of (found_of c.args.values.now)) in
    let means : check_means (rows_of (found_of c.args.values.now)) ≡ Misuse =
    check_values c.args.values.now (text_of c.get_str.result) (text_of c.get_str-2.result) (text_of c.get_str-3.result) lax
    c.flag_among-any_order.result shown c.get_str.ensures c.get_str-2.ensures c.get_str-3.ensures refl
    c.flag_among-any_order.ensures refl
    ∙ ap₃ (λ names format mode. to_check names format mode shown) c.in_ok-formula.ensures (sym c.in_err-format.ensures) refl in
    search (rules, means)

pub returns-clause-meant : goal.returns-clause-meant
returns-clause-meant c =
    check_values c.args.values.now (text_of c.get_str.result) (text_of c.get_str-2.result) (text_of c.get_str-3.result)
    (text_of c.get_str-4.result) c.flag_among-any_order.result c.flag_among-progress.result c.get_str.ensures c.get_str-2.ensures
    c.get_str-3.ensures c.get_str-4.ensures c.flag_among-any_order.ensures c.flag_among-progress.ensures
    ∙ ap₃ (λ names format mode. to_check names format mode c.flag_among-progress.result) c.in_ok-formula.ensures
    (sym c.in_ok-format.ensures) (sym c.mode_given-mode.ensures)
