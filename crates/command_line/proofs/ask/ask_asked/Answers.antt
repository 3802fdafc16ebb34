-- What is left to show of `ask_asked`.
use Rattle.std.proofs.Common.{rules, None, Some, ◌≡◌, ◌∙◌, ap, sym, refl, codes}
use Rattle.std.specs.Prelude.{Option}
use Rattle.clap.specs.Words.{Text, first_value, found_of, rows_of}
use Rattle.command_line.specs.Command.{Misuse, ask_means, limits_among, mode_given, progress_among, to_ask}
use Rattle.command_line.specs.Reading.{text_of}
use Rattle.command_line.proofs.Meant.{ask_values}
use Rattle.command_line.proofs.ask.ask_asked.Goals as goal

pub returns-in_err-formula-clause-meant : goal.returns-in_err-formula-clause-meant
returns-in_err-formula-clause-meant c =
    let lax = first_value (found_of c.args.values.now) (codes "lax") in
    let limits = limits_among (rows_of (found_of c.args.values.now)) in
    let shown = progress_among (rows_of (found_of c.args.values.now)) in
    let means : ask_means (rows_of (found_of c.args.values.now)) ≡ Misuse =
    ask_values c.args.values.now (text_of c.get_str-file.result) (text_of c.get_str-proof.result) (text_of c.get_str-order.result)
    (text_of c.get_str-cubes.result) lax limits shown c.get_str-file.ensures c.get_str-proof.ensures c.get_str-order.ensures
    c.get_str-cubes.ensures refl refl refl
    ∙ ap (λ (names : Option (Text × Text)). to_ask names (text_of c.get_str-cubes.result) (mode_given lax) (text_of c.get_str-order.result)
    limits shown) c.in_err-formula.ensures in
    search (rules, means)

pub returns-in_err-cubes-clause-meant : goal.returns-in_err-cubes-clause-meant
returns-in_err-cubes-clause-meant c =
    let lax = first_value (found_of c.args.values.now) (codes "lax") in
    let limits = limits_among (rows_of (found_of c.args.values.now)) in
    let shown = progress_among (rows_of (found_of c.args.values.now)) in
    let names : Option (Text × Text) = Some (c.in_ok-formula.formula.now, c.in_ok-formula.proof.now) in
    let none : text_of c.get_str-cubes.result ≡ None = ap text_of c.in_err-cubes.was in
    let means : ask_means (rows_of (found_of c.args.values.now)) ≡ Misuse =
    ask_values c.args.values.now (text_of c.get_str-file.result) (text_of c.get_str-proof.result) (text_of c.get_str-order.result)
    (text_of c.get_str-cubes.result) lax limits shown c.get_str-file.ensures c.get_str-proof.ensures c.get_str-order.ensures
    c.get_str-cubes.ensures refl refl refl
    ∙ ap (λ (names : Option (Text × Text)). to_ask names (text_of c.get_str-cubes.result) (mode_given lax) (text_of c.get_str-order.result)
    limits shown) c.in_ok-formula.ensures
    ∙ ap (λ (cubes : Option Text). to_ask names cubes (mode_given lax) (text_of c.get_str-order.result) limits shown) none in
    search (rules, means)

pub returns-in_err-limits-clause-meant : goal.returns-in_err-limits-clause-meant
returns-in_err-limits-clause-meant c =
    let shown = progress_among (rows_of (found_of c.args.values.now)) in
    let some : text_of c.get_str-cubes.result ≡ Some c.in_ok-cubes.cubes.now = ap text_of c.in_ok-cubes.was in
    let means : ask_means (rows_of (found_of c.args.values.now)) ≡ Misuse =
    ask_values c.args.values.now (text_of c.get_str-file.result) (text_of c.get_str-proof.result) (text_of c.get_str-order.result)
    (text_of c.get_str-cubes.result) (text_of c.get_str.result) None shown c.get_str-file.ensures c.get_str-proof.ensures
    c.get_str-order.ensures c.get_str-cubes.ensures c.get_str.ensures c.in_err-limits.ensures.given refl
    ∙ (λ i. to_ask (c.in_ok-formula.ensures i) (some i) (mode_given (text_of c.get_str.result)) (text_of c.get_str-order.result) None shown)
    in
    search (rules, means)

pub returns-clause-meant : goal.returns-clause-meant
returns-clause-meant c =
    let some : text_of c.get_str-cubes.result ≡ Some c.in_ok-cubes.cubes.now = ap text_of c.in_ok-cubes.was in
    ask_values c.args.values.now (text_of c.get_str-file.result) (text_of c.get_str-proof.result) (text_of c.get_str-order.result)
    (text_of c.get_str-cubes.result) (text_of c.get_str.result) (Some c.in_ok-limits.limits) c.flag_among-progress.result
    c.get_str-file.ensures c.get_str-proof.ensures c.get_str-order.ensures c.get_str-cubes.ensures c.get_str.ensures
    c.in_ok-limits.ensures.given c.flag_among-progress.ensures
    ∙ (λ i. to_ask (c.in_ok-formula.ensures i) (some i) (sym c.mode_given-mode.ensures i) (text_of c.get_str-order.result)
    (Some c.in_ok-limits.limits) c.flag_among-progress.result)
