-- What is left to show of `rewrite_among`.
use Rattle.std.proofs.Common.{rules, None, Some, ◌≡◌, ◌∙◌, ap, sym, refl, codes}
use Rattle.std.specs.Prelude.{Option}
use Rattle.clap.specs.Words.{Text, first_value, found_of, rows_of}
use Rattle.command_line.specs.Command.{mode_given, progress_among, rewrite_among, to_rewrite}
use Rattle.command_line.specs.Reading.{text_of}
use Rattle.command_line.proofs.Meant.{ap₃, rewrite_values}
use Rattle.command_line.proofs.rewrite.rewrite_among.Goals as goal

pub returns-in_err-formula : goal.returns-in_err-formula
returns-in_err-formula c =
    let lax = first_value (found_of c.args.values.now) (codes "lax") in
    let shown = progress_among (rows_of (found_of c.args.values.now)) in
    let means : rewrite_among (text_of c.args.further) (rows_of (found_of c.args.values.now)) ≡ None =
    rewrite_values c.args.values.now (text_of c.get_str-file.result) (text_of c.get_str-proof.result) (text_of c.get_str-out.result)
    (text_of c.args.further) lax shown c.get_str-file.ensures c.get_str-proof.ensures c.get_str-out.ensures refl refl
    ∙ ap (λ (names : Option (Text × Text)). to_rewrite names (text_of c.get_str-out.result) (mode_given lax) shown)
    c.in_err-formula.ensures in
    search (rules, means)

pub returns-in_err-out : goal.returns-in_err-out
returns-in_err-out c =
    let lax = first_value (found_of c.args.values.now) (codes "lax") in
    let shown = progress_among (rows_of (found_of c.args.values.now)) in
    let names : Option (Text × Text) = Some (c.in_ok-formula.formula.now, c.in_ok-formula.proof.now) in
    let none : text_of c.get_str-out.result ≡ None = ap text_of c.in_err-out.was in
    let means : rewrite_among (text_of c.args.further) (rows_of (found_of c.args.values.now)) ≡ None =
    rewrite_values c.args.values.now (text_of c.get_str-file.result) (text_of c.get_str-proof.result) (text_of c.get_str-out.result)
    (text_of c.args.further) lax shown c.get_str-file.ensures c.get_str-proof.ensures c.get_str-out.ensures refl refl
    ∙ ap (λ (names : Option (Text × Text)). to_rewrite names (text_of c.get_str-out.result) (mode_given lax) shown)
    c.in_ok-formula.ensures
    ∙ ap (λ (out : Option Text). to_rewrite names out (mode_given lax) shown) none in
    search (rules, means)

pub returns : goal.returns
returns c =
    let some : text_of c.get_str-out.result ≡ Some c.in_ok-out.out.now = ap text_of c.in_ok-out.was in
    rewrite_values c.args.values.now (text_of c.get_str-file.result) (text_of c.get_str-proof.result) (text_of c.get_str-out.result)
    (text_of c.args.further) (text_of c.get_str.result) c.flag_among-progress.result c.get_str-file.ensures c.get_str-proof.ensures
    c.get_str-out.ensures c.get_str.ensures c.flag_among-progress.ensures
    ∙ ap₃ (λ names out mode. to_rewrite names out mode c.flag_among-progress.result) c.in_ok-formula.ensures some
    (sym c.mode_given-mode.ensures)
