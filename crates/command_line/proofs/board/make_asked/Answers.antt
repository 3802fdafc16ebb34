-- What is left to show of `make_asked`.
use Rattle.std.proofs.Common.{rules, ap, codes, None, Some, ◌≡◌, ◌∙◌, sym, refl}
use Rattle.std.specs.Prelude.{Option}
use Rattle.clap.specs.Words.{first_value, found_of, rows_of}
use Rattle.command_line.specs.declared.part.BoardText.{BoardText}
use Rattle.command_line.specs.Command.{Misuse, make_means, to_make}
use Rattle.command_line.proofs.Meant.{make_values}
use Rattle.command_line.proofs.board.make_asked.Goals as goal

pub returns-in_err-get_str-clause-meant : goal.returns-in_err-get_str-clause-meant
returns-in_err-get_str-clause-meant c =
    let means : make_means (rows_of (found_of c.args.values.now)) ≡ Misuse =
    make_values c.args.values.now (Some c.in_ok-size.size) None (first_value (found_of c.args.values.now)
    (codes "out")) c.in_ok-size.ensures.given c.in_err-get_str.ensures refl in
    search (rules, means)

pub returns-in_err-part-clause-meant : goal.returns-in_err-part-clause-meant
returns-in_err-part-clause-meant c =
    let file = first_value (found_of c.args.values.now) (codes "out") in
    let means : make_means (rows_of (found_of c.args.values.now)) ≡ Misuse =
    make_values c.args.values.now (Some c.in_ok-size.size) (Some c.in_ok-get_str.field-0.now) file c.in_ok-size.ensures.given
    c.in_ok-get_str.ensures refl
    ∙ ap (λ (part : Option BoardText). to_make (Some c.in_ok-size.size) part file) (sym c.in_err-part.ensures) in
    search (rules, means)

pub returns-in_err-file-clause-meant : goal.returns-in_err-file-clause-meant
returns-in_err-file-clause-meant c =
    let means : make_means (rows_of (found_of c.args.values.now)) ≡ Misuse =
    make_values c.args.values.now (Some c.in_ok-size.size) (Some c.in_ok-get_str.field-0.now) None c.in_ok-size.ensures.given
    c.in_ok-get_str.ensures c.in_err-file.ensures
    ∙ ap (λ (part : Option BoardText). to_make (Some c.in_ok-size.size) part None) (sym c.in_ok-part.ensures) in
    search (rules, means)

pub returns-clause-meant : goal.returns-clause-meant
returns-clause-meant c =
    make_values c.args.values.now (Some c.in_ok-size.size) (Some c.in_ok-get_str.field-0.now) (Some c.in_ok-file.file.now)
    c.in_ok-size.ensures.given c.in_ok-get_str.ensures c.in_ok-file.ensures
    ∙ ap (λ (part : Option BoardText). to_make (Some c.in_ok-size.size) part (Some c.in_ok-file.file.now)) (sym c.in_ok-part.ensures)
