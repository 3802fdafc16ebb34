-- What is left to show of `names_among`.
use Rattle.std.proofs.Common.{rules, None, ◌≡◌, ◌∙◌}
use Rattle.clap.specs.Words.{found_of, rows_of}
use Rattle.command_line.specs.Command.{names_among}
use Rattle.command_line.specs.Reading.{text_of}
use Rattle.command_line.proofs.Meant.{names_values}
use Rattle.command_line.proofs.names.names_among.Goals as goal

pub returns-in_err-formula : goal.returns-in_err-formula
returns-in_err-formula c =
    let none : names_among (rows_of (found_of c.args.values.now)) ≡ None =
    names_values c.args.values.now (text_of c.get_str.result) (text_of c.get_str-2.result) (text_of c.get_str-3.result)
    (text_of c.get_str-4.result) (text_of c.get_str-5.result) c.get_str.ensures c.get_str-2.ensures c.get_str-3.ensures c.get_str-4.ensures
    c.get_str-5.ensures
    ∙ c.in_err-formula.ensures in
    search (rules, none)

pub returns : goal.returns
returns c =
    names_values c.args.values.now (text_of c.get_str.result) (text_of c.get_str-2.result) (text_of c.get_str-3.result)
    (text_of c.get_str-4.result) (text_of c.get_str-5.result) c.get_str.ensures c.get_str-2.ensures c.get_str-3.ensures c.get_str-4.ensures
    c.get_str-5.ensures
    ∙ c.in_ok-formula.ensures
