-- What is left to show of `trim_asked`.
use Rattle.std.proofs.Common.{rules, ◌≡◌, ◌∙◌, ap}
use Rattle.std.specs.Prelude.{Option}
use Rattle.clap.specs.Words.{found_of, rows_of}
use Rattle.command_line.specs.Command.{Misuse, ToRewrite, to_trim, trim_means}
use Rattle.command_line.specs.Reading.{text_of}
use Rattle.command_line.proofs.Meant.{trim_values}
use Rattle.command_line.proofs.rewrite.trim_asked.Goals as goal

pub returns-in_err-task-clause-meant : goal.returns-in_err-task-clause-meant
returns-in_err-task-clause-meant c =
    let means : trim_means (rows_of (found_of c.args.values.now)) ≡ Misuse =
    trim_values c.args.values.now (text_of c.get_str-core.result) c.get_str-core.ensures
    ∙ ap (λ (task : Option ToRewrite). to_trim task (text_of c.get_str-core.result)) c.in_err-task.ensures in
    search (rules, means)

pub returns-clause-meant : goal.returns-clause-meant
returns-clause-meant c =
    trim_values c.args.values.now (text_of c.get_str-core.result) c.get_str-core.ensures
    ∙ ap (λ (task : Option ToRewrite). to_trim task (text_of c.get_str-core.result)) c.in_ok-task.ensures
