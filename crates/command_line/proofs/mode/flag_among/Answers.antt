-- What is left to show of `flag_among`.
use Rattle.std.proofs.Common.{ap, sym, ◌∙◌}
use Rattle.command_line.specs.Command.{is_set}
use Rattle.command_line.specs.Reading.{text_of}
use Rattle.command_line.proofs.Meant.{of_row}
use Rattle.command_line.proofs.mode.flag_among.Goals as goal

pub returns : goal.returns
returns c = c.is_set.ensures
    ∙ ap is_set (sym (of_row c.args.values.now c.args.name.now (text_of c.get_str.result) c.get_str.ensures))
