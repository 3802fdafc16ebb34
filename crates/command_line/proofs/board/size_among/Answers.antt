-- What is left to show of `size_among`.
use Rattle.std.proofs.Common.{ap₂, codes, sym, ◌∙◌}
use Rattle.command_line.specs.Command.{size_given}
use Rattle.command_line.specs.Reading.{text_of}
use Rattle.command_line.proofs.Meant.{of_row}
use Rattle.command_line.proofs.board.size_among.Goals as goal

pub returns-clause-given : goal.returns-clause-given
returns-clause-given c =
    c.size_given.ensures.given
    ∙ sym (ap₂ size_given (of_row c.args.values.now (codes "KIND") (text_of c.get_str.result) c.get_str.ensures)
    (of_row c.args.values.now (codes "SIZE") (text_of c.get_str-2.result) c.get_str-2.ensures))
