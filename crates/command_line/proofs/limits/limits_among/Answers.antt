-- What is left to show of `limits_among`.
use Rattle.std.proofs.Common.{◌∙◌, codes, sym}
use Rattle.command_line.specs.Command.{limits_given}
use Rattle.command_line.specs.Reading.{text_of}
use Rattle.command_line.proofs.Meant.{ap₃, of_row}
use Rattle.command_line.proofs.limits.limits_among.Goals as goal

pub returns-clause-given : goal.returns-clause-given
returns-clause-given c =
    c.limits_given.ensures.given
    ∙ sym (ap₃ limits_given (of_row c.args.values.now (codes "max-nodes") (text_of c.get_str.result) c.get_str.ensures)
    (of_row c.args.values.now (codes "max-ids") (text_of c.get_str-2.result) c.get_str-2.ensures)
    (of_row c.args.values.now (codes "cache") (text_of c.get_str-3.result) c.get_str-3.ensures))
