-- What is left to show of `plan_among`.
use Rattle.std.proofs.Common.{ap, sym, ◌∙◌}
use Rattle.command_line.specs.Command.{plan_given}
use Rattle.command_line.specs.Reading.{text_of}
use Rattle.command_line.proofs.Meant.{plan_values}
use Rattle.command_line.proofs.plan.plan_among.Goals as goal

pub returns : goal.returns
returns c =
    c.plan_given.ensures
    ∙ ap (plan_given (text_of c.get_str.result) (text_of c.get_str-2.result) (text_of c.get_str-3.result)) c.is_set.ensures
    ∙ sym (plan_values c.args.values.now (text_of c.get_str.result) (text_of c.get_str-2.result) (text_of c.get_str-3.result)
    (text_of c.get_str-4.result) c.get_str.ensures c.get_str-2.ensures c.get_str-3.ensures c.get_str-4.ensures)
