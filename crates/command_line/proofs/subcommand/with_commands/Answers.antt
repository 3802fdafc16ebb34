-- What is left to show of `with_commands`.
use Rattle.std.proofs.Common.{◌∙◌}
use Rattle.command_line.proofs.Arguments.{command_added}
use Rattle.command_line.proofs.subcommand.with_commands.Goals as goal

pub commands-preserved : goal.commands-preserved
commands-preserved c =
    command_added c.commands.command c.in_ok-command.command c.in_ok-subcommand_of.field-0 c.args.table.now c.commands.subcommand-index _
    c.commands-test.true c.in_ok-subcommand_of.ensures.app c.in_ok-subcommand_of.ensures.local c.in_ok-command.ensures
    ∙ c.commands.invariant
