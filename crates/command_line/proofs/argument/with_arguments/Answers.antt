-- What is left to show of `with_arguments`.
use Rattle.std.proofs.Common.{◌∙◌}
use Rattle.command_line.proofs.Arguments.{argument_added, stays}
use Rattle.command_line.proofs.argument.with_arguments.Goals as goal

pub arguments-preserved : goal.arguments-preserved
arguments-preserved c = record {
  app =
      argument_added c.arguments.command c.in_ok-command.command c.argument_of.result c.args.arguments.now c.arguments.argument-index _
      c.arguments-test.true c.argument_of.ensures.rule c.argument_of.ensures.local c.in_ok-command.ensures
      ∙ c.arguments.invariant.app;
  local = c.in_ok-command.ensures.globals ∙ stays _ _ c.argument_of.ensures.local ∙ c.arguments.invariant.local;
}
