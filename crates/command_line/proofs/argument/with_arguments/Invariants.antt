-- The loop of `with_arguments`: what stands there, with the arguments that are left behind it, is the command with all of them.
use Rattle.std.proofs.Common.{◌≡◌, drop, map}
use Rattle.clap.specs.Words.{app_of}
use Rattle.clap.specs.declared.Command.TheViews.{out-Command}
use Rattle.command_line.specs.Parser.{with_rules}
use Rattle.command_line.specs.Tables.{rule_for}
use Rattle.command_line.proofs.argument.with_arguments.Given as goal

abbrev pub invariant-arguments : goal.invariant-arguments
invariant-arguments l = record {
  app : with_rules (app_of l.command) (map rule_for (drop l.argument-index l.arguments))
      ≡ with_rules (app_of l.fn.command) (map rule_for l.arguments);
  local : (out-Command l.command).has_globals ≡ (out-Command l.fn.command).has_globals;
}
