-- The loop of `with_commands`: what stands there, with the commands that are left behind it, is the command with all of them.
use Rattle.std.proofs.Common.{◌≡◌, drop}
use Rattle.clap.specs.Words.{app_of}
use Rattle.command_line.specs.Tables.{with_commands}
use Rattle.command_line.proofs.subcommand.with_commands.Given as goal

abbrev pub invariant-commands : goal.invariant-commands
invariant-commands l =
    with_commands (app_of l.command) (drop l.subcommand-index l.table) ≡ with_commands (app_of l.fn.command) l.table
