-- What the tables of arguments and of commands come to, as the parser has them.
use Rattle.std.specs.Prelude.{true, List, [], ◌∷◌, map}
use Rattle.clap.specs.Words.{App, Rule, Text, new_app, new_rule, with_subcommand}
use Rattle.command_line.specs.declared.argument.Argument.{Argument}
use Rattle.command_line.specs.declared.argument.Form.{Form}
use Rattle.command_line.specs.declared.argument.Form.TheVariants.{Word, Shown, Valued, Needed, Flag}
use Rattle.command_line.specs.declared.subcommand.Subcommand.{Subcommand}
use Rattle.command_line.specs.Parser.{flag_rule, needed_rule, option_rule, with_rules, word_rule}

-- a word that must be there, without an option in front of it
abbrev pub plain_rule : Text → Rule
plain_rule name = record (new_rule name) { required = true }

-- by how an argument is given, and its name
abbrev pub rule_of_form : Form → Text → Rule
rule_of_form Word name = plain_rule name
rule_of_form (Shown shown) name = word_rule name
rule_of_form (Valued value) name = option_rule name
rule_of_form (Needed value) name = needed_rule name
rule_of_form Flag name = flag_rule name

abbrev pub rule_for : Argument → Rule
rule_for argument = rule_of_form argument.form argument.name.now

abbrev pub app_for : Subcommand → App
app_for command = with_rules (new_app command.name.now) (map rule_for command.arguments.now)

-- a command with these commands, behind those that it has
abbrev pub with_commands : App → List Subcommand → App
with_commands app [] = app
with_commands app (command ∷ commands) = with_commands (with_subcommand app (app_for command).top) commands
