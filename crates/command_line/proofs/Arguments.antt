-- Arguments and commands that a command gets, one by one of a table.
use Rattle.std.proofs.Common.{◌≡◌, ℕ, ◌+◌, ◌<◌, Bool, true, false, ◌||◌, ◌∙◌, List, length, drop, get_or, map, refl, ap, sym}
use Rattle.std.proofs.lemmas.List.{at_drop_more}
use Rattle.clap.specs.Words.{AddsArg, AddsSubcommand, App, app_of, rule_of, with_rule, with_subcommand}
use Rattle.clap.specs.declared.Arg.{Arg}
use Rattle.clap.specs.declared.Command.{Command}
use Rattle.clap.specs.declared.Command.TheViews.{out-Command}
use Rattle.command_line.specs.Parser.{with_rules}
use Rattle.command_line.specs.Tables.{app_for, rule_for, with_commands}
use Rattle.command_line.specs.declared.argument.Argument.{Argument}
use Rattle.command_line.specs.declared.subcommand.Subcommand.{Subcommand}

-- an argument that isn't global leaves whether there are such
pub stays : (old arg : Bool) → arg ≡ false → (old || arg) ≡ old
stays true arg is = refl
stays false arg is = is

pub argument_added : (old new : Command) (arg : Arg) (arguments : List Argument) (place : ℕ) (default : Argument) → place < length arguments
    → rule_of arg ≡ rule_for (get_or arguments place default) → arg.global ≡ false → AddsArg old arg new
    → with_rules (app_of new) (map rule_for (drop (place + 1) arguments)) ≡ with_rules (app_of old) (map rule_for (drop place arguments))
argument_added old new arg arguments place default within rule local adds =
    ap (λ (app : App). with_rules app (map rule_for (drop (place + 1) arguments)))
    (adds.shape local ∙ ap (with_rule (app_of old)) rule)
    ∙ sym (at_drop_more (λ (l : List Argument). with_rules (app_of old) (map rule_for l)) arguments place default within)

pub command_added : (old new sub : Command) (table : List Subcommand) (place : ℕ) (default : Subcommand) → place < length table
    → app_of sub ≡ app_for (get_or table place default) → (out-Command sub).has_globals ≡ false → AddsSubcommand old sub new
    → with_commands (app_of new) (drop (place + 1) table) ≡ with_commands (app_of old) (drop place table)
command_added old new sub table place default within is local adds =
    ap (λ (app : App). with_commands app (drop (place + 1) table))
    (adds.shape local ∙ ap (λ (app : App). with_subcommand (app_of old) app.top) is)
    ∙ sym (at_drop_more (with_commands (app_of old)) table place default within)
