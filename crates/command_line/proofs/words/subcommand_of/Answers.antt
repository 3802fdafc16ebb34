-- What is left to show of `subcommand_of`.
use Rattle.std.proofs.Common.{rules, sym, subst, Some, List, ◌≡◌}
use Rattle.std.specs.Prelude.{MatchOption, Option}
use Rattle.clap.specs.Words.{Row, Text, found_of, rows_of, subcommand_rows_of}
use Rattle.command_line.specs.Command.{Asks, Misuse, taken_means}
use Rattle.command_line.specs.Reading.{command_of}
use Rattle.command_line.proofs.words.subcommand_of.Goals as goal

pub returns-in-Some-clause-meant : goal.returns-in-Some-clause-meant
returns-in-Some-clause-meant c =
    let has : subcommand_rows_of c.args.matches.now ≡ Some (c.in-Some.name.now, rows_of (found_of c.in-Some.values.now)) = first_of
    (search rules, cc) in
    subst (λ (rows : Option (Text × List Row)). MatchOption c.command_named.result (taken_means rows ≡ Misuse)
    (λ asked. taken_means rows ≡ Asks (command_of asked))) (sym has) c.command_named.ensures.meant
