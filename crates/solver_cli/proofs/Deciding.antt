-- What the words give where they ask to decide a formula.
use Rattle.std.proofs.Common.{ℕ, List, refl, IsTrue}
use Rattle.cnf_base.specs.Formula.{Formula}
use Rattle.host_io.specs.Files.{Texts}
use Rattle.schedule_plan.specs.declared.plan.Move.{Move}
use Rattle.command_line.specs.Command.{Command, Solve, Check, Bench, Make, Arrange, Ask, Convert, Trim}
use Rattle.solver_cli.specs.Answer.{AreGiven}
use Rattle.solver_cli.specs.Run.{Run, GivesDecision, AsksFor, decides}

given_decides : (texts : Texts) (asked : Command) (problem : Formula) (order : List ℕ) (moves : List Move)
    → AreGiven texts asked problem order moves → IsTrue (decides asked)
given_decides texts (Solve task) problem order moves given = refl
given_decides texts (Check task) problem order moves given = absurd given
given_decides texts (Bench task) problem order moves given = refl
given_decides texts (Make task) problem order moves given = absurd given
given_decides texts (Arrange task) problem order moves given = absurd given
given_decides texts (Ask task) problem order moves given = absurd given
given_decides texts (Convert task) problem order moves given = absurd given
given_decides texts (Trim task) problem order moves given = absurd given

pub deciding : (run : Run) (problem : Formula) → AsksFor run problem → GivesDecision run
deciding run problem asks = (
  asks.by.asked,
  asks.by.command,
  given_decides run.texts asks.by.asked problem asks.order asks.moves
      asks.by.given,
)
