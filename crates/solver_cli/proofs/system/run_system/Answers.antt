-- The run of the words that came, over a new host.
use Rattle.std.proofs.Common.{rules, sym, subst, inr}
use Rattle.std.specs.Prelude.{All}
use Rattle.host_io.specs.Real.{IsHeld}
use Rattle.solver_cli.specs.Start.{IsNew, status_of_kind}
use Rattle.solver_cli.proofs.Begun.{either, without}
use Rattle.solver_cli.proofs.system.run_system.Goals as goal

pub returns-clause-promises : goal.returns-clause-promises
returns-clause-promises c =
    let host = c.of_system-host.result.0 in
    let new : IsNew host = record {
      unmet = c.of_system-host.ensures.unmet;
      held = subst (All IsHeld) (sym c.of_system-host.ensures.made) (search rules);
    } in
    either c.of_system-host.result.1 c.run_with-code.ensures.came c.run_with-code.ensures.unread
    (λ source came. (came.0, host, new, came.1, without came.2))
    (λ kind unread. (status_of_kind kind, host, new, unread.0, inr unread.1))
