use Rattle.std.proofs.Common.{rules, List, ℕ, subst}
use Rattle.solver_cli.specs.Phases.{PutsText}
use Rattle.solver_cli.proofs.Puts.{cut_short}
use Rattle.solver_cli.proofs.output.print_text.Goals as goal

pub returns-in_err-write_all-clause-puts : goal.returns-in_err-write_all-clause-puts
returns-in_err-write_all-clause-puts g c =
    subst (λ (text : List ℕ). PutsText g.S.Sink.tells (g.S.Sink.channel c.args.sink.now)
    (g.S.Sink.channel c.write_all.new.sink) text c.from_residual.result) c.as_bytes.ensures.value
    (cut_short c.from_residual.result c.in_err-write_all.ensures.writes (search rules))
