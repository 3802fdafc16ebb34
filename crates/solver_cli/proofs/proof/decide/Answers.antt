-- What is left to show of `decide`.
use Rattle.std.proofs.Common.{rules, true, false, ◌≡◌}
use Rattle.solver_cli.proofs.Decided.{written, written_behind}
use Rattle.solver_cli.proofs.proof.decide.Goals as goal

pub returns-then-parity-clause-writes : goal.returns-then-parity-clause-writes
returns-then-parity-clause-writes g c =
    let is : c.args.parity ≡ true = first_of (search rules, cc) in
    written_behind c.args.parity is c.derivation_law.ensures.spells c.run_with_parity.result c.run_with_parity.ensures.ends

pub returns-else-parity-clause-writes : goal.returns-else-parity-clause-writes
returns-else-parity-clause-writes g c =
    let is : c.args.parity ≡ false = first_of (search rules, cc) in
    written c.args.parity is c.derivation_law.ensures.spells c.run_plan_into.result c.run_plan_into.ensures.ends
