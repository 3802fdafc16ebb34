-- A refusal changes nothing.
use Rattle.std.proofs.Common.{refl}
use Rattle.lrat_rules.proofs.FalseStamps.{on_err, same_sets}
use Rattle.lrat_rules.proofs.chain.Chain.begin_anew.Goals as goal

pub returns-in_err-self-clause-err : goal.returns-in_err-self-clause-err
returns-in_err-self-clause-err c = on_err c.from_residual.result (same_sets c.args.self.now c.args.self.now (λ x. refl) refl refl)
