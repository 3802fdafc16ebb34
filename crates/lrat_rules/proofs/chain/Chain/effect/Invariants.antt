-- What the rest gives is what the whole gives.
use Rattle.std.proofs.Common.{◌≡◌}
use Rattle.lrat_rules.specs.Chain.{effect}
use Rattle.lrat_rules.specs.FalseLiterals.{set_of}
use Rattle.lrat_rules.proofs.Passes.{effect_at}
use Rattle.lrat_rules.proofs.chain.Chain.effect.Given as goal

abbrev pub invariant-loop-literal : goal.invariant-loop-literal
invariant-loop-literal l = effect_at (set_of l.self) l.clause l.literal-index l.forced ≡ effect (set_of l.self) l.clause
