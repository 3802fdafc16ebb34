-- What the loops of `effect_on` keep.
use Rattle.std.proofs.Common.{◌≡◌}
use Rattle.lrat_rules.specs.Chain.{literals_of, effect}
use Rattle.lrat_rules.proofs.Passes.{effect_at}
use Rattle.lrat_rules.proofs.effect.effect_on.Given as goal

-- what the rest gives is what the whole gives
abbrev pub invariant-loop-literal : goal.invariant-loop-literal
invariant-loop-literal l = effect_at (literals_of l.literals) l.clause l.literal-index l.forced ≡ effect (literals_of l.literals) l.clause
