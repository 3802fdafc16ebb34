-- What the rest gives is what the whole gives.
use Rattle.std.proofs.Common.{◌≡◌}
use Rattle.lrat_rules.specs.Chain.{literals_of, effect}
use Rattle.drat_checker.proofs.Passes.{effect_at}
use Rattle.drat_checker.proofs.false_list.FalseList.effect_of.Given as goal

abbrev pub invariant-loop-literal : goal.invariant-loop-literal
invariant-loop-literal l = effect_at (literals_of l.self.literals) l.clause l.literal-index l.forced ≡ effect (literals_of l.self.literals)
    l.clause
