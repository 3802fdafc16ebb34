-- What is left to show of `clauses_of`.
use Rattle.std.proofs.Common.{refl, subst}
use Rattle.parity_equations.specs.Denied.{CollectsAll}
use Rattle.parity_equations.proofs.Collected.{collected_sorted}
use Rattle.parity_equations.proofs.denied.clauses_of.Goals as goal

pub collect-requires-clause-begun : goal.collect-requires-clause-begun
collect-requires-clause-begun c = record { behind = refl; eight = refl }

pub returns-then-not-is_complete : goal.returns-then-not-is_complete
returns-then-not-is_complete c = subst (CollectsAll _ c.new-numbers.result.items _) c.if-not-is_complete.true c.in_ok-is_complete.ensures

pub returns : goal.returns
returns c = collected_sorted _ c.new-numbers.result.items c.collect.new.numbers.items c.sort.new.numbers.items c.new-numbers.ensures.items
    (subst (CollectsAll _ c.new-numbers.result.items _) c.if-not-is_complete.false c.in_ok-is_complete.ensures) c.sort.ensures.permutation
    c.sort.ensures.rising
