-- What is left to show of `levels_of`.
use Rattle.std.proofs.Common.{ℕ, List, subst}
use Rattle.bdd_terms.specs.Sets.{AreOnce}
use Rattle.bdd_terms.proofs.SetLevels.{found_sorted, ok_from, set_levels}
use Rattle.bdd_terms.proofs.sets.levels_of.Goals as goal

pub returns : goal.returns
returns g c = ok_from c.each_once.result _ _
    (λ once each. set_levels c.args.table.now.graph c.args.set.now c.sort.new.found.items once.items
    (found_sorted c.args.table.now.graph c.args.set.now c.in_ok-found.found.items c.sort.new.found.items c.sort.ensures.permutation
    c.in_ok-found.ensures) (subst (λ (l : List ℕ). AreOnce l once.items) c.as_slice.ensures.value each)) c.each_once.ensures
