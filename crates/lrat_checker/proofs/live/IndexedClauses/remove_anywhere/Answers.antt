-- What is left to show of `IndexedClauses::remove_anywhere`.
use Rattle.std.proofs.Common.{◌-◌, sym, subst, ◌∙◌, ap}
use Rattle.lrat_rules.specs.State.{Live}
use Rattle.lrat_checker.specs.Counts.{count_of, times_at}
use Rattle.lrat_checker.specs.Holders.{AreFound}
use Rattle.lrat_checker.proofs.Indexed.{found_remove}
use Rattle.lrat_checker.proofs.live.IndexedClauses.remove_anywhere.Goals as goal

pub invariant_of-self : goal.invariant_of-self
invariant_of-self c =
    subst (λ (live : Live). AreFound c.lower.new.counts c.leave.new.holders c.self.inside.indexed live) (sym c.remove.ensures)
    (found_remove c.self.inside.counts c.lower.new.counts c.self.inside.holders c.leave.new.holders c.self.inside.indexed
    c.self.inside.clauses c.self.invariant c.args.id
    (λ x. c.lower.ensures x ∙ ap (λ place. count_of c.self.inside.counts x - times_at x place) c.get.ensures) c.leave.ensures)
