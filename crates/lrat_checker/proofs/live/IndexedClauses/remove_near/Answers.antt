-- What is left to show of `IndexedClauses::remove_near`.
use Rattle.std.proofs.Common.{◌≡◌, ◌-◌, true, false, sym, subst, ◌∙◌, ap}
use Rattle.lrat_rules.specs.State.{Live}
use Rattle.lrat_checker.specs.Counts.{count_of, times_at}
use Rattle.lrat_checker.specs.Holders.{AreFound}
use Rattle.lrat_checker.proofs.Counted.{counted_remove}
use Rattle.lrat_checker.proofs.live.IndexedClauses.remove_near.Goals as goal

pub invariant_of-self-in-Some : goal.invariant_of-self-in-Some
invariant_of-self-in-Some c =
    subst (λ (live : Live). AreFound c.lower.new.counts c.self.inside.holders c.self.inside.indexed live) (sym c.in-Some.ensures.gone)
    (record {
      counted = counted_remove c.self.inside.counts c.lower.new.counts c.self.inside.clauses c.args.id c.self.invariant.counted
          (λ x. c.lower.ensures x ∙ ap (λ place. count_of c.self.inside.counts x - times_at x place) (c.clause.ensures
          ∙ c.in-Some.ensures.clause));
      index = λ is. let no : false ≡ true = sym c.if-self.false ∙ is in cc;
    })
