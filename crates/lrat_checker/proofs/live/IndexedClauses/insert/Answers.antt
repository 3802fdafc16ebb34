-- What is left to show of `IndexedClauses::insert`.
use Rattle.std.proofs.Common.{sym, subst}
use Rattle.lrat_rules.specs.State.{Live}
use Rattle.lrat_checker.specs.Holders.{AreFound}
use Rattle.lrat_checker.proofs.Indexed.{found_more, found_insert}
use Rattle.lrat_checker.proofs.live.IndexedClauses.insert.Goals as goal

pub invariant_of-self-in_err-enter-2 : goal.invariant_of-self-in_err-enter-2
invariant_of-self-in_err-enter-2 c =
    found_more c.self.inside.counts c.enter.new.self c.self.inside.holders c.enter-2.new.holders c.self.inside.indexed c.self.inside.clauses
    c.self.invariant c.enter.ensures.kept c.enter-2.ensures.kept

pub invariant_of-self-in_err-insert : goal.invariant_of-self-in_err-insert
invariant_of-self-in_err-insert c =
    subst (λ (live : Live). AreFound c.enter.new.self c.enter-2.new.holders c.self.inside.indexed live) (sym c.in_err-insert.ensures.err)
    (found_more c.self.inside.counts c.enter.new.self c.self.inside.holders c.enter-2.new.holders c.self.inside.indexed
    c.self.inside.clauses c.self.invariant c.enter.ensures.kept c.enter-2.ensures.kept)

pub invariant_of-self-2 : goal.invariant_of-self-2
invariant_of-self-2 c =
    subst (λ (live : Live). AreFound c.enter.new.self c.enter-2.new.holders c.self.inside.indexed live) (sym c.in_ok-insert.ensures.ok)
    (found_insert c.self.inside.counts c.enter.new.self c.self.inside.holders c.enter-2.new.holders c.self.inside.indexed
    c.self.inside.clauses c.self.invariant c.args.id c.args.literals.now
    c.in_ok-enter.ensures.ok c.enter-2.ensures.kept c.in_ok-enter-2.ensures.entered)
