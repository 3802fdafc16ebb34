-- What is left to show of `fresh`.
use Rattle.std.proofs.Common.{ℕ, ◌≡◌, ◌+◌, length, ap, subst, arith}
use Rattle.schedule_plan.proofs.Fresh.{IsFreshAfter, fresh_more, fresh_last}
use Rattle.schedule_plan.proofs.Climb.{no_occurrence, place_at}
use Rattle.schedule_plan.proofs.forest.fresh.Goals as goal

pub returns : goal.returns
returns c =
    let formula = c.args.formula.now in
    let order = c.args.order.now in
    let all_seen : c.loop-one.one-index ≡ length c.args.occurrences.now = omega arith in
    fresh_last formula order c.args.occurrences.now c.loop-one.buckets.items c.requires.occurrences
    (subst (λ (n : ℕ). IsFreshAfter (length formula.clauses) (length order) c.args.occurrences.now n c.loop-one.buckets.items) all_seen
    c.loop-one.invariant)

pub loop-one-preserved : goal.loop-one-preserved
loop-one-preserved c =
    let occurrences = c.args.occurrences.now in
    let k = c.loop-one.one-index in
    fresh_more (length c.args.formula.now.clauses) (length c.args.order.now) occurrences k c.loop-one.buckets.items
    (c.len-clauses.result + place_at occurrences k) (length c.as_slice-variables.result.now)
    (ap (λ (n : ℕ). n + place_at occurrences k) c.len-clauses.ensures) (ap length c.as_slice-variables.ensures.value)
    (c.requires.occurrences.sound k no_occurrence c.loop-one-test.true).place c.loop-one.invariant
