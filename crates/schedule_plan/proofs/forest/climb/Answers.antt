-- What is left to show of `climb`.
use Rattle.std.proofs.Common.{ℕ, ◌≡◌, ◌+◌, length, set, Some, arith, sym, subst}
use Rattle.schedule_plan.proofs.Climb.{IsClimbed, IsClimbing, place_at, climb_first, climb_next, climb_root, climb_last, climbed_all}
use Rattle.schedule_plan.proofs.ItemFacts.{items_of, item_facts, sorted_facts}
use Rattle.schedule_plan.proofs.forest.climb.Goals as goal

pub climbing-init : goal.climbing-init
climbing-init c =
    let s = items_of c.args.formula.now c.args.order.now c.args.occurrences.now c.args.buckets.now in
    climb_first s c.occurrences.one-index c.occurrences.buckets c.occurrences.above
    (item_facts c.args.formula.now c.args.order.now c.args.occurrences.now c.args.buckets.now c.requires.sound c.requires.fresh)
    (sorted_facts c.args.formula.now c.args.order.now c.args.occurrences.now c.args.buckets.now c.requires.occurrences)
    c.occurrences-test.true c.occurrences.invariant

pub climbing-preserved-in-Some : goal.climbing-preserved-in-Some
climbing-preserved-in-Some c =
    let s = items_of c.args.formula.now c.args.order.now c.args.occurrences.now c.args.buckets.now in
    let place = place_at c.args.occurrences.now c.occurrences.one-index in
    subst (λ (m : ℕ). IsClimbing s c.occurrences.one-index c.occurrences.buckets c.occurrences.above c.climbing.buckets
    (set c.climbing.above c.climbing.item (Some (m + place))) c.in-Some.next)
    (sym c.len-clauses.ensures)
    (climb_next s c.occurrences.one-index c.occurrences.buckets c.occurrences.above c.climbing.buckets c.climbing.above c.climbing.item
    c.in-Some.next
    (item_facts c.args.formula.now c.args.order.now c.args.occurrences.now c.args.buckets.now c.requires.sound c.requires.fresh)
    (sorted_facts c.args.formula.now c.args.order.now c.args.occurrences.now c.args.buckets.now c.requires.occurrences)
    c.occurrences-test.true c.occurrences.invariant c.climbing.invariant
    (omega (arith, c.climbing-test.true, c.len-clauses.ensures)) c.in-Some.is).1

pub climbing-preserved : goal.climbing-preserved
climbing-preserved c =
    let s = items_of c.args.formula.now c.args.order.now c.args.occurrences.now c.args.buckets.now in
    let place = place_at c.args.occurrences.now c.occurrences.one-index in
    subst (λ (m : ℕ). IsClimbing s c.occurrences.one-index c.occurrences.buckets c.occurrences.above
    (set c.climbing.buckets c.climbing.item place) (set c.climbing.above c.climbing.item (Some (m + place))) (m + place))
    (sym c.len-clauses.ensures)
    (climb_root s c.occurrences.one-index c.occurrences.buckets c.occurrences.above c.climbing.buckets c.climbing.above c.climbing.item
    (item_facts c.args.formula.now c.args.order.now c.args.occurrences.now c.args.buckets.now c.requires.sound c.requires.fresh)
    (sorted_facts c.args.formula.now c.args.order.now c.args.occurrences.now c.args.buckets.now c.requires.occurrences)
    c.occurrences-test.true c.occurrences.invariant c.climbing.invariant
    (omega (arith, c.climbing-test.true, c.len-clauses.ensures)) c.in-None.is)

pub occurrences-preserved : goal.occurrences-preserved
occurrences-preserved c =
    let s = items_of c.args.formula.now c.args.order.now c.args.occurrences.now c.args.buckets.now in
    climb_last s c.occurrences.one-index c.occurrences.buckets c.occurrences.above c.climbing.buckets c.climbing.above c.climbing.item
    c.occurrences.invariant c.climbing.invariant (omega (arith, c.climbing-test.false, c.len-clauses.ensures))

pub returns : goal.returns
returns c =
    let s = items_of c.args.formula.now c.args.order.now c.args.occurrences.now c.args.buckets.now in
    let all_seen : c.occurrences.one-index ≡ length c.args.occurrences.now = omega arith in
    record {
      count = c.occurrences.invariant.buckets_count;
      right = climbed_all s c.occurrences.buckets c.occurrences.above
          (item_facts c.args.formula.now c.args.order.now c.args.occurrences.now c.args.buckets.now c.requires.sound c.requires.fresh)
          (sorted_facts c.args.formula.now c.args.order.now c.args.occurrences.now c.args.buckets.now c.requires.occurrences)
          (subst (λ (n : ℕ). IsClimbed s n c.occurrences.buckets c.occurrences.above) all_seen c.occurrences.invariant);
    }
