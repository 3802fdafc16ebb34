-- What is left to show of `difference`.
use Rattle.std.proofs.Common.{◌≡◌, ◌⊎◌, ◌∙◌, ◌<◌, ◌-◌, ◌++◌, ℕ, List, [], drop, length, length-drop, take, sym, ap}
use Rattle.std.proofs.Common.{subst, arith, inl, inr}
use Rattle.std.specs.Prelude.{slice_index_or}
use Rattle.std.proofs.lemmas.Bool.{cases_lt}
use Rattle.std.proofs.lemmas.List.{drop_all, take_all}
use Rattle.parity_terms.specs.Order.{AreDifferent, place_of}
use Rattle.parity_terms.proofs.Merged.{AreMerged, SameOdd, both_merged, both_odd, different_end, merged_none, odd_none, one_merged, one_odd}
use Rattle.parity_terms.proofs.Merged.{other_merged, other_odd}
use Rattle.parity_terms.proofs.Placing.{in_order_at}
use Rattle.parity_terms.proofs.merge.difference.Goals.{then-both-test+else-j-other, else-both-test}
use Rattle.parity_terms.proofs.merge.difference.Goals as goal

pub both-init : goal.both-init
both-init c =
    let one = c.args.one.now in
    let other = c.args.other.now in
    record {
      within = omega arith;
      within_other = omega arith;
      odd = subst (λ (l : List ℕ). SameOdd l one other one other) (sym c.new-sum.ensures.items) (odd_none one other);
      merged = λ first are are_other. subst (λ (l : List ℕ). AreMerged c.args.places.now first l one other) (sym c.new-sum.ensures.items)
          (merged_none c.args.places.now first one other are are_other);
    }

pub both-preserved-then-u-v : goal.both-preserved-then-u-v
both-preserved-then-u-v c =
    let places = c.args.places.now in
    let one = c.args.one.now in
    let other = c.args.other.now in
    let kept = c.both.invariant in
    record {
      within = omega (arith, c.both-test.true);
      within_other = omega (arith, c.if-j-other.true);
      odd = both_odd places c.both.sum.items one other c.both.i c.both.j c.both-test.true c.if-j-other.true kept.odd kept.merged
          c.if-u-v.true;
      merged = both_merged places c.both.sum.items one other c.both.i c.both.j c.both-test.true c.if-j-other.true kept.odd kept.merged
          c.if-u-v.true;
    }

pub both-preserved-then-own-place : goal.both-preserved-then-own-place
both-preserved-then-own-place c =
    let places = c.args.places.now in
    let one = c.args.one.now in
    let other = c.args.other.now in
    let kept = c.both.invariant in
    record {
      within = omega (arith, c.both-test.true);
      within_other = kept.within_other;
      odd = one_odd places c.both.sum.items one other c.both.i c.both.j c.both-test.true c.if-j-other.true kept.odd kept.merged
          c.push.new.self.items c.in_ok-push.ensures.items c.if-own-place.true;
      merged = one_merged places c.both.sum.items one other c.both.i c.both.j c.both-test.true c.if-j-other.true kept.odd kept.merged
          c.push.new.self.items c.in_ok-push.ensures.items c.if-own-place.true;
    }

pub both-preserved : goal.both-preserved
both-preserved c =
    let places = c.args.places.now in
    let one = c.args.one.now in
    let other = c.args.other.now in
    let kept = c.both.invariant in
    let u = slice_index_or one c.both.i 0 in
    let v = slice_index_or other c.both.j 0 in
    let own = in_order_at places 0 one c.both.i 0 c.requires.one c.both-test.true in
    let own_other = in_order_at places 0 other c.both.j 0 c.requires.other c.if-j-other.true in
    let less : place_of places v < place_of places u = elim (cases_lt (place_of places v) (place_of places u)) [
      | inl less ↦ less
      | inr past ↦ absurd (
          let same : place_of places u ≡ place_of places v = omega (arith, past, c.if-own-place.false) in
          c.if-u-v.false (c.requires.apart u v own.0 own.1 own_other.0 own_other.1 same))
    ] in
    record {
      within = kept.within;
      within_other = omega (arith, c.if-j-other.true);
      odd = other_odd places c.both.sum.items one other c.both.i c.both.j c.both-test.true c.if-j-other.true kept.odd kept.merged
          c.push-in-both.new.self.items c.in_ok-push-2.ensures.items less;
      merged = other_merged places c.both.sum.items one other c.both.i c.both.j c.both-test.true c.if-j-other.true kept.odd kept.merged
          c.push-in-both.new.self.items c.in_ok-push-2.ensures.items less;
    }

-- what is left of a list, as a slice is read
rest_of : (xs : List ℕ) (i : ℕ) → take (length xs - i) (drop i xs) ≡ drop i xs
rest_of xs i = take_all (length xs - i) (drop i xs) (omega (arith, length-drop i xs))

pub returns : goal.returns
returns c =
    let one = c.args.one.now in
    let other = c.args.other.now in
    let sum = c.both.sum.items in
    let ended : (drop c.both.i one ≡ []) ⊎ (drop c.both.j other ≡ []) = elim c.both-test.branch [
      | then-both-test+else-j-other w ↦ inr (drop_all c.both.j other w.if-j-other.false)
      | else-both-test w ↦ inl (drop_all c.both.i one w.both-test.false)
    ] in
    let first : c.extend_from_slice.new.self.items ≡ sum ++ drop c.both.i one = c.in_ok-extend_from_slice.ensures.items
    ∙ ap (λ (l : List ℕ). sum ++ l) (rest_of one c.both.i) in
    subst (AreDifferent c.args.places.now one other)
    (sym (c.in_ok-extend_from_slice-2.ensures.items ∙ (λ k. first k ++ rest_of other c.both.j k)))
    (different_end c.args.places.now sum (drop c.both.i one) (drop c.both.j other) one other ended c.both.invariant.odd
    c.both.invariant.merged)
