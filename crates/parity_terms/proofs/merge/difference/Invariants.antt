-- What the loop of `difference` keeps.
use Rattle.std.proofs.Common.{◌≤◌, ◌+◌, ◌-◌, ℕ, drop, length}
use Rattle.parity_terms.specs.Order.{AreInOrder}
use Rattle.parity_terms.proofs.Merged.{AreMerged, SameOdd}
use Rattle.parity_terms.proofs.merge.difference.Given as goal

abbrev pub invariant-both : goal.invariant-both
invariant-both l = record {
  within : l.i ≤ length l.one;
  within_other : l.j ≤ length l.other;
  odd : SameOdd l.sum.items (drop l.i l.one) (drop l.j l.other) l.one l.other;
  merged : (first : ℕ) → AreInOrder l.places first l.one → AreInOrder l.places first l.other
      → AreMerged l.places first l.sum.items (drop l.i l.one) (drop l.j l.other);
}

abbrev pub decreases-both : goal.decreases-both
decreases-both l = length l.one - l.i + (length l.other - l.j)
