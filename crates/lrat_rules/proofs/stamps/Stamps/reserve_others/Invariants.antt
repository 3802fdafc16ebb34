-- What the loops of `Stamps::reserve_others` keep.
use Rattle.std.proofs.Common.{◌≡◌, ℤ, int_eq, take}
use Rattle.std.specs.Prelude.{IsFalse, IsTrue}
use Rattle.lrat_rules.specs.Chain.{literals_of}
use Rattle.lrat_rules.specs.Stamps.{has_place, stamp_of}
use Rattle.lrat_rules.proofs.stamps.Stamps.reserve_others.Given as goal

abbrev pub invariant-loop-literal : goal.invariant-loop-literal
invariant-loop-literal l = record {
  same : (x : ℤ) → stamp_of l.self x ≡ stamp_of l.fn.self x;
  places : (x : ℤ) → IsTrue (literals_of (take l.literal-index l.clause) x) → IsFalse (int_eq x l.other_than) → IsTrue (has_place l.self x);
}
