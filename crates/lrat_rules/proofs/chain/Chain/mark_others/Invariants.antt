-- The literals so far that aren't that one are false, besides those of before.
use Rattle.std.proofs.Common.{◌≡◌, ◌≤◌, ℤ, take}
use Rattle.lrat_rules.specs.Pass.{with_others}
use Rattle.lrat_rules.specs.FalseLiterals.{set_of, before_of}
use Rattle.lrat_rules.specs.Stamps.{has_place}
use Rattle.lrat_rules.proofs.chain.Chain.mark_others.Given as goal

abbrev pub invariant-loop-literal : goal.invariant-loop-literal
invariant-loop-literal l = record {
  set : (x : ℤ) → set_of l.self x ≡ with_others (set_of l.fn.self) l.other_than (take l.literal-index l.clause) x;
  same_group : before_of l.self ≡ before_of l.fn.self;
  places : (x : ℤ) → has_place l.self.stamps x ≡ has_place l.fn.self.stamps x;
  given : l.self.group ≤ l.self.last;
}
