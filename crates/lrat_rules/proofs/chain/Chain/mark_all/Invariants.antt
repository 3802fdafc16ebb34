-- The literals so far are false.
use Rattle.std.proofs.Common.{◌≡◌, ◌≤◌, ℤ, take, None}
use Rattle.lrat_rules.specs.Chain.{literals_of}
use Rattle.lrat_rules.specs.FalseLiterals.{set_of, before_of}
use Rattle.lrat_rules.specs.Stamps.{has_place}
use Rattle.lrat_rules.proofs.chain.Chain.mark_all.Given as goal

abbrev pub invariant-loop-literal : goal.invariant-loop-literal
invariant-loop-literal l = record {
  set : (x : ℤ) → set_of l.self x ≡ literals_of (take l.literal-index l.clause) x;
  no_group : before_of l.self ≡ None;
  places : (x : ℤ) → has_place l.self.stamps x ≡ has_place l.fn.self.stamps x;
  given : l.self.group ≤ l.self.last;
}
