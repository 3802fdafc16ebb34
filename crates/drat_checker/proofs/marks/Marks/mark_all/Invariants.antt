-- The literals so far are marked, and those that were.
use Rattle.std.proofs.Common.{◌≡◌, ◌||◌, true, ℤ, take}
use Rattle.lrat_rules.specs.Chain.{literals_of}
use Rattle.drat_checker.proofs.marks.Marks.mark_all.Given as goal

abbrev pub invariant-loop-literal : goal.invariant-loop-literal
invariant-loop-literal l = record {
  kept : (x : ℤ) → literals_of l.fn.self x ≡ true → literals_of l.self x ≡ true;
  sets : (x : ℤ) → literals_of l.self x ≡ (literals_of l.fn.self x || literals_of (take l.literal-index l.clause) x);
}
