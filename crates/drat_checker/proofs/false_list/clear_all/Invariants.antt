-- The flags of the literals so far are cleared.
use Rattle.std.proofs.Common.{◌≡◌, ◌&&◌, not, ℤ, take}
use Rattle.lrat_rules.specs.Chain.{literals_of}
use Rattle.drat_checker.specs.Flags.{is_set, has_flag}
use Rattle.drat_checker.proofs.false_list.clear_all.Given as goal

abbrev pub invariant-loop-literal : goal.invariant-loop-literal
invariant-loop-literal l = record {
  cleared : (x : ℤ) → is_set l.flags x ≡ (not (literals_of (take l.literal-index l.literals) x) && is_set l.fn.flags x);
  flags : (x : ℤ) → has_flag l.flags x ≡ has_flag l.fn.flags x;
}
