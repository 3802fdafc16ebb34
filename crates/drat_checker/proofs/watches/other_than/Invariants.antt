-- The literals so far are that one.
use Rattle.std.proofs.Common.{◌≡◌, true, int_eq, take}
use Rattle.std.specs.List.{list_all}
use Rattle.drat_checker.proofs.watches.other_than.Given as goal

abbrev pub invariant-loop-literal : goal.invariant-loop-literal
invariant-loop-literal l = list_all (int_eq l.other) (take l.literal-index l.fn.literals) ≡ true
