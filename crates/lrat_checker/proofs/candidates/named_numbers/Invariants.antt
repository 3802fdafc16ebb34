-- What the loops of `named_numbers` keep.
use Rattle.std.proofs.Common.{◌+◌, ◌≤◌}
use Rattle.lrat_checker.specs.Counts.{total}
use Rattle.lrat_checker.specs.Walk.{has_group, one_where}
use Rattle.lrat_checker.proofs.candidates.named_numbers.Given as goal

-- the named numbers up to the last one
abbrev pub invariant-loop-group : goal.invariant-loop-group
invariant-loop-group l = record {
  few : l.named ≤ l.group-index;
  named : l.named ≤ total (one_where (has_group l.groups)) (l.last + 1);
}
