-- What is there, and what is left behind the place, are all.
use Rattle.std.proofs.Common.{◌≡◌, ◌≤◌, ◌++◌, length, reverse, take}
use Rattle.drat_checker.proofs.hints.push_turned.Given as goal

abbrev pub invariant-ids : goal.invariant-ids
invariant-ids l = record {
  within : l.left ≤ length l.found;
  all : l.hints ++ reverse (take l.left l.found) ≡ l.fn.hints ++ reverse l.found;
}

abbrev pub decreases-ids : goal.decreases-ids
decreases-ids l = l.left
