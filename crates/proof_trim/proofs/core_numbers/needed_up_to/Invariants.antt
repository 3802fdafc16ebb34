-- What the loops of `needed_up_to` keep.
use Rattle.std.proofs.Common.{◌≡◌, ◌+◌, ◌-◌, ◌≤◌}
use Rattle.std.specs.List.{filter, range_with_len}
use Rattle.proof_trim.specs.Numbers.{has}
use Rattle.proof_trim.proofs.core_numbers.needed_up_to.Given as goal

-- those above the next number are on the row
abbrev pub invariant-numbers : goal.invariant-numbers
invariant-numbers l = record {
  within : l.id ≤ l.count;
  row : l.row ≡ filter (has l.numbers) (range_with_len (l.id + 1) (l.count - l.id));
}

abbrev pub decreases-numbers : goal.decreases-numbers
decreases-numbers l = l.id
