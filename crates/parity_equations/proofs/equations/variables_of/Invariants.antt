-- What the loop of `variables_of` keeps.
use Rattle.std.proofs.Common.{◌≡◌, ◌≤◌, length, map, nat_abs, take}
use Rattle.parity_equations.proofs.equations.variables_of.Given as goal

abbrev pub invariant-literals : goal.invariant-literals
invariant-literals l = record {
  items : l.variables.items ≡ map nat_abs (take l.literal-index l.literal-items);
  same : l.literal-items ≡ l.set.items;
  few : length l.literal-items ≤ 8;
}
