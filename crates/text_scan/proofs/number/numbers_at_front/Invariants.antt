-- The numbers so far stand at the front.
use Rattle.std.proofs.Common.{◌≤◌, ◌-◌, false, length, take}
use Rattle.text_scan.specs.Block.{AreNumbersAtFront}
use Rattle.text_scan.proofs.number.numbers_at_front.Given as goal

abbrev pub invariant-numbers : goal.invariant-numbers
invariant-numbers l = record {
  range : l.count ≤ length l.places;
  within : l.at ≤ length l.bytes;
  front : AreNumbersAtFront false (take l.count l.places) l.bytes l.at false;
}

abbrev pub decreases-numbers : goal.decreases-numbers
decreases-numbers l = length l.places - l.count
