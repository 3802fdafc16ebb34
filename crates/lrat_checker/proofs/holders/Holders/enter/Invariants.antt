-- What the loops of `Holders::enter` keep.
use Rattle.std.proofs.Common.{◌≡◌, true, take}
use Rattle.lrat_checker.specs.Holders.{KeepsAll, is_entered}
use Rattle.lrat_checker.proofs.holders.Holders.enter.Given as goal

-- nothing is lost so far, and the number stands in the lists of the literals so far
abbrev pub invariant-loop-literal : goal.invariant-loop-literal
invariant-loop-literal l = record {
  kept : KeepsAll l.fn.self l.self;
  entered : is_entered l.self l.id (take l.literal-index l.literals) ≡ true;
}
