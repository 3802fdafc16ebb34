-- What the loops of `Counts::enter` keep.
use Rattle.std.proofs.Common.{◌≡◌, ℤ, ◌+◌, take}
use Rattle.lrat_checker.specs.Counts.{count_of, times_in}
use Rattle.lrat_checker.proofs.counts.Counts.enter.Given as goal

abbrev pub invariant-loop-literal : goal.invariant-loop-literal
invariant-loop-literal l = (x : ℤ) → count_of l.self x ≡ count_of l.fn.self x + times_in x (take l.literal-index l.literals)
