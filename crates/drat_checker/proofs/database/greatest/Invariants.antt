-- The greatest of the mixed places so far.
use Rattle.std.proofs.Common.{◌≡◌, ◌<◌, max, drop}
use Rattle.drat_checker.specs.Database.{greatest}
use Rattle.drat_checker.proofs.database.greatest.Given as goal

abbrev pub invariant-loop-literal : goal.invariant-loop-literal
invariant-loop-literal l = record {
  small : l.most < 4294967291;
  so_far : max l.most (greatest l.shift (drop l.literal-index l.clause)) ≡ greatest l.shift l.clause;
}
