-- What the loop of `Values::of` keeps.
use Rattle.std.proofs.Common.{◌≡◌, take}
use Rattle.cube_queries.proofs.values.Values.of.Given as goal

abbrev pub invariant-values : goal.invariant-values
invariant-values l = l.list.items ≡ take l.value-index l.values
