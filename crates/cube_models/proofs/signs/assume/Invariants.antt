-- What the loop of `assume` keeps.
use Rattle.cube_models.specs.Way.{Assumes}
use Rattle.cube_models.proofs.signs.assume.Given as goal

abbrev pub invariant-literals : goal.invariant-literals
invariant-literals l = Assumes l.vars l.cube l.literal-index l.signs.items
