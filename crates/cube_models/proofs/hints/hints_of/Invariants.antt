-- What the loop of `hints_of` keeps.
use Rattle.std.proofs.Common.{◌≡◌, map, take}
use Rattle.cube_models.specs.Denied.{hint_at}
use Rattle.cube_models.proofs.hints.hints_of.Given as goal

abbrev pub invariant-dead : goal.invariant-dead
invariant-dead g l = l.hints.items ≡ map (hint_at l.table.graph l.signs l.sums) (take l.key-index l.dead)
