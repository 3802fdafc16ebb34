-- What the loop of `assumed` keeps.
use Rattle.std.proofs.Common.{◌≡◌, map, take}
use Rattle.cube_models.specs.Way.{is_on}
use Rattle.cube_models.proofs.values.assumed.Given as goal

abbrev pub invariant-signs : goal.invariant-signs
invariant-signs l = l.values.items ≡ map is_on (take l.sign-index l.signs)
