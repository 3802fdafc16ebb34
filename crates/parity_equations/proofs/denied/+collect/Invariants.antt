-- `collect` ends: the place rises to the number of variables.
use Rattle.std.proofs.Common.{◌-◌, length}
use Rattle.parity_equations.proofs.denied.+collect.Given as goal

abbrev pub decreases-collect : goal.decreases-collect
decreases-collect l = length l.variables.now - l.place
