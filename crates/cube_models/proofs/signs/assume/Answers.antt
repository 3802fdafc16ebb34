-- What is left to show of `assume`.
use Rattle.std.proofs.Common.{ap, not}
use Rattle.cube_models.proofs.Said.{Assumes-more}
use Rattle.cube_models.proofs.signs.assume.Goals as goal

pub literals-preserved : goal.literals-preserved
literals-preserved c =
    Assumes-more c.args.vars c.args.cube.now c.literals.literal-index c.literals.signs.items c.literal-item.result c.var.result _
    c.requires.variables c.requires.consistent c.literals.invariant c.literals-test.true c.literal-item.is c.var.ensures.value
    (ap not c.is_negative.ensures)
