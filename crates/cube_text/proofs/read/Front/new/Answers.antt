-- What is left to show of `Front::new`.
use Rattle.cube_text.proofs.Fronts.{no_numbers}
use Rattle.cube_text.proofs.read.Front.new.Goals as goal

pub invariant_of-result : goal.invariant_of-result
invariant_of-result c = rw (c.new.ensures, c.new-2.ensures.items) (no_numbers c.args.vars c.requires)
