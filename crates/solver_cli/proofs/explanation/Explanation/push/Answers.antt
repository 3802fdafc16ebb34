-- What is left to show of `push`: lines behind lines are lines, and so they are without those for which there is no room.
use Rattle.solver_cli.proofs.Commented.{line_pushed}
use Rattle.solver_cli.proofs.explanation.Explanation.push.Goals as goal

pub invariant_of-self : goal.invariant_of-self
invariant_of-self c = record {
  whole = line_pushed _ _ c.args.line.now c.try_extend_from_slice-fits.result c.try_extend_from_slice-fits.ensures.ok
      c.try_extend_from_slice-fits.ensures.err c.args.self.now.whole c.requires;
}
