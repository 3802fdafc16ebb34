-- What the loops of `sweep` keep.
use Rattle.std.proofs.Common.{◌≡◌, List, length}
use Rattle.std.specs.Prelude.{reverse}
use Rattle.cnf_base.specs.declared.step.Step.{Step}
use Rattle.proof_trim.specs.Numbers.{has}
use Rattle.proof_trim.specs.Sweep.{pile_of}
use Rattle.proof_trim.proofs.Swept.{Underway}
use Rattle.proof_trim.proofs.sweep.sweep.Given as goal

abbrev pub invariant-from_end : goal.invariant-from_end
invariant-from_end l = (steps : List Step) → l.fn.cut ≡ pile_of (reverse steps) → Underway steps l.cut l.back (has l.numbers)

abbrev pub decreases-from_end : goal.decreases-from_end
decreases-from_end l = length l.cut
