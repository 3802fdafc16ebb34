-- What is left to show of `skip_codes`.
use Rattle.proof_trim.proofs.Moved.{behind_on, behind_end, behind_none}
use Rattle.proof_trim.proofs.sweep.skip_codes.Goals as goal

pub codes-preserved : goal.codes-preserved
codes-preserved c = behind_on c.in-Some.code c.codes.invariant c.in-Some.ensures.some c.if-code-eq0.false

pub returns-then-code-eq0 : goal.returns-then-code-eq0
returns-then-code-eq0 c = behind_end c.in-Some.code c.codes.invariant c.in-Some.ensures.some c.if-code-eq0.true

pub returns-in-None : goal.returns-in-None
returns-in-None c = behind_none c.codes.invariant c.in-None.ensures.none c.in-None.ensures.left
