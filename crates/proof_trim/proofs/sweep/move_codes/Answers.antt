-- What is left to show of `move_codes`.
use Rattle.proof_trim.proofs.Moved.{behind_on, behind_end, behind_none, moved_on, moved_end, moved_none}
use Rattle.proof_trim.proofs.sweep.move_codes.Goals as goal

pub codes-preserved : goal.codes-preserved
codes-preserved c = record {
  behind = behind_on c.in-Some.code c.codes.invariant.behind c.in-Some.ensures.some c.if-code-eq0.false;
  moved = moved_on c.in-Some.code c.codes.invariant.moved c.in-Some.ensures.some c.if-code-eq0.false c.in_ok-push-in-Some.ensures;
}

pub returns-then-code-eq0-clause-from : goal.returns-then-code-eq0-clause-from
returns-then-code-eq0-clause-from c = behind_end c.in-Some.code c.codes.invariant.behind c.in-Some.ensures.some c.if-code-eq0.true

pub returns-then-code-eq0-clause-to : goal.returns-then-code-eq0-clause-to
returns-then-code-eq0-clause-to c = moved_end c.in-Some.code c.codes.invariant.moved c.in-Some.ensures.some c.if-code-eq0.true

pub returns-in-None-clause-from : goal.returns-in-None-clause-from
returns-in-None-clause-from c = behind_none c.codes.invariant.behind c.in-None.ensures.none c.in-None.ensures.left

pub returns-in-None-clause-to : goal.returns-in-None-clause-to
returns-in-None-clause-to c = moved_none c.codes.invariant.moved c.in-None.ensures.none
