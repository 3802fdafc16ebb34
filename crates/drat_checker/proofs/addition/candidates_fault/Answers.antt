-- All candidates pass.
use Rattle.drat_checker.proofs.addition.candidates_fault.Goals as goal

pub returns-then-pass-clause-line : goal.returns-then-pass-clause-line
returns-then-pass-clause-line c = λ is wanted plain some others first.
    c.in_ok-pass.ensures.line c.if-pass.true wanted plain some others first
