-- What is assumed is the clause.
use Rattle.drat_checker.proofs.Lifts.{on-ok}
use Rattle.drat_checker.proofs.line.LineHints.note_refutation.Goals as goal

pub returns-clause-explain : goal.returns-clause-explain
returns-clause-explain c =
    on-ok c.explain_into.result (λ h wanted. h c.args.clause.now c.in_ok-mark_clause.ensures) c.explain_into.ensures
