-- What is assumed are the clause and the candidate's other literals.
use Rattle.std.proofs.Common.{◌++◌}
use Rattle.drat_rules.specs.Addition.{others_of}
use Rattle.drat_checker.proofs.line.LineHints.group_hints.Goals as goal

pub returns-clause-explain : goal.returns-clause-explain
returns-clause-explain c =
    c.in_ok-explain_into.ensures (c.args.clause.now ++ others_of c.args.pivot c.args.other.now) c.in_ok-mark_both.ensures
