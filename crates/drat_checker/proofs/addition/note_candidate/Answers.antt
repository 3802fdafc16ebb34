-- A candidate that is refuted.
use Rattle.std.proofs.Common.{◌++◌}
use Rattle.drat_rules.specs.Addition.{others_of}
use Rattle.drat_checker.specs.Reasons.{Refutes}
use Rattle.drat_checker.proofs.Lifts.{if-some-at, on-ok}
use Rattle.drat_checker.proofs.addition.note_candidate.Goals as goal

pub returns-in-Some-clause-fits : goal.returns-in-Some-clause-fits
returns-in-Some-clause-fits c =
    on-ok c.add_candidate.result (λ h some wanted plain are units refutes.
    h wanted plain are units
    (if-some-at (Refutes c.args.db.now c.args.trail.now (c.args.clause.now ++ others_of c.args.pivot c.args.other.now)) c.args.refutation
    c.in-Some.found c.in-Some.is refutes))
    c.add_candidate.ensures.fits
