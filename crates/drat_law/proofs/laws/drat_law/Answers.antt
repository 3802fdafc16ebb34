-- What is left to show of `drat_law`.
use Rattle.std.proofs.Common.{◌∙◌, ap, Some}
use Rattle.cnf_base.specs.Limits.{max_bytes}
use Rattle.lrat_text.specs.Steps.{steps}
use Rattle.lrat_rules.specs.State.{start}
use Rattle.proof_judging.specs.Verdict.{verdict_as}
use Rattle.drat_proof.specs.Drat.{drat_steps}
use Rattle.drat_rules.specs.Clauses.{equality_of}
use Rattle.drat_law.proofs.Followed.{DratRefutes-verified, steps_stand, verdict-by}
use Rattle.drat_law.proofs.Printable.{drat_steps-printable}
use Rattle.drat_law.proofs.laws.drat_law.Goals as goal

pub returns-clause-verified : goal.returns-clause-verified
returns-clause-verified c =
    let law = c.from_lrat_law.ensures in
    DratRefutes-verified law.good law.added law.deleted law.passed_over law.start

pub returns-clause-refutes : goal.returns-clause-refutes
returns-clause-refutes c clauses bytes short r =
    let law = c.from_lrat_law.ensures in
    DratRefutes-verified law.good law.added law.deleted law.passed_over law.start clauses bytes
    (c.check_law.ensures.refutes clauses bytes short r)

pub returns-clause-stand : goal.returns-clause-stand
returns-clause-stand c clauses bytes =
    let law = c.from_lrat_law.ensures in
    steps_stand law.good law.added law.deleted law.passed_over c.same_clauses_law.ensures.listed (start clauses) clauses
    (steps max_bytes bytes) (law.start clauses)

pub returns-clause-written : goal.returns-clause-written
returns-clause-written c deletions vars clauses bytes fits of_vars verified short =
    let law = c.from_lrat_law.ensures in
    c.check_drat_law.ensures.written (equality_of deletions) clauses (drat_steps clauses bytes)
    (drat_steps-printable c.start_law.ensures.clauses c.start_law.ensures.none_at_zero c.start_law.ensures.none_above
    c.step_range_law.ensures.literals c.whole_text_law.ensures c.long_text_law.ensures.front vars clauses bytes fits of_vars)
    short
    ∙ ap (λ v. Some (verdict_as v)) (verdict-by c.any_order_law.ensures deletions clauses (drat_steps clauses bytes)
    (steps_stand law.good law.added law.deleted law.passed_over c.same_clauses_law.ensures.listed (start clauses) clauses
    (steps max_bytes bytes) (law.start clauses))
    (DratRefutes-verified law.good law.added law.deleted law.passed_over law.start clauses bytes verified))
