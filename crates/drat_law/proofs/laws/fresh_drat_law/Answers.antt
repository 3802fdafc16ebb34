-- Each deletion names a clause that stands, so the new names keep what is verified.
use Rattle.std.proofs.Common.{◌≡◌, Some, ap, ◌∙◌, arith, true}
use Rattle.std.specs.Prelude.{◌≤◌}
use Rattle.std.specs.List.{list_all}
use Rattle.cnf_base.specs.Limits.{max_bytes}
use Rattle.cnf_base.specs.ProofText.{max_literal}
use Rattle.lrat_text.specs.Steps.{steps}
use Rattle.lrat_rules.specs.State.{start}
use Rattle.proof_judging.specs.Verdict.{verdict_as}
use Rattle.drat_text.specs.DratText.{is_drat_printable}
use Rattle.drat_proof.specs.Drat.{drat_steps}
use Rattle.drat_rules.specs.Clauses.{equality_of}
use Rattle.fresh_names.specs.Fresh.{fresh}
use Rattle.drat_law.proofs.Followed.{DratRefutes-verified, steps_stand, verdict-by}
use Rattle.drat_law.proofs.Printable.{drat_steps-printable}
use Rattle.drat_law.proofs.FreshPrintable.{fresh-printable}
use Rattle.drat_law.proofs.laws.fresh_drat_law.Goals as goal

pub returns-clause-refutes : goal.returns-clause-refutes
returns-clause-refutes c = λ vars clauses bytes of_vars verified.
    let law = c.from_lrat_law.ensures in
    c.fresh_law.ensures.refutes vars clauses (drat_steps clauses bytes) of_vars
    (steps_stand law.good law.added law.deleted law.passed_over c.same_clauses_law.ensures.listed (start clauses) clauses
    (steps max_bytes bytes) (law.start clauses))
    (DratRefutes-verified law.good law.added law.deleted law.passed_over law.start clauses bytes verified)

pub returns-clause-once : goal.returns-clause-once
returns-clause-once c = λ vars clauses bytes of_vars.
    let law = c.from_lrat_law.ensures in
    c.fresh_law.ensures.once vars clauses (drat_steps clauses bytes) of_vars
    (steps_stand law.good law.added law.deleted law.passed_over c.same_clauses_law.ensures.listed (start clauses) clauses
    (steps max_bytes bytes) (law.start clauses))

pub returns-clause-written : goal.returns-clause-written
returns-clause-written c = λ deletions vars clauses bytes few of_vars verified short.
    let law = c.from_lrat_law.ensures in
    let stand = steps_stand law.good law.added law.deleted law.passed_over c.same_clauses_law.ensures.listed (start clauses) clauses
    (steps max_bytes bytes) (law.start clauses) in
    let refutes = c.fresh_law.ensures.refutes vars clauses (drat_steps clauses bytes) of_vars stand
    (DratRefutes-verified law.good law.added law.deleted law.passed_over law.start clauses bytes verified) in
    let fits : vars ≤ max_literal = omega (arith, few) in
    let printable : list_all is_drat_printable (drat_steps clauses bytes) ≡ true =
    drat_steps-printable c.start_law.ensures.clauses c.start_law.ensures.none_at_zero c.start_law.ensures.none_above
    c.step_range_law.ensures.literals c.whole_text_law.ensures c.long_text_law.ensures.front vars clauses bytes fits of_vars in
    c.check_drat_law.ensures.written (equality_of deletions) clauses (fresh vars (drat_steps clauses bytes))
    (fresh-printable vars (drat_steps clauses bytes) few printable short) short
    ∙ ap (λ v. Some (verdict_as v)) (verdict-by c.any_order_law.ensures deletions clauses (fresh vars (drat_steps clauses bytes))
    (c.fresh_law.ensures.stand vars clauses (drat_steps clauses bytes) of_vars stand) refutes)
