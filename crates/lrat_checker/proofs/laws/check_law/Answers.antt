-- The steps of a text within the limit are those of its lines.
use Rattle.std.proofs.Common.{◌≡◌, ℕ, ◌<◌, ◌≤◌, false, ℤ, List, length, None, Some, inl, inr, sym, ◌∙◌, ap}
use Rattle.std.proofs.lemmas.Bool.{cases_lt}
use Rattle.cnf_base.specs.Text.{end_line}
use Rattle.cnf_base.specs.ProofText.{proof_lines}
use Rattle.lrat_text.specs.Steps.{steps, no_more, lines_then}
use Rattle.lrat_rules.specs.State.{start}
use Rattle.lrat_rules.specs.Run.{verdict}
use Rattle.proof_judging.specs.Verdict.{verdict_as}
use Rattle.lrat_checker.specs.TextVerdict.{max_bytes, steps_verdict, text_verdict}
use Rattle.lrat_checker.proofs.Verdicts.{some_none, lines_verdict, verified_none, refused_some}
use Rattle.lrat_checker.proofs.Overlong.{long_verdict, verified_fits, long_refused}
use Rattle.lrat_checker.proofs.laws.check_law.Goals as goal

whole : ((limit : ℕ) (bytes : List ℕ) → length bytes ≤ limit → steps limit bytes
    ≡ lines_then (proof_lines bytes) (no_more (end_line bytes)))
    → (clauses : List (List ℤ)) (bytes : List ℕ) → length bytes ≤ max_bytes → text_verdict clauses bytes
    ≡ Some (verdict_as (verdict clauses bytes))
whole law clauses bytes fits = ap (steps_verdict (start clauses) false) (law max_bytes bytes fits)
    ∙ lines_verdict (end_line bytes) (proof_lines bytes) (start clauses) false

beyond : ((limit : ℕ) (bytes : List ℕ) → length bytes ≤ limit → steps limit bytes
    ≡ lines_then (proof_lines bytes) (no_more (end_line bytes)))
    → (clauses : List (List ℤ)) (bytes : List ℕ) → text_verdict clauses bytes ≡ None → max_bytes < length bytes
beyond law clauses bytes e = elim (cases_lt max_bytes (length bytes)) [
  | inl above ↦ above
  | inr fits ↦ (let none : Some (verdict_as (verdict clauses bytes)) ≡ None = sym (whole law clauses bytes fits) ∙ e in
      absurd (some_none none))
]

pub returns-clause-same : goal.returns-clause-same
returns-clause-same c = whole c.whole_text_law.ensures

pub returns-clause-long : goal.returns-clause-long
returns-clause-long c = long_verdict c.long_text_law.ensures.within

pub returns-clause-verified : goal.returns-clause-verified
returns-clause-verified c = λ clauses bytes e. record {
  verified = verified_none (verdict clauses bytes)
      (sym (whole c.whole_text_law.ensures clauses bytes (verified_fits c.long_text_law.ensures.front clauses bytes e)) ∙ e);
}

pub returns-clause-refutes : goal.returns-clause-refutes
returns-clause-refutes c = λ clauses bytes fits refutes. whole c.whole_text_law.ensures clauses bytes fits
    ∙ ap (λ given. Some (verdict_as given)) refutes.verified

pub returns-clause-refused : goal.returns-clause-refused
returns-clause-refused c = λ clauses bytes line reason e. elim (cases_lt max_bytes (length bytes)) [
  | inl longer ↦ long_refused c.long_text_law.ensures.front clauses bytes line reason longer e
  | inr fits ↦ refused_some (verdict clauses bytes) line reason (sym (whole c.whole_text_law.ensures clauses bytes fits) ∙ e)
]

pub returns-clause-overlong : goal.returns-clause-overlong
returns-clause-overlong c = λ clauses bytes e. beyond c.whole_text_law.ensures clauses bytes e
