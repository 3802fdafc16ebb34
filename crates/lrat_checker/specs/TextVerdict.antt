-- What a proof text says over a formula: its steps in turn from the formula's clauses on, up to the first bad line, to
-- the end, or to the limit. (Cruz-Filipe, Heule, Hunt, Kaufmann, Schneider-Kamp, CADE 2017.)
use Rattle.std.specs.Prelude.{ℕ, Bool, false, ℤ, List, Option, None, Some}
use Rattle.cnf_base.specs.declared.step.Step.{Step}
use Rattle.lrat_text.specs.Steps.{Steps, steps, steps_so_far}
use Rattle.lrat_rules.specs.State.{State, start}
use Rattle.lrat_rules.specs.Run.{Judged, Reached, Stopped, step_fault, after_step, step_adds_empty}
use Rattle.proof_judging.specs.declared.verdict.Verdict.{Verdict}
use Rattle.proof_judging.specs.declared.verdict.Verdict.TheVariants.{Refused}
use Rattle.proof_judging.specs.Verdict.{Format, verdict_by}
pub use Rattle.cnf_base.specs.Limits.{max_bytes}

-- the rules of LRAT
abbrev pub lrat_format : Format State Step
lrat_format = record { fault = step_fault; after = after_step; adds_empty = step_adds_empty }

-- The verdict of these steps from this state on, where earlier ones did or didn't add the empty clause. Nothing
-- where they are good up to the limit.
abbrev pub steps_verdict : State → Bool → Steps → Option Verdict
steps_verdict state has_empty steps = verdict_by lrat_format state has_empty steps

-- the verdict of a text, nothing where it is too long and no line under the limit is bad
abbrev pub text_verdict : List (List ℤ) → List ℕ → Option Verdict
text_verdict clauses bytes = steps_verdict (start clauses) false (steps max_bytes bytes)

-- The verdict that the front of a longer text decides, whatever comes after it: some line of it is bad, and a token of
-- a later line has come. Nothing where none is bad so far.
abbrev pub verdict_so_far : List (List ℤ) → List ℕ → Option Verdict
verdict_so_far clauses bytes = steps_verdict (start clauses) false (steps_so_far bytes)

-- the verdict of a text that is too long, by where its lines that end under the limit lead
abbrev pub verdict_within : Judged → Option Verdict
verdict_within (Stopped line reason) = Some (Refused line reason)
verdict_within (Reached state) = None
