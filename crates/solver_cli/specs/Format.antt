-- What the text of a proof says over a formula, by its format. (LRAT: Cruz-Filipe, Heule, Hunt, Kaufmann, Schneider-Kamp,
-- CADE 2017. DRAT: Wetzler, Heule, Hunt, SAT 2014.)
use Rattle.std.specs.Prelude.{◌≡◌, ℕ, Bool, ℤ, List, Option, Some}
use Rattle.lrat_rules.specs.Run.{Refutes, verdict}
use Rattle.lrat_rules.specs.declared.outcome.Reason.{Reason}
use Rattle.lrat_checker.specs.TextVerdict.{text_verdict, verdict_so_far}
use Rattle.lrat_checker.specs.Memory.{check_may_want_memory}
use Rattle.proof_judging.specs.declared.verdict.Verdict.{Verdict}
use Rattle.proof_judging.specs.declared.verdict.Verdict.TheVariants.{Refused}
use Rattle.drat_text.specs.declared.step.DratStep.{DratStep}
use Rattle.drat_text.specs.DratText.{drat_lines}
use Rattle.drat_rules.specs.Clauses.{Equality, same_list, same_set}
use Rattle.drat_rules.specs.Run.{DratRefutesBy}
use Rattle.drat_checker.specs.DratVerdict.{drat_text_verdict, drat_text_verdict_by, drat_verdict_so_far, drat_verdict_so_far_by}
use Rattle.drat_checker.specs.DratVerdict.{steps_of_lines}
use Rattle.drat_checker.specs.Memory.{drat_check_may_want_memory, drat_check_may_want_memory_by}
use Rattle.command_line.specs.declared.format.ProofFormat.{ProofFormat}
use Rattle.command_line.specs.declared.format.ProofFormat.TheVariants.{Lrat, Drat, DratBySet}

-- the verdict of a text, nothing where it is too long and no line under the limit is bad
abbrev pub verdict_in : ProofFormat → List (List ℤ) → List ℕ → Option Verdict
verdict_in Lrat clauses bytes = text_verdict clauses bytes
verdict_in Drat clauses bytes = drat_text_verdict clauses bytes
verdict_in DratBySet clauses bytes = drat_text_verdict_by same_set clauses bytes

-- the verdict that the front of a longer text decides, nothing where none of its lines is bad so far
abbrev pub so_far_in : ProofFormat → List (List ℤ) → List ℕ → Option Verdict
so_far_in Lrat clauses bytes = verdict_so_far clauses bytes
so_far_in Drat clauses bytes = drat_verdict_so_far clauses bytes
so_far_in DratBySet clauses bytes = drat_verdict_so_far_by same_set clauses bytes

-- judging a text of which so many bytes are still to come may want memory behind these
abbrev pub may_want_memory_in : ProofFormat → List (List ℤ) → ℕ → List ℕ → Bool
may_want_memory_in Lrat clauses more bytes = check_may_want_memory clauses more bytes
may_want_memory_in Drat clauses more bytes = drat_check_may_want_memory clauses more bytes
may_want_memory_in DratBySet clauses more bytes = drat_check_may_want_memory_by same_set clauses more bytes

-- each line of the text spells a step of DRAT, and these are verified
pub record TextDratRefutes (same : Equality) (clauses : List (List ℤ)) (bytes : List ℕ) : Type 0 where
  pub steps : List DratStep
  pub spelled : steps_of_lines (drat_lines bytes) ≡ Some steps
  pub refutes : DratRefutesBy same clauses steps

-- the bytes refute the clauses by the rules of their format
abbrev pub RefutesIn : ProofFormat → List (List ℤ) → List ℕ → Type 0
RefutesIn Lrat clauses bytes = Refutes clauses bytes
RefutesIn Drat clauses bytes = TextDratRefutes same_list clauses bytes
RefutesIn DratBySet clauses bytes = TextDratRefutes same_set clauses bytes

-- this line is the first that isn't good, or that of the end, and why
abbrev pub IsRefusedIn : ProofFormat → List (List ℤ) → List ℕ → ℕ → Reason → Type 0
IsRefusedIn Lrat clauses bytes line reason = verdict clauses bytes ≡ Some (line, reason)
IsRefusedIn Drat clauses bytes line reason = drat_text_verdict clauses bytes ≡ Some (Refused line reason)
IsRefusedIn DratBySet clauses bytes line reason = drat_text_verdict_by same_set clauses bytes ≡ Some (Refused line reason)
