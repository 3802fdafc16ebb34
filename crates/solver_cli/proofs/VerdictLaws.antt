-- What the verdict on a proof says, of both formats, and what trimming leaves.
use Rattle.std.proofs.Common.{◌≡◌, ◌<◌, ◌≤◌, ℕ, ℤ, List, length, Some, None, IsTrue}
use Rattle.cnf_base.specs.Truth.{Assignment, AreClausesOf, Satisfies}
use Rattle.term_runner.specs.Proofs.{AreUnsatisfiable}
use Rattle.lrat_rules.specs.Run.{Refutes, verdict}
use Rattle.lrat_rules.specs.declared.outcome.Reason.{Reason}
use Rattle.lrat_checker.specs.TextVerdict.{max_bytes, text_verdict}
use Rattle.proof_judging.specs.declared.verdict.Verdict.TheVariants as judgement
use Rattle.proof_trim.specs.Core.{RefutesFrom, clauses_at, core, core_start}
use Rattle.proof_trim.specs.Trimmed.{each_named, trim, trimmed}
use Rattle.drat_text.specs.declared.step.DratStep.{DratStep}
use Rattle.drat_text.specs.DratText.{drat_lines}
use Rattle.drat_rules.specs.Clauses.{Equality, same_list, same_set}
use Rattle.drat_rules.specs.Run.{DratRefutesBy}
use Rattle.drat_checker.specs.DratVerdict.{drat_text_verdict_by, steps_of_lines}
use Rattle.command_line.specs.declared.format.ProofFormat.{ProofFormat}
use Rattle.command_line.specs.declared.format.ProofFormat.TheVariants.{Lrat, Drat, DratBySet}
use Rattle.solver_cli.specs.Format.{verdict_in, IsRefusedIn, RefutesIn}

-- those of LRAT
pub record LratLaws : Type 0 where
  pub sound : (vars : ℕ) (clauses : List (List ℤ)) (bytes : List ℕ) → AreClausesOf vars clauses → Refutes clauses bytes
      → AreUnsatisfiable clauses
  pub verified : (clauses : List (List ℤ)) (bytes : List ℕ) → text_verdict clauses bytes ≡ Some judgement.Verified → Refutes clauses bytes
  pub refused : (clauses : List (List ℤ)) (bytes : List ℕ) (line : ℕ) (reason : Reason)
      → text_verdict clauses bytes ≡ Some (judgement.Refused line reason) → verdict clauses bytes ≡ Some (line, reason)
  pub overlong : (clauses : List (List ℤ)) (bytes : List ℕ) → text_verdict clauses bytes ≡ None → max_bytes < length bytes

-- those of DRAT, in whatever way clauses are told to be the same
pub record DratLaws : Type 0 where
  pub sound : (same : Equality) (vars : ℕ) (clauses : List (List ℤ)) (bytes : List ℕ) → AreClausesOf vars clauses
      → drat_text_verdict_by same clauses bytes ≡ Some judgement.Verified → (a : Assignment) → Satisfies a clauses → ⊥
  pub verified : (same : Equality) (clauses : List (List ℤ)) (bytes : List ℕ)
      → drat_text_verdict_by same clauses bytes ≡ Some judgement.Verified
      → (steps : List DratStep) × (steps_of_lines (drat_lines bytes) ≡ Some steps) × DratRefutesBy same clauses steps
  pub overlong : (same : Equality) (clauses : List (List ℤ)) (bytes : List ℕ) → drat_text_verdict_by same clauses bytes ≡ None
      → max_bytes < length bytes

-- those of trimming
pub record TrimLaws : Type 0 where
  pub refutes : (clauses : List (List ℤ)) (bytes : List ℕ) → text_verdict clauses bytes ≡ Some judgement.Verified
      → Refutes clauses (trim clauses bytes)
  pub named : (clauses : List (List ℤ)) (bytes : List ℕ) → IsTrue (each_named (trimmed clauses bytes))
  pub verified : (clauses : List (List ℤ)) (bytes : List ℕ) → text_verdict clauses bytes ≡ Some judgement.Verified
      → length (trim clauses bytes) ≤ max_bytes → text_verdict clauses (trim clauses bytes) ≡ Some judgement.Verified
  pub again : (clauses : List (List ℤ)) (bytes : List ℕ) → text_verdict clauses bytes ≡ Some judgement.Verified
      → length (trim clauses bytes) ≤ max_bytes → trim clauses (trim clauses bytes) ≡ trim clauses bytes
  pub core_refuted : (clauses : List (List ℤ)) (bytes : List ℕ) → text_verdict clauses bytes ≡ Some judgement.Verified
      → RefutesFrom (core_start clauses (core clauses bytes)) (trimmed clauses bytes)
  pub core_unsatisfiable : (vars : ℕ) (clauses : List (List ℤ)) (bytes : List ℕ) → AreClausesOf vars clauses
      → text_verdict clauses bytes ≡ Some judgement.Verified → (a : Assignment) → Satisfies a (clauses_at clauses (core clauses bytes)) → ⊥

-- those of a format
pub record Laws : Type 0 where
  pub sound : (format : ProofFormat) (vars : ℕ) (clauses : List (List ℤ)) (bytes : List ℕ) → AreClausesOf vars clauses
      → verdict_in format clauses bytes ≡ Some judgement.Verified → AreUnsatisfiable clauses
  pub verified : (format : ProofFormat) (clauses : List (List ℤ)) (bytes : List ℕ)
      → verdict_in format clauses bytes ≡ Some judgement.Verified → RefutesIn format clauses bytes
  pub refused : (format : ProofFormat) (clauses : List (List ℤ)) (bytes : List ℕ) (line : ℕ) (reason : Reason)
      → verdict_in format clauses bytes ≡ Some (judgement.Refused line reason) → IsRefusedIn format clauses bytes line reason
  pub overlong : (format : ProofFormat) (clauses : List (List ℤ)) (bytes : List ℕ) → verdict_in format clauses bytes ≡ None
      → max_bytes < length bytes
  pub trimming : TrimLaws

pub both : LratLaws → DratLaws → TrimLaws → Laws
both lrat drat trims = record { sound = sound; verified = verified; refused = refused; overlong = overlong; trimming = trims } where
  sound : (format : ProofFormat) (vars : ℕ) (clauses : List (List ℤ)) (bytes : List ℕ) → AreClausesOf vars clauses
      → verdict_in format clauses bytes ≡ Some judgement.Verified → AreUnsatisfiable clauses
  sound Lrat vars clauses bytes are is = lrat.sound vars clauses bytes are (lrat.verified clauses bytes is)
  sound Drat vars clauses bytes are is = drat.sound same_list vars clauses bytes are is
  sound DratBySet vars clauses bytes are is = drat.sound same_set vars clauses bytes are is

  verified : (format : ProofFormat) (clauses : List (List ℤ)) (bytes : List ℕ)
      → verdict_in format clauses bytes ≡ Some judgement.Verified → RefutesIn format clauses bytes
  verified Lrat clauses bytes is = lrat.verified clauses bytes is
  verified Drat clauses bytes is =
      let found = drat.verified same_list clauses bytes is in
      record { steps = found.0; spelled = found.1; refutes = found.2 }
  verified DratBySet clauses bytes is =
      let found = drat.verified same_set clauses bytes is in
      record { steps = found.0; spelled = found.1; refutes = found.2 }

  refused : (format : ProofFormat) (clauses : List (List ℤ)) (bytes : List ℕ) (line : ℕ) (reason : Reason)
      → verdict_in format clauses bytes ≡ Some (judgement.Refused line reason) → IsRefusedIn format clauses bytes line reason
  refused Lrat clauses bytes line reason is = lrat.refused clauses bytes line reason is
  refused Drat clauses bytes line reason is = is
  refused DratBySet clauses bytes line reason is = is

  overlong : (format : ProofFormat) (clauses : List (List ℤ)) (bytes : List ℕ) → verdict_in format clauses bytes ≡ None
      → max_bytes < length bytes
  overlong Lrat clauses bytes is = lrat.overlong clauses bytes is
  overlong Drat clauses bytes is = drat.overlong same_list clauses bytes is
  overlong DratBySet clauses bytes is = drat.overlong same_set clauses bytes is
