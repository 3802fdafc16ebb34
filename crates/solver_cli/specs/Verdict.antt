-- The verdicts on proofs, and their texts on standard output.
use Rattle.std.specs.Prelude.{ℕ, ℤ, List, Option, Some}
use Rattle.answer_text.specs.Status.{verified_line, refused_text, trimmed_text}
use Rattle.proof_judging.specs.declared.verdict.Verdict.{Verdict}
use Rattle.proof_judging.specs.declared.verdict.Verdict.TheVariants as verdict
use Rattle.proof_trim.specs.Trimmed.{additions, additions_of_text, trimmed}
use Rattle.command_line.specs.Command.{Command, Trim}
use Rattle.solver_cli.specs.declared.status.Status.{Status}
use Rattle.solver_cli.specs.declared.status.Status.TheVariants.{Verified, NotVerified}

abbrev pub verdict_text : Verdict → List ℕ
verdict_text verdict.Verified = verified_line
verdict_text (verdict.Refused line reason) = refused_text line reason

-- what a command prints for a verified proof over these clauses: with `trim`, how many of its additions are kept, first
abbrev pub verified_text : Option Command → List (List ℤ) → List ℕ → List ℕ
verified_text (Some (Trim task)) clauses bytes = trimmed_text (additions (trimmed clauses bytes)) (additions_of_text bytes)
verified_text _ clauses bytes = verified_line

-- and for any verdict on it
abbrev pub printed_verdict : Option Command → List (List ℤ) → List ℕ → Verdict → List ℕ
printed_verdict asked clauses bytes verdict.Verified = verified_text asked clauses bytes
printed_verdict asked clauses bytes (verdict.Refused line reason) = refused_text line reason

abbrev pub status_of_verdict : Verdict → Status
status_of_verdict verdict.Verified = Verified
status_of_verdict (verdict.Refused line reason) = NotVerified line reason
