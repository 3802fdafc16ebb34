-- What the answer of trimming says, by the verdict on the text and what was cut of it.
use Rattle.std.proofs.Common.{◌≡◌, ℕ, List, ◌++◌, Option, Some, Ok, Err, ap, ◌∙◌}
use Rattle.std.specs.Prelude.{Result, reverse}
use Rattle.cnf_base.specs.declared.step.Step.{Step}
use Rattle.host_io.specs.Channel.{Channel}
use Rattle.text_scan.specs.Decides.{gained, Decides}
use Rattle.proof_judging.specs.declared.verdict.Verdict.{Verdict}
use Rattle.proof_judging.specs.declared.verdict.Verdict.TheVariants.{Verified}
use Rattle.proof_judging.specs.declared.verdict.CheckError.{CheckError}
use Rattle.proof_judging.specs.declared.verdict.CheckError.TheVariants.{ReadFault, TooLong, OutOfMemory}
use Rattle.proof_judging.specs.Verdict.{Answers}
use Rattle.proof_trim.specs.declared.text.Trimmed.{Trimmed}
use Rattle.proof_trim.specs.declared.text.Trimmed.TheVariants.{Steps, Refused as IsRefused}
use Rattle.proof_trim.specs.declared.cutting.CutProof.{CutProof}
use Rattle.proof_trim.specs.Sweep.{pile_of}
use Rattle.proof_trim.specs.Trimmed.{trimmed_of}
use Rattle.proof_trim.specs.Answer.{Trims, AnswersBy}
use Rattle.proof_trim.specs.Core.{core_of}

-- one thing that the bytes taken decide, and another where something else holds
pub decided_with : {A : Type 0} {old new : Channel} {P Q : List ℕ → List ℕ → Type 0} (R : List ℕ → List ℕ → Type 0) → Decides old new P
    → (A → Decides old new Q) → ((bytes more : List ℕ) → P bytes more → (A → Q bytes more) → R bytes more) → Decides old new R
decided_with {A} {old} {new} R first second joins = record {
  taken = first.taken;
  left = first.left;
  holds = λ more may. joins (gained old new ++ more) more (first.holds more may) (λ a. (second a).holds more may);
}

-- an error of the check
pub trims_error : (error : CheckError) (text : Option Verdict) (steps : List Step) (numbers : List ℕ) (count : ℕ) → Answers (Err error) text
    → Trims (Err error) text steps numbers count
trims_error ReadFault text steps numbers count answers = tt
trims_error TooLong text steps numbers count answers = answers
trims_error OutOfMemory text steps numbers count answers = tt

-- a verdict
pub trims_by : (result : Result Trimmed CheckError) (verdict : Verdict) (clauses : ℕ) (cut : CutProof) (text : Option Verdict)
    (steps : List Step) (count : ℕ) → text ≡ Some verdict
    → (verdict ≡ Verified → cut ≡ record { steps = pile_of (reverse steps); total = count })
    → AnswersBy clauses cut verdict result
    → Trims result text (trimmed_of clauses steps) (core_of clauses (trimmed_of clauses steps)) count
trims_by (Ok (Steps kept_text core kept total)) verdict clauses cut text steps count is cut_is answers =
    let whole = cut_is answers.0 in
    let same = answers.1 steps (ap (λ (c : CutProof). c.steps) whole) in (
      is ∙ ap Some answers.0,
      same.0,
      same.1,
      same.2,
      answers.2 ∙ ap (λ (c : CutProof). c.total) whole,
    )
trims_by (Ok (IsRefused line reason)) verdict clauses cut text steps count is cut_is answers = is ∙ ap Some answers
trims_by (Err ReadFault) verdict clauses cut text steps count is cut_is answers = absurd answers
trims_by (Err TooLong) verdict clauses cut text steps count is cut_is answers = absurd answers
trims_by (Err OutOfMemory) verdict clauses cut text steps count is cut_is answers = tt

-- memory is wanted only for a verified text
pub wanted_verified : (result : Result Trimmed CheckError) (verdict : Verdict) (clauses : ℕ) (cut : CutProof)
    → AnswersBy clauses cut verdict result → result ≡ Err OutOfMemory → verdict ≡ Verified
wanted_verified (Ok trimmed) verdict clauses cut answers e = cc
wanted_verified (Err ReadFault) verdict clauses cut answers e = absurd answers
wanted_verified (Err TooLong) verdict clauses cut answers e = absurd answers
wanted_verified (Err OutOfMemory) verdict clauses cut answers e = answers

-- no verdict is told as a failed read
pub no_fault : (result : Result Trimmed CheckError) (verdict : Verdict) (clauses : ℕ) (cut : CutProof) → AnswersBy clauses cut verdict
    result
    → result ≡ Err ReadFault → ⊥
no_fault (Ok trimmed) verdict clauses cut answers e = cc
no_fault (Err ReadFault) verdict clauses cut answers e = answers
no_fault (Err TooLong) verdict clauses cut answers e = answers
no_fault (Err OutOfMemory) verdict clauses cut answers e = cc
