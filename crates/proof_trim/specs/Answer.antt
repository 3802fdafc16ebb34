-- What the answer of trimming says of the text that was read.
use Rattle.std.specs.Prelude.{◌≡◌, ◌⊎◌, ℕ, ◌+◌, ℤ, Bool, List, [], ◌++◌, length, reverse, Option, None, Some, Result, Ok, Err, ⊤, IsTrue}
use Rattle.cnf_base.specs.declared.step.Step.{Step}
use Rattle.cnf_base.specs.declared.step.Step.TheVariants.{Add, Delete}
use Rattle.host_io.specs.Channel.{Channel}
use Rattle.text_scan.specs.Decides.{Decides}
use Rattle.lrat_rules.specs.State.{State, start}
use Rattle.lrat_text.specs.Steps.{steps}
use Rattle.cnf_base.specs.Limits.{max_bytes}
use Rattle.lrat_checker.specs.declared.uses.Uses.{Uses}
use Rattle.lrat_checker.specs.Memory.{check_may_want_memory}
use Rattle.lrat_checker.specs.TextVerdict.{text_verdict}
use Rattle.lrat_checker.specs.Cuts.{cut_by}
use Rattle.proof_judging.specs.declared.verdict.Verdict.{Verdict}
use Rattle.proof_judging.specs.declared.verdict.Verdict.TheVariants.{Verified, Refused}
use Rattle.proof_judging.specs.declared.verdict.CheckError.{CheckError}
use Rattle.proof_judging.specs.declared.verdict.CheckError.TheVariants.{ReadFault, TooLong, OutOfMemory}
use Rattle.proof_trim.specs.declared.text.Trimmed.{Trimmed}
use Rattle.proof_trim.specs.declared.text.Trimmed.TheVariants.{Steps, Refused as IsRefused}
use Rattle.proof_trim.specs.declared.cutting.CutProof.{CutProof}
use Rattle.lrat_rules.specs.Derivation.{text_of}
use Rattle.proof_trim.specs.Core.{core_of, core_text}
use Rattle.proof_trim.specs.Packed.{packed_if}
use Rattle.proof_trim.specs.Sweep.{pile_of}
use Rattle.proof_trim.specs.Trimmed.{additions, additions_of_text, cut_addition, cut_step, cut_steps, one_if_addition, trimmed_of}

-- The answer, where the text has this verdict, and these steps as its trimmed form, whose core these numbers are, and so many additions.
-- A failed read and want of memory say nothing of it.
abbrev pub Trims : Result Trimmed CheckError → Option Verdict → List Step → List ℕ → ℕ → Type 0
Trims (Ok (Steps steps core kept total)) verdict trimmed numbers count =
    (verdict ≡ Some Verified) × (steps ≡ text_of trimmed) × (core ≡ core_text numbers) × (kept ≡ additions trimmed) × (total ≡ count)
Trims (Ok (IsRefused line reason)) verdict trimmed numbers count = verdict ≡ Some (Refused line reason)
Trims (Err TooLong) verdict trimmed numbers count = verdict ≡ None
Trims (Err ReadFault) verdict trimmed numbers count = ⊤
Trims (Err OutOfMemory) verdict trimmed numbers count = ⊤

-- What memory was wanted for, by the bytes that were taken: before the first one; to judge the text, where `check` may want it; or, behind
-- the verdict on a text that is verified, to keep what its refutation needs.
abbrev pub WantsMemory : List (List ℤ) → Channel → Channel → Type 0
WantsMemory clauses old new = (new ≡ old)
    ⊎ (Decides old new (λ bytes more. IsTrue (check_may_want_memory clauses (length more) bytes))
    ⊎ Decides old new (λ bytes more. text_verdict clauses bytes ≡ Some Verified))

-- what was cut so far, with one good step more; behind the end it is only counted
abbrev pub with_step : Bool → State → Step → CutProof → CutProof
with_step ended state step cut = record {
  steps = packed_if ended (cut_step state step) ++ cut.steps;
  total = cut.total + one_if_addition step;
}

-- what is cut of a text that is verified
abbrev pub cut_of_text : List (List ℤ) → List ℕ → CutProof
cut_of_text clauses bytes = record {
  steps = pile_of (reverse (cut_steps (start clauses) (steps max_bytes bytes)));
  total = additions_of_text bytes;
}

-- the addition with as many of its hints and groups as these numbers say
abbrev pub cut_addition_by : Uses → Step → Step
cut_addition_by uses (Add id clause hints groups) = cut_addition id clause (cut_by uses hints groups)
cut_addition_by uses (Delete id ids) = Delete id []

-- the text of the trimmed form of the steps that were cut, that of its core, and how many additions it has
abbrev pub IsOfSteps : ℕ → CutProof → List ℕ → List ℕ → ℕ → Type 0
IsOfSteps count cut text core kept = (steps : List Step) → cut.steps ≡ pile_of (reverse steps)
    → (text ≡ text_of (trimmed_of count steps)) × (core ≡ core_text (core_of count (trimmed_of count steps)))
    × (kept ≡ additions (trimmed_of count steps))

-- The answer for a proof that was read to its end, by the verdict on it and what was cut of it. Memory is wanted only for a verified one.
abbrev pub AnswersBy : ℕ → CutProof → Verdict → Result Trimmed CheckError → Type 0
AnswersBy count cut verdict (Ok (Steps steps core kept total)) =
    (verdict ≡ Verified) × IsOfSteps count cut steps core kept × (total ≡ cut.total)
AnswersBy count cut verdict (Ok (IsRefused line reason)) = verdict ≡ Refused line reason
AnswersBy count cut verdict (Err OutOfMemory) = verdict ≡ Verified
AnswersBy count cut verdict (Err ReadFault) = ⊥
AnswersBy count cut verdict (Err TooLong) = ⊥
