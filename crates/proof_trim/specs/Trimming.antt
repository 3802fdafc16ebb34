-- How trimming goes over the steps of a proof: by the rules of LRAT, and each good step is kept, cut to what it needs.
use Rattle.std.specs.Prelude.{◌≡◌, Bool, true, Option, None, Some, Result, Ok, Err, ⊤}
use Rattle.cnf_base.specs.declared.step.Step.{Step}
use Rattle.host_io.specs.Beside.{Beside}
use Rattle.lrat_rules.specs.declared.outcome.Reason.{Reason}
use Rattle.lrat_rules.specs.State.{State}
use Rattle.proof_judging.specs.declared.verdict.CheckError.{CheckError}
use Rattle.proof_judging.specs.Rules.{Rules}
use Rattle.lrat_checker.specs.TextVerdict.{lrat_format}
use Rattle.proof_trim.specs.declared.cutting.CutProof.{CutProof}
use Rattle.proof_trim.specs.Answer.{with_step}

-- what was cut so far, and what is beside the source
pub record Work : Type 0 where
  pub cut : CutProof
  pub beside : Beside

-- a good step is cut; another one, or want of memory, leaves something that is of no use
abbrev pub Cuts : State → CutProof → CutProof → Bool → Step → Result (Option Reason) CheckError → Type 0
Cuts state old new ended step (Ok None) = new ≡ with_step ended state step old
Cuts state old new ended step (Ok (Some reason)) = ⊤
Cuts state old new ended step (Err error) = ⊤

-- memory may be wanted at each step, to keep it
abbrev pub trimming_rules : {Judge Source : Type 0} → (Judge → State) → (Judge → CutProof) → (Source → Beside)
    → Rules Judge Source Step CheckError
trimming_rules state cut beside = record {
  Place = State;
  place = state;
  format = lrat_format;
  may_want = λ place step. true;
  Work = Work;
  work = λ judge source. record { cut = cut judge; beside = beside source };
  reads = λ old new. new ≡ old;
  does = λ place old new ended step result. (new.beside ≡ old.beside) × Cuts place old.cut new.cut ended step result;
  told = λ error. error;
}
