-- How a conversion goes over the steps of a proof: by the rules of LRAT, and each good step is written as what it becomes.
use Rattle.std.specs.Prelude.{◌≡◌, Bool, None}
use Rattle.cnf_base.specs.declared.step.Step.{Step}
use Rattle.host_io.specs.declared.role.Role.{Role}
use Rattle.host_io.specs.declared.role.Role.TheVariants.{ProofIn, ProofOut}
use Rattle.host_io.specs.Channel.{Channel}
use Rattle.host_io.specs.Files.{Files, Kept}
use Rattle.lrat_rules.specs.State.{State}
use Rattle.lrat_rules.specs.Run.{after_step}
use Rattle.proof_judging.specs.Rules.{Rules}
use Rattle.lrat_checker.specs.Memory.{may_want_memory}
use Rattle.lrat_checker.specs.TextVerdict.{lrat_format}
use Rattle.drat_proof.specs.declared.error.ConvertError.{ConvertError}
use Rattle.drat_proof.specs.Conversion.{Takes, convert_error}
use Rattle.drat_proof.specs.Naming.{NamesAhead}

-- the names that variables have from now on, and what a host has
pub record Work : Type 0 where
  pub names : NamesAhead
  pub channels : Role → Channel
  pub files : Files

abbrev pub converting_rules : {Judge Host : Type 0} → Bool → (Judge → State) → (Judge → NamesAhead) → (Host → Role → Channel)
    → (Host → Files) → Rules Judge Host Step ConvertError
converting_rules tells state names channels files = record {
  Place = State;
  place = state;
  format = lrat_format;
  may_want = may_want_memory;
  Work = Work;
  work = λ judge host. record { names = names judge; channels = channels host; files = files host };
  reads = λ old new. (new.names ≡ old.names) × Kept ProofIn None old.channels new.channels old.files new.files;
  does = λ place old new has step result.
      Kept ProofOut (old.channels ProofOut).name old.channels new.channels old.files new.files
      × Takes tells (old.channels ProofOut) (new.channels ProofOut) place (after_step place step) old.names new.names step result;
  told = convert_error;
}
