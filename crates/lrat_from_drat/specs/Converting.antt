-- How a conversion to LRAT goes over the steps of a proof: by the rules of DRAT, and each good step is written as what it becomes.
use Rattle.std.specs.Prelude.{◌≡◌, ◌≢◌, Bool, true, None, IsTrue}
use Rattle.host_io.specs.declared.role.Role.{Role}
use Rattle.host_io.specs.declared.role.Role.TheVariants.{ProofIn, ProofOut}
use Rattle.host_io.specs.Channel.{Channel}
use Rattle.host_io.specs.Files.{Files, Kept}
use Rattle.lrat_rules.specs.State.{State}
use Rattle.proof_judging.specs.Rules.{Rules}
use Rattle.drat_text.specs.declared.step.DratStep.{DratStep}
use Rattle.drat_rules.specs.Clauses.{Equality}
use Rattle.drat_checker.specs.DratVerdict.{DratPlace, drat_format}
use Rattle.drat_checker.specs.Places.{Places, standing}
use Rattle.drat_proof.specs.declared.error.ConvertError.{ConvertError}
use Rattle.drat_proof.specs.Conversion.{convert_error}
use Rattle.drat_proof.specs.TwoRoles.{OnlyWrites}
use Rattle.lrat_from_drat.specs.Following.{Follows}
use Rattle.lrat_from_drat.specs.Writing.{Takes}

-- What holds before each step: both roles have their names, hints are wanted, and the clauses that stand are those of some LRAT proof.
pub record IsReady (source sink : Channel) (is_wanted : Bool) (places : Places) : Type 0 where
  pub opened : source.name ≢ None
  pub created : sink.name ≢ None
  pub wanted : IsTrue is_wanted
  pub followed : (state : State) × Follows state places

-- the clauses by their numbers, and what a host has
pub record Work : Type 0 where
  pub places : Places
  pub channels : Role → Channel
  pub files : Files

-- memory may be wanted at each step: for its line as well
abbrev pub converting_rules : {Judge Host : Type 0} → Bool → (Judge → Equality) → (Judge → Places) → (Host → Role → Channel)
    → (Host → Files) → Rules Judge Host DratStep ConvertError
converting_rules tells same places channels files = record {
  Place = DratPlace;
  place = λ judge. (same judge, standing (places judge));
  format = drat_format;
  may_want = λ place step. true;
  Work = Work;
  work = λ judge host. record { places = places judge; channels = channels host; files = files host };
  reads = λ old new. (new.places ≡ old.places) × Kept ProofIn None old.channels new.channels old.files new.files;
  does = λ place old new has step result.
      Kept ProofOut (old.channels ProofOut).name old.channels new.channels old.files new.files
      × OnlyWrites (old.channels ProofOut) (new.channels ProofOut)
      × Takes tells (old.channels ProofOut) (new.channels ProofOut) place.0 old.places new.places step result;
  told = convert_error;
}
