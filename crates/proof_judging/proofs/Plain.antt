-- A check, in which nothing is written.
use Rattle.std.proofs.Common.{◌≡◌, Bool, Ok, Err, refl, ◌∙◌}
use Rattle.std.specs.Prelude.{Result, Option}
use Rattle.host_io.specs.Beside.{Beside}
use Rattle.host_io.specs.Channel.{Channel}
use Rattle.lrat_text.specs.Form.{Form}
use Rattle.lrat_text.specs.LineReader.{ReaderOf}
use Rattle.proof_judging.specs.declared.verdict.Verdict.{Verdict}
use Rattle.proof_judging.specs.declared.verdict.CheckError.{CheckError}
use Rattle.proof_judging.specs.declared.verdict.CheckError.TheVariants.{ReadFault, TooLong, OutOfMemory}
use Rattle.proof_judging.specs.Verdict.{Answers, Format}
use Rattle.proof_judging.specs.Rules.{checking_rules}
use Rattle.proof_judging.specs.Checks.{AnswersBy}
use Rattle.proof_judging.specs.Run.{Runs}
use Rattle.proof_judging.proofs.Covered.{runs_covered}

-- each answer is told as it is
pub answers_itself : (result : Result Verdict CheckError) (text : Option Verdict) → AnswersBy (λ error. error) result text
    → Answers result text
answers_itself (Ok verdict) text answers = answers
answers_itself (Err TooLong) text answers = answers refl
answers_itself (Err ReadFault) text answers = tt
answers_itself (Err OutOfMemory) text answers = tt

-- no step changes what is beside the source
pub runs_beside : {Judge Source Place Step Draft : Type 0} (format : Format Place Step) (may_want : Place → Step → Bool)
    (place_of : Judge → Place) (beside_of : Source → Beside) (form : Form Draft Step) (tells : Bool) (in_old in_new : Channel)
    (place : Place)
    (old new : Beside) (reader : ReaderOf Draft) (result : Result Verdict CheckError)
    → Runs form tells (checking_rules format may_want place_of beside_of) in_old in_new place old new reader result → new ≡ old
runs_beside format may_want place_of beside_of form tells in_old in_new place old new reader result runs =
    runs_covered (checking_rules format may_want place_of beside_of) (λ before after. after ≡ before) (λ work. refl)
    (λ before now after first second. second ∙ first) (λ before after e. e) (λ at before after has step answer e. e)
    form tells in_old in_new place old new reader result runs
