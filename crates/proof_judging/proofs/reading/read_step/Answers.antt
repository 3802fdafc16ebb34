-- The source is of the role, and what is beside it is the rest of the host.
use Rattle.std.proofs.Common.{◌≡◌, ℕ, Option, Some, None, Ok, Err, rules, ap}
use Rattle.std.specs.Prelude.{Result}
use Rattle.host_io.proofs.Written.{carried}
use Rattle.lrat_text.specs.declared.error.StepError.{StepError}
use Rattle.lrat_text.specs.LineReader.{given, is_reading}
use Rattle.proof_judging.specs.Rules.{ReadsStep}
use Rattle.proof_judging.proofs.reading.read_step.Goals as goal

-- an error of a call that puts the step into a place is that of the call
given_error : {Step : Type 0} (step : Step) (result : Result (Option ℕ) StepError) (error : StepError) → given step result ≡ Err error
    → result ≡ Err error
given_error step (Ok (Some at)) error e = cc
given_error step (Ok None) error e = cc
given_error step (Err other) error e =
    let same : other ≡ error = cc in
    ap Err same

pub returns-clause-reads : goal.returns-clause-reads
returns-clause-reads g c =
    let made = c.new-source.ensures in
    let told = c.next_into.ensures in
    let reading = ap is_reading c.requires.reading in
    carried (λ old new. ReadsStep g.F.LineForm.form g.H.Host.tells old new c.args.reader.now c.next_into.new.self
    (given c.next_into.new.step c.next_into.result)) _ _ _ _
    (record {
      gives = told.gives;
      so_far = λ t. told.so_far t reading;
      moves = told.moves;
      spends = λ t. told.spends t reading;
      fault = λ e. told.fault (given_error _ _ _ e) reading;
      unfailed = λ n. told.unfailed (λ e. n (ap (given c.next_into.new.step) e));
      reads = told.reads;
    }) (cc)
    (c.beside_kept.ensures.source made.same_reference made.same_value made.role c.next_into.ensures.beside (search rules)).same

pub returns-clause-kept : goal.returns-clause-kept
returns-clause-kept g c =
    let made = c.new-source.ensures in
    (c.beside_kept.ensures.source made.same_reference made.same_value made.role c.next_into.ensures.beside (search rules)).kept
