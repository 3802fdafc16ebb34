-- What is told of the names of a run's roles, and what holds where a role was left alone.
use Rattle.std.proofs.Common.{◌≡◌, ℕ, ℤ, false, List, refl, sym, ap, ◌∙◌, Some, None, Ok, Err, IsTrue, inl, inr}
use Rattle.std.proofs.Common.{true≢false}
use Rattle.std.specs.Prelude.{Option, Result, ⊤, ◌⊎◌, ◌≢◌}
use Rattle.host_io.specs.Channel.{Channel}
use Rattle.host_io.specs.declared.role.Role.{Role}
use Rattle.host_io.specs.declared.role.Role.TheVariants.{Cnf, Order, Buckets, Schedule, ProofIn, Cubes, ProofOut, Made, Out}
use Rattle.host_io.specs.declared.source.Failed.{Failed}
use Rattle.cnf_base.specs.Formula.{Formula}
use Rattle.command_line.specs.Command.{Command, ToSolve, Solve}
use Rattle.command_line.specs.Command.{formula_file, mode_of}
use Rattle.command_line.specs.Command.{command}
use Rattle.term_runner.specs.declared.outcome.Outcome.{Outcome}
use Rattle.term_runner.specs.declared.outcome.Outcome.TheVariants as outcome
use Rattle.term_runner.specs.declared.outcome.Run.{Run as Ending}
use Rattle.bdd_terms.specs.declared.error.RunError.{RunError}
use Rattle.bdd_terms.specs.declared.error.RunError.TheVariants as run_error
use Rattle.solver_cli.specs.declared.status.Status.{Status}
use Rattle.solver_cli.specs.declared.status.Status.TheVariants.{Done, Verified, WriteFault}
use Rattle.cube_text.specs.CubeText.{cubes as given_cubes}
use Rattle.solver_cli.specs.Answer.{status_of}
use Rattle.solver_cli.specs.ExitCode.{status_of_run}
use Rattle.proof_judging.specs.declared.verdict.Verdict.TheVariants as judgement
use Rattle.schedule_plan.specs.declared.plan.Move.{Move}
use Rattle.schedule_plan.specs.declared.order_error.OrderError.{OrderError}
use Rattle.schedule_plan.specs.declared.schedule.error.PlanError.{PlanError}
use Rattle.solver_cli.specs.declared.basis.Basis.{Basis}
use Rattle.solver_cli.specs.Phases.{HasOrder, HasBuckets, HasPlan, buckets_file}
use Rattle.solver_cli.specs.Stages.{Streams, Helped, Job, NoneRead, Untaken, streams_of, CameToAnswer}
use Rattle.solver_cli.specs.Stages.{status_after}
use Rattle.solver_cli.specs.Headline.{ends_before_proof}
use Rattle.solver_cli.specs.Run.{AsksByCubes, GivesAsk}
use Rattle.solver_cli.specs.Run.{Run, GivesConversion, GivesDecision, GivesTrimming, AsksFor, AsksToConvert, HasVerdict, name_given}
use Rattle.solver_cli.specs.Faults.{ConvertsAsItReads}
use Rattle.solver_cli.proofs.Facts.{decided_apart}
use Rattle.solver_cli.proofs.Served.{order_name, buckets_name, plan_name}
use Rattle.solver_cli.proofs.Accepted.{Posed, asks_for, decision}

-- a role has no name, or the one that the words give it
abbrev pub IsNamed : Run → Role → Type 0
IsNamed run role = ((run.after role).name ≡ None) ⊎ ((asked : Command) × (command run.words ≡ Some asked)
    × ((run.after role).name ≡ name_given role asked))

-- the proof has a name only where the words give a command that writes one and the formula was accepted
abbrev pub IsAccepted : Run → Type 0
IsAccepted run = (run.after ProofOut).name ≢ None → (GivesDecision run × (IsTrue run.tells → (problem : Formula) × AsksFor run problem))
    ⊎ ((GivesConversion run × (IsTrue run.tells → AsksToConvert run))
    ⊎ ((GivesTrimming run × (IsTrue run.tells → (problem : Formula) × (bytes : List ℕ) × HasVerdict run problem bytes judgement.Verified))
    ⊎ (GivesAsk run × (IsTrue run.tells → (problem : Formula) × (order : List ℕ) × (cubes : List (List ℤ))
    × AsksByCubes run problem order (given_cubes cubes)))))

-- and where it is a DRAT proof, only where the proof that it is made of was opened
abbrev pub IsOpened : Run → Type 0
IsOpened run = (run.after ProofOut).name ≢ None → GivesConversion run → (run.after ProofIn).name ≢ None

-- and where it is a trimmed proof, only where the run ends with that verdict or a failed write
abbrev pub IsOfVerified : Run → Type 0
IsOfVerified run = (run.after ProofOut).name ≢ None → GivesTrimming run → (run.status ≡ Verified) ⊎ (run.status ≡ WriteFault)

-- it has none yet, by how the run ended, or a proof is being converted, or was trimmed
abbrev pub IsReadFirst : Run → Type 0
IsReadFirst run = IsTrue (ends_before_proof run.status) → ((run.after ProofOut).name ≡ None) ⊎ (ConvertsAsItReads run
    ⊎ (GivesTrimming run × (run.status ≡ Verified)))

-- the made file has a name only where the text was written, or a call failed, or a core was written
abbrev pub IsFinished : Run → Type 0
IsFinished run = (run.after Made).name ≢ None → (run.status ≡ Done)
    ⊎ ((run.status ≡ WriteFault) ⊎ (GivesTrimming run × (run.status ≡ Verified)))

pub record StreamNames (run : Run) : Type 0 where
  pub cnf : IsNamed run Cnf
  pub order : IsNamed run Order
  pub buckets : IsNamed run Buckets
  pub schedule : IsNamed run Schedule
  pub judged : IsNamed run ProofIn
  pub cubes : IsNamed run Cubes
  pub proof : IsNamed run ProofOut
  pub made : IsNamed run Made
  pub out : IsNamed run Out
  pub read_first : IsReadFirst run
  pub accepted : IsAccepted run
  pub opened : IsOpened run
  pub trimmed : IsOfVerified run
  pub finished : IsFinished run

pub name_of : {old new : Channel} → new ≡ old → old.name ≡ None → new.name ≡ None
name_of same none = ap (λ (c : Channel). c.name) same ∙ none

pub given : (run : Run) (asked : Command) (file : List ℕ) → command run.words ≡ Some asked → formula_file asked ≡ Some file
    → ((run.after Cnf).name ≡ Some file) ⊎ ((run.after Cnf).name ≡ None) → IsNamed run Cnf
given run asked file gives named (inl some) = inr (asked, gives, some ∙ sym named)
given run asked file gives named (inr none) = inl none

pub given_judged : (run : Run) (asked : Command) (file : List ℕ) → command run.words ≡ Some asked → name_given ProofIn asked ≡ Some file
    → ((run.after ProofIn).name ≡ Some file) ⊎ ((run.after ProofIn).name ≡ None) → IsNamed run ProofIn
given_judged run asked file gives named (inl some) = inr (asked, gives, some ∙ sym named)
given_judged run asked file gives named (inr none) = inl none

pub given_proof : (run : Run) (asked : Command) (file : List ℕ) → command run.words ≡ Some asked → name_given ProofOut asked ≡ Some file
    → ((run.after ProofOut).name ≡ Some file) ⊎ ((run.after ProofOut).name ≡ None) → IsNamed run ProofOut
given_proof run asked file gives named (inl some) = inr (asked, gives, some ∙ sym named)
given_proof run asked file gives named (inr none) = inl none

pub unnamed_proof : (run : Run) → (run.after ProofOut).name ≡ None → IsAccepted run
unnamed_proof run none named = absurd (named none)

pub unnamed_opened : (run : Run) → (run.after ProofOut).name ≡ None → IsOpened run
unnamed_opened run none named _ = absurd (named none)

pub unnamed_trimmed : (run : Run) → (run.after ProofOut).name ≡ None → IsOfVerified run
unnamed_trimmed run none named _ = absurd (named none)

unnamed_made : (run : Run) → (run.after Made).name ≡ None → IsFinished run
unnamed_made run none named = absurd (named none)

-- the made file was left alone
pub record IsUnmade (run : Run) : Type 0 where
  pub named : IsNamed run Made
  pub finished : IsFinished run

pub left_made : (run : Run) → run.after Made ≡ run.before Made → (run.before Made).name ≡ None → IsUnmade run
left_made run same none = let now = name_of same none in record { named = inl now; finished = unnamed_made run now }

-- the order's file, that of the buckets, and the schedule's
pub given_order : (run : Run) (asked : Command) → command run.words ≡ Some asked → (run.before Order).name ≡ None
    → {result : Result (List ℕ) OrderError} {vars : ℕ}
    → HasOrder vars (name_given Order asked) run.tells (run.before Order) (run.after Order) run.files result → IsNamed run Order
given_order run asked gives unnamed has = elim (order_name (name_given Order asked) has) [
  | inl same ↦ inl (same ∙ unnamed)
  | inr other ↦ elim other [ inl named ↦ inr (asked, gives, named) | inr none ↦ inl none ]
]

pub given_buckets : (run : Run) (task : ToSolve) → command run.words ≡ Some (Solve task) → (run.before Buckets).name ≡ None
    → {result : Result (Option (List ℕ)) OrderError} {vars : ℕ}
    → HasBuckets vars (buckets_file task.plan) run.tells (run.before Buckets) (run.after Buckets) run.files result → IsNamed run Buckets
given_buckets run task asked unnamed has = elim (buckets_name (buckets_file task.plan) has) [
  | inl same ↦ inl (same ∙ unnamed)
  | inr other ↦ elim other [ inl named ↦ inr (Solve task, asked, named) | inr none ↦ inl none ]
]

pub given_schedule : (run : Run) (task : ToSolve) → command run.words ≡ Some (Solve task) → (run.before Schedule).name ≡ None
    → {result : Result Basis PlanError} {problem : Formula} {given : List ℕ} {buckets : Option (List ℕ)}
    → HasPlan problem given buckets task.plan run.tells (run.before Schedule) (run.after Schedule) run.files result → IsNamed run Schedule
given_schedule run task asked unnamed has = elim (plan_name task.plan has) [
  | inl same ↦ inl (same ∙ unnamed)
  | inr other ↦ elim other [ inl named ↦ inr (Solve task, asked, named) | inr none ↦ inl none ]
]

pub later : (status : Status) → ends_before_proof status ≡ false → {A : Type 0} → IsTrue (ends_before_proof status) → A
later status after before = absurd (true≢false (sym before ∙ after))

found_later : (found : Outcome) → ends_before_proof (status_of found) ≡ false
found_later (outcome.Sat values) = refl
found_later outcome.Unsat = refl
found_later outcome.NodeLimit = refl
found_later outcome.IdLimit = refl

answer_later : (ending : Ending) (printed : Result ⊤ Failed) → ends_before_proof (status_after ending printed) ≡ false
answer_later ending (Ok x) = found_later ending.outcome
answer_later ending (Err e) = refl

pub run_later : (error : RunError) → ends_before_proof (status_of_run error) ≡ false
run_later run_error.OutOfMemory = refl
run_later run_error.WriteFault = refl

-- the names of the two streams that an answer is written to
pub record AnswerNames (run : Run) : Type 0 where
  pub proof : IsNamed run ProofOut
  pub out : IsNamed run Out
  pub read_first : IsReadFirst run

answer_names : (run : Run) {problem : Formula} {order : List ℕ} {moves : List Move} {job : Job} (asked : Command) → command run.words
    ≡ Some asked → name_given ProofOut asked ≡ Some job.proof → (run.before Out).name ≡ None
    → CameToAnswer run.tells (run.before ProofOut) (run.after ProofOut) (run.before Out) (run.after Out) problem order moves job run.status
    → AnswerNames run
answer_names run {job = job} asked gives named unnamed (inl u) = record {
  proof = given_proof run asked job.proof gives named (u.opens.failed u.failed);
  out = inl (name_of u.same unnamed);
  read_first = later run.status (ap ends_before_proof u.ends);
}
answer_names run {job = job} asked gives named unnamed (inr (inl u)) = record {
  proof = given_proof run asked job.proof gives named (inl (u.writes.only.name ∙ u.opens.named u.done));
  out = inl (name_of u.same unnamed);
  read_first = later run.status (ap ends_before_proof u.ends ∙ run_later u.error);
}
answer_names run {job = job} asked gives named unnamed (inr (inr a)) = record {
  proof = given_proof run asked job.proof gives named (inl (a.writes.only.name ∙ a.opens.named a.done));
  out = inl (a.puts.only.name ∙ unnamed);
  read_first = later run.status (ap ends_before_proof a.ends ∙ answer_later a.ending a.printed);
}

accepted_for : (run : Run) {problem : Formula} {order : List ℕ} {moves : List Move} {job : Job} → Posed run problem order moves job
    → IsAccepted run
accepted_for run {problem = problem} posed named = inl (decision run posed, λ t. (problem, asks_for run posed t))

opened_for : (run : Run) {problem : Formula} {order : List ℕ} {moves : List Move} {job : Job} → Posed run problem order moves job
    → IsOpened run
opened_for run posed named given = absurd (decided_apart posed.gives posed.decides given.1 refl)

trimmed_for : (run : Run) {problem : Formula} {order : List ℕ} {moves : List Move} {job : Job} → Posed run problem order moves job
    → IsOfVerified run
trimmed_for run posed named given = absurd (decided_apart posed.gives posed.decides given.1 refl)

-- nothing was created, and nothing printed
pub record NoneCreated (run : Run) : Type 0 where
  pub proof : run.after ProofOut ≡ run.before ProofOut
  pub made : run.after Made ≡ run.before Made
  pub out : run.after Out ≡ run.before Out

-- the names of the files that are read
pub record InputNames (run : Run) : Type 0 where
  pub cnf : IsNamed run Cnf
  pub order : IsNamed run Order
  pub buckets : IsNamed run Buckets
  pub schedule : IsNamed run Schedule
  pub judged : IsNamed run ProofIn
  pub cubes : IsNamed run Cubes

pub quiet_names : (run : Run) → ((role : Role) → (run.before role).name ≡ None) → NoneCreated run → InputNames run → StreamNames run
quiet_names run unnamed none inputs =
    let unmade = left_made run none.made (unnamed Made) in
    let proof = name_of none.proof (unnamed ProofOut) in
    record {
      cnf = inputs.cnf;
      order = inputs.order;
      buckets = inputs.buckets;
      schedule = inputs.schedule;
      judged = inputs.judged;
      cubes = inputs.cubes;
      proof = inl proof;
      made = unmade.named;
      out = inl (name_of none.out (unnamed Out));
      read_first = λ _. inl proof;
      accepted = unnamed_proof run proof;
      opened = unnamed_opened run proof;
      trimmed = unnamed_trimmed run proof;
      finished = unmade.finished;
    }

-- no file is read
pub unread_names : (run : Run) → ((role : Role) → (run.before role).name ≡ None) → NoneRead (streams_of run.before) (streams_of run.after)
    → InputNames run
unread_names run unnamed none = record {
  cnf = inl (name_of none.cnf (unnamed Cnf));
  order = inl (name_of none.order (unnamed Order));
  buckets = inl (name_of none.buckets (unnamed Buckets));
  schedule = inl (name_of none.schedule (unnamed Schedule));
  judged = inl (name_of none.judged (unnamed ProofIn));
  cubes = inl (name_of none.cubes (unnamed Cubes));
}

pub answered_names : (run : Run) {problem : Formula} {order : List ℕ} {moves : List Move} {job : Job}
    → ((role : Role) → (run.before role).name ≡ None) → Posed run problem order moves job → (asked : Command) → command run.words
    ≡ Some asked
    → name_given ProofOut asked ≡ Some job.proof → InputNames run
    → CameToAnswer run.tells (run.before ProofOut) (run.after ProofOut) (run.before Out) (run.after Out) problem order moves job run.status
    → StreamNames run
answered_names run unnamed posed asked gives named inputs came =
    let unmade = left_made run posed.made (unnamed Made) in
    let names = answer_names run asked gives named (unnamed Out) came in
    record {
      cnf = inputs.cnf;
      order = inputs.order;
      buckets = inputs.buckets;
      schedule = inputs.schedule;
      judged = inputs.judged;
      cubes = inputs.cubes;
      proof = names.proof;
      made = unmade.named;
      out = names.out;
      read_first = names.read_first;
      accepted = accepted_for run posed;
      opened = opened_for run posed;
      trimmed = trimmed_for run posed;
      finished = unmade.finished;
    }

pub same_names : (run : Run) → ((role : Role) → (run.before role).name ≡ None) → streams_of run.after ≡ streams_of run.before
    → StreamNames run
same_names run unnamed same = quiet_names run unnamed
    (record {
      proof = ap (λ (s : Streams). s.proof) same;
      made = ap (λ (s : Streams). s.made) same;
      out = ap (λ (s : Streams). s.out) same;
    })
    (unread_names run unnamed (record {
      cnf = ap (λ (s : Streams). s.cnf) same;
      order = ap (λ (s : Streams). s.order) same;
      buckets = ap (λ (s : Streams). s.buckets) same;
      schedule = ap (λ (s : Streams). s.schedule) same;
      judged = ap (λ (s : Streams). s.judged) same;
      cubes = ap (λ (s : Streams). s.cubes) same;
    }))

pub helped_names : (run : Run) → ((role : Role) → (run.before role).name ≡ None)
    → Helped run.tells run.words (streams_of run.before) (streams_of run.after) run.status → StreamNames run
helped_names run unnamed h =
    let unmade = left_made run h.made (unnamed Made) in
    let inputs = unread_names run unnamed (record {
      cnf = h.cnf;
      order = h.order;
      buckets = h.buckets;
      schedule = h.schedule;
      judged = h.judged;
      cubes = h.cubes;
    }) in
    record {
      cnf = inputs.cnf;
      order = inputs.order;
      buckets = inputs.buckets;
      schedule = inputs.schedule;
      judged = inputs.judged;
      cubes = inputs.cubes;
      proof = inl (name_of h.proof (unnamed ProofOut));
      made = unmade.named;
      out = inl (h.shows.puts.only.name ∙ unnamed Out);
      read_first = λ _. inl (name_of h.proof (unnamed ProofOut));
      accepted = unnamed_proof run (name_of h.proof (unnamed ProofOut));
      opened = unnamed_opened run (name_of h.proof (unnamed ProofOut));
      trimmed = unnamed_trimmed run (name_of h.proof (unnamed ProofOut));
      finished = unmade.finished;
    }

pub untaken_names : (run : Run) (asked : Command) (file : List ℕ) → ((role : Role) → (run.before role).name ≡ None) → command run.words
    ≡ Some asked → formula_file asked ≡ Some file
    → Untaken (mode_of asked) run.tells (streams_of run.before) (streams_of run.after) run.files file run.status → StreamNames run
untaken_names run asked file unnamed gives named u = quiet_names run unnamed (record { proof = u.proof; made = u.made; out = u.out })
    (record {
      cnf = given run asked file gives named u.takes.name;
      order = inl (name_of u.order (unnamed Order));
      buckets = inl (name_of u.buckets (unnamed Buckets));
      schedule = inl (name_of u.schedule (unnamed Schedule));
      judged = inl (name_of u.judged (unnamed ProofIn));
      cubes = inl (name_of u.cubes (unnamed Cubes));
    })
