-- What is promised of a run that has all that it decides by.
use Rattle.std.proofs.Common.{◌≡◌, ℕ, false, List, [], refl, sym, ap, ◌∙◌, subst, Some, Err, IsTrue, inl, inr}
use Rattle.std.specs.Prelude.{Bool, Option, None, Result, ◌⊎◌, ◌≢◌}
use Rattle.cnf_base.specs.Formula.{Formula}
use Rattle.host_io.specs.declared.role.Role.TheVariants.{Cnf, Order, Buckets, Schedule, ProofOut, Made, Out}
use Rattle.lrat_rules.specs.State.{State}
use Rattle.schedule_plan.specs.declared.limits.Limits.{Limits}
use Rattle.schedule_plan.specs.declared.plan.Move.{Move}
use Rattle.term_runner.specs.declared.outcome.Outcome.{Outcome}
use Rattle.term_runner.specs.declared.outcome.Outcome.TheVariants as outcome
use Rattle.term_runner.specs.declared.outcome.Run.{Run as Ending}
use Rattle.bdd_terms.specs.declared.error.RunError.{RunError}
use Rattle.bdd_terms.specs.declared.error.RunError.TheVariants.{WriteFault as Torn}
use Rattle.solver_cli.specs.Sums.{IsPaidAs}
use Rattle.term_runner.specs.Proofs.{IsProof, IsProofSoFarOfKind, KeepsWithin}
use Rattle.command_line.specs.Command.{Command, ToSolve, ToBench, Solve, Bench, command, limits_asked, limits_of}
use Rattle.command_line.specs.Command.{adds_equations, parity_asked}
use Rattle.solver_cli.specs.declared.status.Status.{Status}
use Rattle.solver_cli.specs.declared.status.Status.TheVariants.{Answered, Done, Help, ReadFault, WriteFault, OutOfMemory}
use Rattle.solver_cli.specs.Answer.{AreGiven, AreOfBoard, shape_asked, status_of}
use Rattle.solver_cli.specs.ErrorText.{is_answer}
use Rattle.solver_cli.specs.ExitCode.{status_of_run}
use Rattle.solver_cli.specs.Phases.{WritesProof}
use Rattle.solver_cli.specs.Stages.{Job, streams_of, Prepared, Uncreated, Undecided, bench_job, solve_job}
use Rattle.solver_cli.specs.Headline.{IsComplete, MemoryIsWanted, RefusalsAreDue, ProofStands, WrittenStands}
use Rattle.solver_cli.specs.Run.{Run, written_in, limits_given, decides, OutputFailed, IsUnharmed, GivesDecision, AsksBy, AsksFor}
use Rattle.solver_cli.specs.Run.{IsPlanAsked, name_given}
use Rattle.solver_cli.specs.Faults.{NamedOutputFailed}
use Rattle.solver_cli.proofs.Facts.{whole_of, no_answer, write_ends, same_command, not_unasked, only_misuse, only_help, decided_apart}
use Rattle.solver_cli.proofs.Facts.{decided_unjudged, judged_apart}
use Rattle.solver_cli.proofs.Reading.{rose_since}
use Rattle.solver_cli.proofs.CallsFor.{no_call}
use Rattle.solver_cli.proofs.Promised.{Core, due, quiet_output, no_proof, no_text, no_verdict, same_written}
use Rattle.solver_cli.proofs.Untaken.{formula_read, ordered, planned}

-- What a run decides: by which command, what is given, and what is done with it.
pub record Posed (run : Run) (problem : Formula) (order : List ℕ) (moves : List Move) (job : Job) : Type 0 where
  pub asked : Command
  pub gives : command run.words ≡ Some asked
  pub decides : IsTrue (decides asked)
  pub given : IsTrue run.tells → AreGiven run.texts asked problem order moves
  pub board : IsPlanAsked run problem order moves
  pub limits : job.limits ≡ limits_of asked
  pub parity : job.parity ≡ adds_equations asked
  pub proof : name_given ProofOut asked ≡ Some job.proof
  pub shape : job.shape ≡ shape_asked (Some asked) problem
  pub made : run.after Made ≡ run.before Made

abbrev pub asks_by : (run : Run) {problem : Formula} {order : List ℕ} {moves : List Move} {job : Job} → Posed run problem order moves job
    → IsTrue run.tells → AsksBy run problem order moves
asks_by run posed t = record { asked = posed.asked; command = posed.gives; given = posed.given t }

abbrev pub asks_for : (run : Run) {problem : Formula} {order : List ℕ} {moves : List Move} {job : Job} → Posed run problem order moves job
    → IsTrue run.tells → AsksFor run problem
asks_for run {order = order} {moves = moves} posed t = record { order = order; moves = moves; by = asks_by run posed t }

pub decision : (run : Run) {problem : Formula} {order : List ℕ} {moves : List Move} {job : Job} → Posed run problem order moves job
    → GivesDecision run
decision run posed = (posed.asked, posed.gives, posed.decides)

pub same_limits : (run : Run) {problem : Formula} {order : List ℕ} {moves : List Move} {job : Job} → Posed run problem order moves job
    → job.limits ≡ limits_given run
same_limits run posed = posed.limits ∙ sym (ap limits_asked posed.gives)

pub same_parity : (run : Run) {problem : Formula} {order : List ℕ} {moves : List Move} {job : Job} → Posed run problem order moves job
    → job.parity ≡ parity_asked (command run.words)
same_parity run posed = posed.parity ∙ sym (ap parity_asked posed.gives)

-- `solve` is prepared, and `bench` has its board
pub posed_by_files : (run : Run) (task : ToSolve) {problem : Formula} {order : List ℕ} {moves : List Move} → command run.words
    ≡ Some (Solve task)
    → Prepared run.tells (streams_of run.before) (streams_of run.after) run.files task problem order moves
    → Posed run problem order moves (solve_job task)
posed_by_files run task {problem = problem} gives prepared = record {
  asked = Solve task;
  gives = gives;
  decides = refl;
  given = λ t. record {
    read = formula_read task.mode run.texts prepared.takes (run.fits Cnf tt task.file) t;
    given = prepared.given;
    ordered = ordered run.texts problem task.order prepared.orders (run.fits Order tt) t;
    planned = planned run.texts task.plan prepared.bucketed prepared.plans (run.fits Buckets tt) (run.fits Schedule tt) t;
  };
  board = λ other here. absurd (apart (same_command gives here));
  limits = refl;
  parity = refl;
  proof = refl;
  shape = refl;
  made = prepared.made;
} where
  apart : {other : ToBench} → Solve task ≡ Bench other → ⊥
  apart e = cc

pub posed_by_board : (run : Run) (task : ToBench) {problem : Formula} {order : List ℕ} {moves : List Move} → command run.words
    ≡ Some (Bench task)
    → AreOfBoard task.size problem order moves → run.after Made ≡ run.before Made → Posed run problem order moves (bench_job task problem)
posed_by_board run task {problem = problem} {order = order} {moves = moves} gives board made = record {
  asked = Bench task;
  gives = gives;
  decides = refl;
  given = λ t. board;
  board = λ other here. subst (λ (b : ToBench). AreOfBoard b.size problem order moves) (inner (same_command gives here)) board;
  limits = refl;
  parity = refl;
  proof = refl;
  shape = refl;
  made = made;
} where
  inner : {a b : ToBench} → Bench a ≡ Bench b → a ≡ b
  inner e = cc

-- a formula that was to be decided by what is asked for: no refusal is called for, and no verdict
pub solve_complete : (run : Run) {problem : Formula} {order : List ℕ} {moves : List Move} {job : Job} → Posed run problem order moves job
    → (IsUnharmed run → IsTrue (is_answer run.status) ⊎ (run.status ≡ OutOfMemory)) → IsComplete run
solve_complete run {problem = problem} posed answers = record {
  misused = λ only. absurd (only_misuse run.words posed.gives only);
  helped = λ only _. absurd (only_help run.words posed.gives only);
  unasked = λ none _. absurd (not_unasked posed.gives none);
  answers = λ other asks t unharmed. answers unharmed;
  replies = λ other order cubes asks. absurd (decided_apart posed.gives posed.decides asks.asks.command refl);
  judges = λ other bytes judged has. absurd (judged_apart has.asked.asks.command has.asked.named posed.gives
      (decided_unjudged posed.asked posed.decides));
  makes = λ given. absurd (decided_apart posed.gives posed.decides given.1 refl);
  arranges = λ task other asks. absurd (decided_apart posed.gives posed.decides asks.command refl);
  refuses = λ status calls t unfailed. absurd (no_call run problem (asks_for run posed t) status calls);
}

-- what was written is the proof's steps
pub steps_stand : (run : Run) {problem : Formula} {order : List ℕ} {moves : List Move} {job : Job} → Posed run problem order moves job
    → ProofStands run → WrittenStands run
steps_stand run posed stands = record {
  converted = λ given. absurd (decided_apart posed.gives posed.decides given.1 refl);
  trimmed = λ given. absurd (decided_apart posed.gives posed.decides given.1 refl);
  asked = λ given. absurd (decided_apart posed.gives posed.decides given.1 refl);
  proved = λ _ _ _. stands;
}

-- statuses that no accepted text leads to
pub record Accepts (status : Status) : Type 0 where
  pub help : status ≡ Help → ⊥
  pub read : status ≡ ReadFault → ⊥
  pub done : status ≡ Done → ⊥
  pub answered : status ≡ Answered → ⊥

pub accepts_write : (status : Status) → status ≡ WriteFault → Accepts status
accepts_write status is = record { help = λ e. cc; read = λ e. cc; done = λ e. cc; answered = λ e. cc }

pub accepts_memory : (status : Status) → status ≡ OutOfMemory → Accepts status
accepts_memory status is = record { help = λ e. cc; read = λ e. cc; done = λ e. cc; answered = λ e. cc }

pub accepts_answer : (status : Status) (found : Outcome) → status ≡ status_of found → Accepts status
accepts_answer status (outcome.Sat values) is = record { help = λ e. cc; read = λ e. cc; done = λ e. cc; answered = λ e. cc }
accepts_answer status outcome.Unsat is = record { help = λ e. cc; read = λ e. cc; done = λ e. cc; answered = λ e. cc }
accepts_answer status outcome.NodeLimit is = record { help = λ e. cc; read = λ e. cc; done = λ e. cc; answered = λ e. cc }
accepts_answer status outcome.IdLimit is = record { help = λ e. cc; read = λ e. cc; done = λ e. cc; answered = λ e. cc }

-- no refusal is due of an answer
pub answer_due : (run : Run) (found : Outcome) → run.status ≡ status_of found → RefusalsAreDue run
answer_due run (outcome.Sat values) ends = due run ends tt
answer_due run outcome.Unsat ends = due run ends tt
answer_due run outcome.NodeLimit ends = due run ends tt
answer_due run outcome.IdLimit ends = due run ends tt

-- the proof's file was not created
pub uncreated : (run : Run) {problem : Formula} {order : List ℕ} {moves : List Move} {job : Job} → Posed run problem order moves job
    → Uncreated (run.before ProofOut) (run.after ProofOut) (run.before Out) (run.after Out) job run.status → Core run
uncreated run {problem = problem} {job = job} posed u =
    let unanswered : is_answer run.status ≡ false = ap is_answer u.ends in
    let failed : OutputFailed run = (ProofOut, inl tt, u.opens.faults.cause u.failed) in
    let accepts : Accepts run.status = accepts_write run.status u.ends in
    record {
      unsatisfiable = λ e. absurd (no_answer unanswered refl e);
      satisfiable = λ e. absurd (no_answer unanswered refl e);
      undecided = λ why e. absurd (no_answer unanswered refl e);
      answered = λ e. absurd (no_answer unanswered refl e);
      verdict = no_verdict run unanswered;
      made = λ e. absurd (accepts.done e);
      made_file = no_text run posed.made;
      refusals = due run u.ends tt;
      faults = λ quiet. record {
        read = λ e. absurd (accepts.read e);
        named = λ e. absurd (accepts.read e);
        undecided = λ e. absurd (accepts.read e);
        quiet = quiet;
        write = λ e. failed;
        created = λ e. inr (ProofOut, tt, u.opens.faults.cause u.failed, posed.asked, job.proof, posed.gives, posed.proof);
        accepted = λ e. inr ((posed.asked, posed.gives), λ t. inl (problem, asks_for run posed t));
      };
      output = quiet_output run unanswered accepts.help (same_written u.same);
      proof = no_proof run (whole_of (run.before ProofOut) (run.after ProofOut) u.opens.was_idle.written ∙ u.opens.idle.written);
      complete = solve_complete run posed (λ unharmed. absurd (unharmed.1 failed));
    }

-- the proof so far, told of the bytes that the run wrote
pub so_far_of_kind : (run : Run) (problem : Formula) (kind : State → Type 0) → (run.before ProofOut).written ≡ []
    → IsProofSoFarOfKind problem.clauses kind (run.after ProofOut).written
    → IsProofSoFarOfKind problem.clauses kind (written_in run ProofOut)
so_far_of_kind run problem kind idle p = subst (λ (bytes : List ℕ). IsProofSoFarOfKind problem.clauses kind bytes)
    (sym (whole_of (run.before ProofOut) (run.after ProofOut) idle)) p

pub proof_whole : (run : Run) (problem : Formula) → (run.before ProofOut).written ≡ []
    → IsProof problem (limits_given run) (run.after ProofOut).written → IsProof problem (limits_given run) (written_in run ProofOut)
proof_whole run problem idle p = subst (λ (bytes : List ℕ). IsProof problem (limits_given run) bytes)
    (sym (whole_of (run.before ProofOut) (run.after ProofOut) idle)) p

-- the formula was not decided
pub undecided : (run : Run) {problem : Formula} {order : List ℕ} {moves : List Move} {job : Job} → Posed run problem order moves job
    → Undecided run.tells (run.before ProofOut) (run.after ProofOut) (run.before Out) (run.after Out) problem order moves job run.status
    → Core run
undecided run {problem = problem} {order = order} {moves = moves} {job = job} posed u = both (write_ends run.status u.error u.ends) where
  writes : WritesProof (parity_asked (command run.words)) run.tells u.created (run.after ProofOut) problem order moves (limits_given run)
      (Err u.error)
  writes = subst (λ (p : Bool). WritesProof p run.tells u.created (run.after ProofOut) problem order moves (limits_given run) (Err u.error))
      (same_parity run posed)
      (subst (λ (l : Limits). WritesProof job.parity run.tells u.created (run.after ProofOut) problem order moves l (Err u.error))
      (same_limits run posed) u.writes)

  failed : ◌≡◌ {A = Result Ending RunError} (Err u.error) (Err Torn) → OutputFailed run
  failed e = (ProofOut, inl tt, rose_since u.opens.faults.no_less (u.writes.fault e))

  named : ◌≡◌ {A = Result Ending RunError} (Err u.error) (Err Torn) → NamedOutputFailed run
  named e = inr (
    ProofOut,
    tt,
    rose_since u.opens.faults.no_less (u.writes.fault e),
    posed.asked,
    job.proof,
    posed.gives,
    posed.proof,
  )

  torn : ◌≡◌ {A = Result Ending RunError} (Err u.error) (Err Torn) → run.status ≡ WriteFault
  torn e = u.ends ∙ ends_torn u.error e where
    ends_torn : (error : RunError) → ◌≡◌ {A = Result Ending RunError} (Err error) (Err Torn) → status_of_run error ≡ WriteFault
    ends_torn error e = ap status_of_run (inner error e) where
      inner : (error : RunError) → ◌≡◌ {A = Result Ending RunError} (Err error) (Err Torn) → error ≡ Torn
      inner error e = cc

  stands : ProofStands run
  stands = record {
    so_far = λ t. inr (
      problem,
      asks_for run posed t,
      so_far_of_kind run problem
          (KeepsWithin problem (limits_given run)) u.opens.was_idle.written (writes.so_far t),
    );
    whole = λ unfaulted t. inr (
      problem,
      asks_for run posed t,
      proof_whole run problem u.opens.was_idle.written
          (writes.whole (λ e. unfaulted (torn e)) t),
    );
    price = λ t. inr (
      problem,
      asks_for run posed t,
      λ width price has paid. so_far_of_kind run problem
          (IsPaidAs (parity_asked (command run.words)) problem (limits_given run) moves width price) u.opens.was_idle.written (writes.price width price has paid t),
    );
  }

  core : is_answer run.status ≡ false → Accepts run.status → RefusalsAreDue run → (run.status ≡ WriteFault → OutputFailed run)
      → (run.status ≡ WriteFault → NamedOutputFailed run) → (IsUnharmed run → run.status ≡ OutOfMemory) → Core run
  core unanswered accepts is_due fault created memory = record {
    unsatisfiable = λ e. absurd (no_answer unanswered refl e);
    satisfiable = λ e. absurd (no_answer unanswered refl e);
    undecided = λ why e. absurd (no_answer unanswered refl e);
    answered = λ e. absurd (no_answer unanswered refl e);
    verdict = no_verdict run unanswered;
    made = λ e. absurd (accepts.done e);
    made_file = no_text run posed.made;
    refusals = is_due;
    faults = λ quiet. record {
      read = λ e. absurd (accepts.read e);
      named = λ e. absurd (accepts.read e);
      undecided = λ e. absurd (accepts.read e);
      quiet = quiet;
      write = fault;
      created = created;
      accepted = λ e. inr ((posed.asked, posed.gives), λ t. inl (problem, asks_for run posed t));
    };
    output = quiet_output run unanswered accepts.help (same_written u.same);
    proof = steps_stand run posed stands;
    complete = solve_complete run posed (λ unharmed. inr (memory unharmed));
  }

  apart : {status : Status} → status ≡ OutOfMemory → status ≡ WriteFault → ⊥
  apart d e = cc

  created : (run.after ProofOut).name ≢ None
  created none = no_name (sym (u.opens.named u.done) ∙ sym u.writes.only.name ∙ none) where
    no_name : {file : List ℕ} → ◌≡◌ {A = Option (List ℕ)} (Some file) None → ⊥
    no_name e = cc

  wanted : MemoryIsWanted run
  wanted = inr (inr (inr (inr (inr (inl (record {
    given = decision run posed;
    problem = problem;
    board = λ task here. (posed.board task here).its_formula;
    asks = asks_for run posed;
    created = created;
    before_answer = u.same;
  }))))))

  both : ((run.status ≡ WriteFault) × ◌≡◌ {A = Result Ending RunError} (Err u.error) (Err Torn)) ⊎ (run.status ≡ OutOfMemory) → Core run
  both (inl fault) = core (ap is_answer fault.0) (accepts_write run.status fault.0) (due run fault.0 tt) (λ _. failed fault.1)
      (λ _. named fault.1)
      (λ unharmed. absurd (unharmed.1 (failed fault.1)))
  both (inr memory) = core (ap is_answer memory) (accepts_memory run.status memory) (due run memory wanted) (λ e. absurd (apart memory e))
      (λ e. absurd (apart memory e))
      (λ unharmed. memory)
