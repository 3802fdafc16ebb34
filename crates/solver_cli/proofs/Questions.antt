-- What is promised of a run that asks about cubes: their text ended it, or they were answered or not.
use Rattle.std.proofs.Common.{◌≡◌, ℕ, ℤ, true, false, List, [], ◌++◌, append-nil, refl, sym, ap, ◌∙◌, subst, Some, Ok, Err, IsTrue}
use Rattle.std.proofs.Common.{inl, inr, true≢false}
use Rattle.std.specs.Prelude.{Option, None, Result, ⊤, ◌⊎◌, ◌≢◌}
use Rattle.cnf_base.specs.Formula.{Formula}
use Rattle.cube_text.specs.CubeText.{CubeText, cube_text, cubes as given_cubes}
use Rattle.cube_text.specs.declared.error.CubeError.{CubeError}
use Rattle.cube_text.specs.declared.error.CubeError.TheVariants as cube_error
use Rattle.cube_queries.specs.declared.answer.Answer.{Answer}
use Rattle.cube_queries.specs.declared.answer.Outcome.{Outcome as Replies}
use Rattle.cube_queries.specs.declared.answer.Outcome.TheVariants as replies
use Rattle.cube_queries.specs.Ends.{Ends as WritesReplies, IsAnswered as AreAnswers, Says, Shows}
use Rattle.cube_queries.specs.Width.{IsPaid}
use Rattle.dimacs_reader.specs.Cnf.{formula}
use Rattle.host_io.specs.declared.role.Role.TheVariants.{Order, Cubes, ProofOut, Made, Out}
use Rattle.host_io.specs.declared.source.Failed.{Failed}
use Rattle.lrat_rules.specs.State.{State}
use Rattle.lrat_rules.specs.declared.outcome.Reason.{Reason}
use Rattle.schedule_plan.specs.declared.limits.Limits.{Limits}
use Rattle.term_runner.specs.Proofs.{IsProof, IsProofOfKind, KeepsWithin}
use Rattle.bdd_terms.specs.declared.error.RunError.{RunError}
use Rattle.bdd_terms.specs.declared.error.RunError.TheVariants as run_error
use Rattle.command_line.specs.Command.{ToAsk, Ask, command, limits_asked}
use Rattle.solver_cli.specs.declared.status.Status.{Status}
use Rattle.solver_cli.specs.declared.status.Status.TheVariants.{Sat, Unsat, Unknown, Answered, Verified, NotVerified, Done, Help}
use Rattle.solver_cli.specs.declared.status.Status.TheVariants.{CubeRefused}
use Rattle.solver_cli.specs.declared.status.Status.TheVariants.{TooLong, ReadFault, WriteFault, OutOfMemory}
use Rattle.solver_cli.specs.declared.status.Why.{Why}
use Rattle.solver_cli.specs.declared.status.Why.TheVariants.{NodeLimit, IdLimit}
use Rattle.solver_cli.specs.Answer.{IsOrdered}
use Rattle.solver_cli.specs.ErrorText.{is_answer}
use Rattle.solver_cli.specs.ExitCode.{status_of_cubes, status_of_run}
use Rattle.solver_cli.specs.Phases.{PutsText, ReadsText, TakesCubes}
use Rattle.solver_cli.specs.Replies.{replies_at, replies_text, status_of_replies}
use Rattle.solver_cli.specs.Stages.{CameToReply, Questioned, Replied, Uncreated, Uncubed, Unreplied, ask_job, status_after_replies}
use Rattle.solver_cli.specs.Stages.{streams_of}
use Rattle.solver_cli.specs.Headline.{AskStands, CubesAreRefusedBy, IsAnswered, IsComplete, IsTrueAnswer, IsUnanswered, MemoryIsWanted}
use Rattle.solver_cli.specs.Headline.{RefusalsAreDue, RepliesTo, WrittenStands}
use Rattle.solver_cli.specs.Run.{Run, written_in, taken_in, limits_given, AsksByCubes, AsksOver, IsUnharmed, OutputFailed}
use Rattle.solver_cli.specs.Faults.{NamedOutputFailed}
use Rattle.solver_cli.proofs.Facts.{behind, grown_by, whole_of, no_answer, named_apart, judged_apart, decided_apart, not_unasked}
use Rattle.solver_cli.proofs.Facts.{only_misuse, only_help}
use Rattle.solver_cli.proofs.Reading.{rose_since, text_read, ok_err}
use Rattle.solver_cli.proofs.CallsFor.{no_call_asked}
use Rattle.solver_cli.proofs.Deciding.{deciding}
use Rattle.solver_cli.proofs.Promised.{Core, LeftAlone, due, left_proof, no_proof, no_text, no_verdict, quiet_output, refused, same_written}
use Rattle.solver_cli.proofs.Promised.{short, unread}
use Rattle.solver_cli.proofs.Untaken.{not_early, ordered, took}
use Rattle.solver_cli.proofs.Accepted.{Accepts, accepts_memory, accepts_write, so_far_of_kind}

-- the cubes were not taken
pub uncubed : (run : Run) (task : ToAsk) → command run.words ≡ Some (Ask task)
    → Uncubed run.tells (streams_of run.before) (streams_of run.after) run.files task run.status → Core run
uncubed run task gives u = by_error u.error u.cubed u.ends where
  asks : IsTrue run.tells → AsksOver run (Ask task) (formula u.problem)
  asks = took run (Ask task) task.file u.problem gives refl u.takes

  had : IsTrue run.tells → IsOrdered run.texts task.order u.problem u.given
  had = ordered run.texts u.problem task.order u.orders (run.fits Order tt)

  alone : (status : Status) → LeftAlone run status
  alone status = record {
    proof = left_proof run u.proof;
    made = u.made;
    out = u.out;
    makes = λ make. absurd (named_apart Cubes gives refl make.1 refl);
  }

  text : {Says : Result (List (List ℤ)) CubeError → CubeText → Type 0} {result : Result (List (List ℤ)) CubeError} {said : CubeText}
      → IsTrue run.tells
      → (says : ReadsText (cube_text u.problem.vars) Says run.texts task.cubes (taken_in run Cubes) result)
      → cube_text u.problem.vars says.bytes ≡ said → cube_text u.problem.vars (taken_in run Cubes) ≡ said
      → CubesAreRefusedBy run said
  text t says told decided = record {
    problem = u.problem;
    order = u.given;
    asks = record {
      task = task;
      asks = asks t;
      ordered = had t;
      read = record { bytes = says.bytes; stands = says.stands; says = told };
    };
    decided = decided;
  }

  by_error : (error : CubeError)
      → TakesCubes u.problem.vars run.tells (run.before Cubes) (run.after Cubes) run.files task.cubes (Err error)
      → run.status ≡ status_of_cubes error → Core run
  by_error (cube_error.Refused kind line) takes ends =
      refused run (Ask task) gives (alone (CubeRefused kind line)) ends refl (λ e. cc)
      ((task, gives), λ t. let says = text_read run.texts (λ e. cc) takes (run.fits Cubes tt task.cubes) t in text t says says.told says.decided)
  by_error cube_error.TooLong takes ends =
      refused run (Ask task) gives (alone (TooLong Cubes)) ends refl (λ e. cc)
      ((task, gives), λ t. let says = text_read run.texts (λ e. cc) takes (run.fits Cubes tt task.cubes) t in text t says says.told says.decided)
  by_error cube_error.ReadFault takes ends = unread run (Ask task) gives (alone ReadFault) ends
      (Cubes, tt, takes.failed refl, Ask task, task.cubes, gives, refl) (λ t. inr (inr (inr (inr (inr (record {
        task = task;
        problem = u.problem;
        asks = asks t;
        order = u.given;
        ordered = had t;
        failed = takes.failed refl;
        undecided = takes.undecided t refl;
      }))))))
  by_error cube_error.OutOfMemory takes ends = short run (Ask task) gives (alone OutOfMemory)
      (inr (inr (inr (inr (inr (inr (inr (inr (inl (record {
        task = task;
        given = gives;
        problem = u.problem;
        asks = asks;
        order = u.given;
        ordered = had;
        wants = λ t. not_early (takes.memory t refl) run.texts (run.fits Cubes tt task.cubes);
        before_proof = u.proof;
      })))))))))) ends

-- What a run answers, by `ask`: which cubes, over which formula, by which order.
pub record Questions (run : Run) (task : ToAsk) (problem : Formula) (order : List ℕ) (cubes : List (List ℤ)) : Type 0 where
  pub gives : command run.words ≡ Some (Ask task)
  pub asks : IsTrue run.tells → AsksByCubes run problem order (given_cubes cubes)
  pub made : run.after Made ≡ run.before Made

pub questions_of : (run : Run) (task : ToAsk) → command run.words ≡ Some (Ask task)
    → (q : Questioned run.tells (streams_of run.before) (streams_of run.after) run.files task run.status) → IsTrue run.tells
    → AsksByCubes run q.problem q.given (given_cubes q.cubes)
questions_of run task gives q t =
    let says = text_read run.texts (λ e. ok_err e) q.cubed (run.fits Cubes tt task.cubes) t in
    record {
      task = task;
      asks = took run (Ask task) task.file q.problem gives refl q.takes t;
      ordered = ordered run.texts q.problem task.order q.orders (run.fits Order tt) t;
      read = record { bytes = says.bytes; stands = says.stands; says = says.told };
    }

same_limits : (run : Run) (task : ToAsk) → command run.words ≡ Some (Ask task) → task.limits ≡ limits_given run
same_limits run task gives = sym (ap limits_asked gives)

-- no refusal is called for, and no verdict
ask_complete : (run : Run) {task : ToAsk} {problem : Formula} {order : List ℕ} {cubes : List (List ℤ)}
    → Questions run task problem order cubes → (IsUnharmed run → IsTrue (is_answer run.status) ⊎ (run.status ≡ OutOfMemory))
    → IsComplete run
ask_complete run {problem = problem} {order = order} {cubes = cubes} q answers = record {
  misused = λ only. absurd (only_misuse run.words q.gives only);
  helped = λ only _. absurd (only_help run.words q.gives only);
  unasked = λ none _. absurd (not_unasked q.gives none);
  answers = λ other asks. let given = deciding run other asks in absurd (decided_apart given.1 given.2 q.gives refl);
  replies = λ other other_order others asks t unharmed. answers unharmed;
  judges = λ other bytes judged has. absurd (judged_apart has.asked.asks.command has.asked.named q.gives refl);
  makes = λ given. absurd (named_apart Cubes q.gives refl given.1 refl);
  arranges = λ task other asks. absurd (named_apart Cubes q.gives refl asks.command refl);
  refuses = λ status calls t unfailed. absurd (no_call_asked run problem order cubes (q.asks t) status calls);
}

-- what was written is the proof's steps
written_by : (run : Run) {task : ToAsk} {problem : Formula} {order : List ℕ} {cubes : List (List ℤ)}
    → Questions run task problem order cubes → AskStands run → WrittenStands run
written_by run {task = task} q stands = record {
  converted = λ given. absurd (named_apart Cubes q.gives refl given.1 refl);
  trimmed = λ given. absurd (named_apart Cubes q.gives refl given.1 refl);
  asked = λ _. stands;
  proved = λ _ _ others. absurd (others (task, q.gives));
}

-- the proof's file was not created
unstarted : (run : Run) {task : ToAsk} {problem : Formula} {order : List ℕ} {cubes : List (List ℤ)}
    → Questions run task problem order cubes
    → Uncreated (run.before ProofOut) (run.after ProofOut) (run.before Out) (run.after Out) (ask_job task) run.status → Core run
unstarted run {task = task} {problem = problem} {order = order} {cubes = cubes} q u =
    let unanswered : is_answer run.status ≡ false = ap is_answer u.ends in
    let failed : OutputFailed run = (ProofOut, inl tt, u.opens.faults.cause u.failed) in
    let accepts : Accepts run.status = accepts_write run.status u.ends in
    record {
      unsatisfiable = λ e. absurd (no_answer unanswered refl e);
      satisfiable = λ e. absurd (no_answer unanswered refl e);
      undecided = λ why e. absurd (no_answer unanswered refl e);
      answered = λ e. absurd (no_answer unanswered refl e);
      verdict = no_verdict run unanswered;
      made = λ e. absurd (accepts.done e);
      made_file = no_text run q.made;
      refusals = due run u.ends tt;
      faults = λ quiet. record {
        read = λ e. absurd (accepts.read e);
        named = λ e. absurd (accepts.read e);
        undecided = λ e. absurd (accepts.read e);
        quiet = quiet;
        write = λ e. failed;
        created = λ e. inr (ProofOut, tt, u.opens.faults.cause u.failed, Ask task, task.proof, q.gives, refl);
        accepted = λ e. inr ((Ask task, q.gives), λ t. inr (inr (inr (inr (inr (problem, order, cubes, q.asks t))))));
      };
      output = quiet_output run unanswered accepts.help (same_written u.same);
      proof = no_proof run (whole_of (run.before ProofOut) (run.after ProofOut) u.opens.was_idle.written ∙ u.opens.idle.written);
      complete = ask_complete run q (λ unharmed. absurd (unharmed.1 failed));
    }

-- the proof, told of the bytes that the run wrote
whole_of_kind : (run : Run) (problem : Formula) (kind : State → Type 0) → (run.before ProofOut).written ≡ []
    → IsProofOfKind problem.clauses kind (run.after ProofOut).written
    → IsProofOfKind problem.clauses kind (written_in run ProofOut)
whole_of_kind run problem kind idle p = subst (λ (bytes : List ℕ). IsProofOfKind problem.clauses kind bytes)
    (sym (whole_of (run.before ProofOut) (run.after ProofOut) idle)) p

-- the cubes were not answered
unreplied : (run : Run) {task : ToAsk} {problem : Formula} {order : List ℕ} {cubes : List (List ℤ)}
    → Questions run task problem order cubes
    → Unreplied run.tells (run.before ProofOut) (run.after ProofOut) (run.before Out) (run.after Out) problem order cubes (ask_job task)
    run.status → Core run
unreplied run {task = task} {problem = problem} {order = order} {cubes = cubes} q u = go u.error (subst (λ (l : Limits). WritesReplies run.tells u.created (run.after ProofOut) problem
    order cubes l (Err u.error)) (same_limits run task q.gives) u.writes) u.ends where
      given : IsTrue run.tells → (p : Formula) × (o : List ℕ) × (c : List (List ℤ)) × AsksByCubes run p o (given_cubes c)
      given t = (problem, order, cubes, q.asks t)

      stands : {result : Result Replies RunError}
          → WritesReplies run.tells u.created (run.after ProofOut) problem order cubes (limits_given run) result
          → (run.status ≢ WriteFault → result ≢ Err run_error.WriteFault) → AskStands run
      stands writes unharmed = record {
        so_far = λ t. inr (
          problem,
          order,
          cubes,
          q.asks t,
          so_far_of_kind run problem (KeepsWithin problem (limits_given run)) u.opens.was_idle.written (writes.so_far t),
        );
        whole = λ differs t. inr (
          problem,
          order,
          cubes,
          q.asks t,
          whole_of_kind run problem (KeepsWithin problem (limits_given run)) u.opens.was_idle.written (writes.whole (unharmed differs) t),
        );
        price = λ t. inr (
          problem,
          order,
          cubes,
          q.asks t,
          λ width price needs has. so_far_of_kind run problem (IsPaid problem cubes width price) u.opens.was_idle.written
              (writes.paid width price needs has t),
        );
      }

      created : {error : RunError} → WritesReplies run.tells u.created (run.after ProofOut) problem order cubes (limits_given run) (Err error)
          → (run.after ProofOut).name ≢ None
      created writes none = no_name (sym (u.opens.named u.done) ∙ sym writes.name ∙ none) where
        no_name : {file : List ℕ} → ◌≡◌ {A = Option (List ℕ)} (Some file) None → ⊥
        no_name e = cc

      core : is_answer run.status ≡ false → Accepts run.status → RefusalsAreDue run → (run.status ≡ WriteFault → OutputFailed run)
          → (run.status ≡ WriteFault → NamedOutputFailed run) → (IsUnharmed run → run.status ≡ OutOfMemory) → AskStands run → Core run
      core unanswered accepts is_due fault named memory held = record {
        unsatisfiable = λ e. absurd (no_answer unanswered refl e);
        satisfiable = λ e. absurd (no_answer unanswered refl e);
        undecided = λ why e. absurd (no_answer unanswered refl e);
        answered = λ e. absurd (no_answer unanswered refl e);
        verdict = no_verdict run unanswered;
        made = λ e. absurd (accepts.done e);
        made_file = no_text run q.made;
        refusals = is_due;
        faults = λ quiet. record {
          read = λ e. absurd (accepts.read e);
          named = λ e. absurd (accepts.read e);
          undecided = λ e. absurd (accepts.read e);
          quiet = quiet;
          write = fault;
          created = named;
          accepted = λ e. inr ((Ask task, q.gives), λ t. inr (inr (inr (inr (inr (given t))))));
        };
        output = quiet_output run unanswered accepts.help (same_written u.same);
        proof = written_by run q held;
        complete = ask_complete run q (λ unharmed. inr (memory unharmed));
      }

      apart : {status : Status} → status ≡ OutOfMemory → status ≡ WriteFault → ⊥
      apart d e = cc

      go : (error : RunError) → WritesReplies run.tells u.created (run.after ProofOut) problem order cubes (limits_given run) (Err error)
          → run.status ≡ status_of_run error → Core run
      go run_error.WriteFault writes ends =
          let rose = rose_since u.opens.faults.no_less (writes.fault refl) in
          let failed : OutputFailed run = (ProofOut, inl tt, rose) in
          core (ap is_answer ends) (accepts_write run.status ends) (due run ends tt) (λ _. failed)
          (λ _. inr (ProofOut, tt, rose, Ask task, task.proof, q.gives, refl)) (λ unharmed. absurd (unharmed.1 failed))
          (stands writes (λ differs. absurd (differs ends)))
      go run_error.OutOfMemory writes ends =
          let wanted : MemoryIsWanted run = inr (inr (inr (inr (inr (inr (inr (inr (inr (record {
            given = (task, q.gives);
            problem = problem;
            order = order;
            cubes = cubes;
            asks = q.asks;
            created = created writes;
            before_answer = u.same;
          }))))))))) in
          core (ap is_answer ends) (accepts_memory run.status ends) (due run ends wanted) (λ e. absurd (apart ends e))
          (λ e. absurd (apart ends e)) (λ unharmed. ends) (stands writes (λ _ e. cc))

-- statuses of replies

is_answered : (found : Replies) → status_of_replies found ≡ Answered → (answers : List Answer) × (found ≡ replies.Answered answers)
is_answered (replies.Answered answers) e = (answers, refl)
is_answered replies.NodeLimit e = cc
is_answered replies.IdLimit e = cc

is_unknown : (found : Replies) (why : Why) → status_of_replies found ≡ Unknown why → found ≡ replies_at why
is_unknown (replies.Answered answers) why e = cc
is_unknown replies.NodeLimit NodeLimit e = refl
is_unknown replies.NodeLimit IdLimit e = cc
is_unknown replies.IdLimit NodeLimit e = cc
is_unknown replies.IdLimit IdLimit e = refl

-- they are answers, and no others
pub record OnlyReplies (status : Status) : Type 0 where
  pub answers : is_answer status ≡ true
  pub unsat : status ≡ Unsat → ⊥
  pub sat : status ≡ Sat → ⊥
  pub verified : status ≡ Verified → ⊥
  pub not_verified : (line : ℕ) (reason : Reason) → status ≡ NotVerified line reason → ⊥
  pub done : status ≡ Done → ⊥
  pub help : status ≡ Help → ⊥
  pub read : status ≡ ReadFault → ⊥
  pub write : status ≡ WriteFault → ⊥

pub accepts_replies : (status : Status) (found : Replies) → status ≡ status_of_replies found → OnlyReplies status
accepts_replies status (replies.Answered answers) is = record {
  answers = ap is_answer is;
  unsat = λ e. cc;
  sat = λ e. cc;
  verified = λ e. cc;
  not_verified = λ line reason e. cc;
  done = λ e. cc;
  help = λ e. cc;
  read = λ e. cc;
  write = λ e. cc;
}
accepts_replies status replies.NodeLimit is = record {
  answers = ap is_answer is;
  unsat = λ e. cc;
  sat = λ e. cc;
  verified = λ e. cc;
  not_verified = λ line reason e. cc;
  done = λ e. cc;
  help = λ e. cc;
  read = λ e. cc;
  write = λ e. cc;
}
accepts_replies status replies.IdLimit is = record {
  answers = ap is_answer is;
  unsat = λ e. cc;
  sat = λ e. cc;
  verified = λ e. cc;
  not_verified = λ line reason e. cc;
  done = λ e. cc;
  help = λ e. cc;
  read = λ e. cc;
  write = λ e. cc;
}

-- no refusal is due of replies
replies_due : (run : Run) (found : Replies) → run.status ≡ status_of_replies found → RefusalsAreDue run
replies_due run (replies.Answered answers) ends = due run ends tt
replies_due run replies.NodeLimit ends = due run ends tt
replies_due run replies.IdLimit ends = due run ends tt

-- they were answered, or a limit was reached
replied : (run : Run) {task : ToAsk} {problem : Formula} {order : List ℕ} {cubes : List (List ℤ)}
    → Questions run task problem order cubes
    → Replied run.tells (run.before ProofOut) (run.after ProofOut) (run.before Out) (run.after Out) problem order cubes (ask_job task)
    run.status → Core run
replied run {task = task} {problem = problem} {order = order} {cubes = cubes} q a = go a.printed a.puts a.ends where
  found : Replies
  found = a.found

  text : List ℕ
  text = replies_text task.limits found

  same_bytes : written_in run ProofOut ≡ (run.after ProofOut).written
  same_bytes = whole_of (run.before ProofOut) (run.after ProofOut) a.opens.was_idle.written

  same_text : text ≡ replies_text (limits_given run) found
  same_text = ap (λ (l : Limits). replies_text l found) (same_limits run task q.gives)

  writes : WritesReplies run.tells a.created (run.after ProofOut) problem order cubes (limits_given run) (Ok found)
  writes = subst (λ (l : Limits). WritesReplies run.tells a.created (run.after ProofOut) problem order cubes l (Ok found))
      (same_limits run task q.gives) a.writes

  shows : IsTrue run.tells → Shows problem order cubes (limits_given run) (written_in run ProofOut) found
  shows t = subst (λ (bytes : List ℕ). Shows problem order cubes (limits_given run) bytes found) (sym same_bytes) (writes.shows t)

  -- the same of replies that are known by their name
  says_as : (other : Replies) → found ≡ other → Says problem order cubes (limits_given run) other
  says_as other is = subst (λ (x : Replies). Says problem order cubes (limits_given run) x) is writes.says

  shows_as : (other : Replies) → found ≡ other → IsTrue run.tells
      → Shows problem order cubes (limits_given run) (written_in run ProofOut) other
  shows_as other is t =
      subst (λ (x : Replies). Shows problem order cubes (limits_given run) (written_in run ProofOut) x) is (shows t)

  whole : IsTrue run.tells → IsProof problem (limits_given run) (written_in run ProofOut)
  whole t = whole_of_kind run problem (KeepsWithin problem (limits_given run)) a.opens.was_idle.written (writes.whole (λ e. ok_err e) t)

  stands : AskStands run
  stands = record {
    so_far = λ t. inr (problem, order, cubes, q.asks t, inl (whole t));
    whole = λ _ t. inr (problem, order, cubes, q.asks t, whole t);
    price = λ t. inr (
      problem,
      order,
      cubes,
      q.asks t,
      λ width price needs has. so_far_of_kind run problem (IsPaid problem cubes width price) a.opens.was_idle.written
          (writes.paid width price needs has t),
    );
  }

  true_answer : IsTrue run.tells → (rest : List ℕ) → replies_text (limits_given run) found ≡ written_in run Out ++ rest
      → IsTrueAnswer run (RepliesTo problem order cubes found)
  true_answer t rest front = record {
    found = record { asked = q.asks t; says = writes.says; shows = shows t; proof = whole t; flushed = writes.flushed refl t };
    rest = rest;
    front = front;
  }

  grows : (printed : Result ⊤ Failed) → PutsText run.tells (run.before Out) (run.after Out) text printed → IsTrue run.tells
      → (run.after Out).written ≡ (run.before Out).written ++ written_in run Out
  grows printed puts t = let front = puts.front t in grown_by (run.before Out) (run.after Out) front.0 front.2

  fronts : (printed : Result ⊤ Failed) → PutsText run.tells (run.before Out) (run.after Out) text printed → IsTrue run.tells
      → IsTrueAnswer run (RepliesTo problem order cubes found)
  fronts printed puts t = let front = puts.front t in true_answer t front.1 (sym same_text ∙ front.3
      ∙ ap (λ (l : List ℕ). l ++ front.1) (sym (behind (run.before Out) (run.after Out) front.0 front.2)))

  printed_as : (IsTrue run.tells → written_in run Out ≡ text) → (other : Replies) → found ≡ other → IsTrue run.tells → written_in run Out
      ≡ replies_text (limits_given run) other
  printed_as all other is t = all t ∙ same_text ∙ ap (replies_text (limits_given run)) is

  answered : (IsTrue run.tells → written_in run Out ≡ text) → (answers : List Answer) → found ≡ replies.Answered answers → IsAnswered run
  answered all answers is = record {
    given = (task, q.gives);
    problem = problem;
    order = order;
    cubes = cubes;
    answers = answers;
    is_true = says_as (replies.Answered answers) is;
    shown = λ t. record {
      asked = q.asks t;
      shown = shows_as (replies.Answered answers) is t;
      printed = printed_as all (replies.Answered answers) is t;
    };
  }

  -- a limit is no answer
  at_limit : (why : Why) → AreAnswers (replies_at why) → ⊥
  at_limit NodeLimit is = is
  at_limit IdLimit is = is

  unanswered_by : (IsTrue run.tells → written_in run Out ≡ text) → (why : Why) → found ≡ replies_at why → IsUnanswered run why
  unanswered_by all why is = record {
    given = (task, q.gives);
    problem = problem;
    order = order;
    cubes = cubes;
    needs = says_as (replies_at why) is;
    short = λ width price needs has ample. at_limit why
        (subst (λ (x : Replies). AreAnswers x) is (writes.certain width price needs has ample));
    shown = λ t. record {
      asked = q.asks t;
      reached = shows_as (replies_at why) is t;
      printed = printed_as all (replies_at why) is t;
    };
  }

  fine : (x : ⊤) → PutsText run.tells (run.before Out) (run.after Out) text (Ok x) → run.status ≡ status_of_replies found → Core run
  fine x puts ends =
      let only : OnlyReplies run.status = accepts_replies run.status found ends in
      let all : IsTrue run.tells → written_in run Out ≡ text = λ t. behind (run.before Out) (run.after Out) text (puts.done t refl) in
      record {
        unsatisfiable = λ e. absurd (only.unsat e);
        satisfiable = λ e. absurd (only.sat e);
        undecided = λ why e. inr (unanswered_by all why (is_unknown found why (sym ends ∙ e)));
        answered = λ e. let is = is_answered found (sym ends ∙ e) in answered all is.0 is.1;
        verdict = record {
          verified = λ e. absurd (only.verified e);
          not_verified = λ line reason e. absurd (only.not_verified line reason e);
        };
        made = λ e. absurd (only.done e);
        made_file = no_text run q.made;
        refusals = replies_due run found ends;
        faults = λ quiet. record {
          read = λ e. absurd (only.read e);
          named = λ e. absurd (only.read e);
          undecided = λ e. absurd (only.read e);
          quiet = quiet;
          write = λ e. absurd (only.write e);
          created = λ e. absurd (only.write e);
          accepted = λ e. absurd (only.write e);
        };
        output = record {
          grows = grows (Ok x) puts;
          front = λ t. inr (inl (RepliesTo problem order cubes found, fronts (Ok x) puts t));
          answered = λ _ t. (
            RepliesTo problem order cubes found,
            true_answer t [] (sym same_text ∙ sym (all t) ∙ sym (append-nil (written_in run Out))),
            ends,
            refl,
          );
          helped = λ e. absurd (only.help e);
          flushed = λ _ t. puts.flushed t refl;
          silent = λ unanswered. absurd (true≢false (sym only.answers ∙ unanswered));
        };
        proof = written_by run q stands;
        complete = ask_complete run q (λ unharmed. inl only.answers);
      }

  failed : (e : Failed) → PutsText run.tells (run.before Out) (run.after Out) text (Err e) → run.status ≡ WriteFault → Core run
  failed e puts ends =
      let unanswered : is_answer run.status ≡ false = ap is_answer ends in
      let accepts : Accepts run.status = accepts_write run.status ends in
      let failure : OutputFailed run = (Out, inr refl, puts.fault refl) in
      record {
        unsatisfiable = λ d. absurd (no_answer unanswered refl d);
        satisfiable = λ d. absurd (no_answer unanswered refl d);
        undecided = λ why d. absurd (no_answer unanswered refl d);
        answered = λ d. absurd (no_answer unanswered refl d);
        verdict = no_verdict run unanswered;
        made = λ d. absurd (accepts.done d);
        made_file = no_text run q.made;
        refusals = due run ends tt;
        faults = λ quiet. record {
          read = λ d. absurd (accepts.read d);
          named = λ d. absurd (accepts.read d);
          undecided = λ d. absurd (accepts.read d);
          quiet = quiet;
          write = λ d. failure;
          created = λ d. inl (puts.fault refl);
          accepted = λ d. inr ((Ask task, q.gives), λ t. inr (inr (inr (inr (inr (problem, order, cubes, q.asks t))))));
        };
        output = record {
          grows = grows (Err e) puts;
          front = λ t. inr (inl (RepliesTo problem order cubes found, fronts (Err e) puts t));
          answered = λ yes_answer. absurd (true≢false (sym yes_answer ∙ unanswered));
          helped = λ d. absurd (accepts.help d);
          flushed = λ either. elim either [
            | inl yes_answer ↦ absurd (true≢false (sym yes_answer ∙ unanswered))
            | inr d ↦ absurd
                (accepts.help d)
          ];
          silent = λ _ _ unfaulted. absurd (unfaulted ends);
        };
        proof = written_by run q stands;
        complete = ask_complete run q (λ unharmed. absurd (unharmed.1 failure));
      }

  go : (printed : Result ⊤ Failed) → PutsText run.tells (run.before Out) (run.after Out) text printed → run.status
      ≡ status_after_replies found printed → Core run
  go (Ok x) puts ends = fine x puts ends
  go (Err e) puts ends = failed e puts ends

-- `ask` had all that it answers by
pub questioned : (run : Run) (task : ToAsk) → command run.words ≡ Some (Ask task)
    → Questioned run.tells (streams_of run.before) (streams_of run.after) run.files task run.status → Core run
questioned run task gives had = came had.came where
  posed : Questions run task had.problem had.given had.cubes
  posed = record { gives = gives; asks = questions_of run task gives had; made = had.made }

  came : CameToReply run.tells (run.before ProofOut) (run.after ProofOut) (run.before Out) (run.after Out) had.problem had.given had.cubes
      (ask_job task) run.status → Core run
  came (inl u) = unstarted run posed u
  came (inr (inl u)) = unreplied run posed u
  came (inr (inr a)) = replied run posed a
