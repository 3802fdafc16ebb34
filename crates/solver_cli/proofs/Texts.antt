-- What is promised of a run that makes a board or an order: memory for it ran out, or its text is written.
use Rattle.std.proofs.Common.{◌≡◌, ℕ, false, List, ◌++◌, length, refl, sym, ap, ◌∙◌, Some, Ok, Err, IsTrue, inl, inr}
use Rattle.cnf_base.specs.Formula.{Formula}
use Rattle.std.specs.Prelude.{Result, ⊤, ◌⊎◌}
use Rattle.host_io.specs.declared.role.Role.TheVariants.{Cubes, ProofOut, Made, Out}
use Rattle.host_io.specs.declared.source.Failed.{Failed}
use Rattle.dimacs_reader.specs.Cnf.{formula}
use Rattle.command_line.specs.Command.{Command, ToMake, ToOrder, Make, Arrange, command}
use Rattle.solver_cli.specs.declared.status.Status.{Status}
use Rattle.solver_cli.specs.declared.status.Status.TheVariants.{Done, Help, ReadFault, WriteFault, OutOfMemory}
use Rattle.solver_cli.specs.ErrorText.{is_answer}
use Rattle.solver_cli.specs.MadeText.{made_text, order_line}
use Rattle.solver_cli.specs.Phases.{PutsText}
use Rattle.solver_cli.specs.Stages.{Streams, streams_of, Unmade, BoardMade, Unarranged, Arranged, FileUncreated, Written, CameToWrite}
use Rattle.solver_cli.specs.Stages.{status_of_written}
use Rattle.solver_cli.specs.Headline.{IsMade, IsArranged, TextIsMade, IsFrontOfCore, IsFrontOfMade, IsFrontOfOrder, MadeStands}
use Rattle.solver_cli.specs.Headline.{RefusalsAreDue, IsComplete}
use Rattle.solver_cli.specs.Run.{Run, written_in, name_given, HasFault, AsksOver, IsUnharmed}
use Rattle.solver_cli.specs.Faults.{TextsAreRead}
use Rattle.solver_cli.proofs.Facts.{whole_of, no_answer, not_unasked, only_misuse, only_help, decided_apart, judged_apart}
use Rattle.solver_cli.proofs.Facts.{makes_no_order, named_apart}
use Rattle.solver_cli.proofs.Reading.{rose_since}
use Rattle.solver_cli.proofs.CallsFor.{no_call_arranged, no_call_made}
use Rattle.solver_cli.proofs.Deciding.{deciding}
use Rattle.solver_cli.proofs.Promised.{Core, due, idle, short, left_proof, quiet_output, no_proof, no_verdict, none_written, same_written}
use Rattle.solver_cli.proofs.Untaken.{took}

-- memory for the board ran out
pub unmade : (run : Run) (asked : Command) → command run.words ≡ Some asked
    → Unmade (streams_of run.before) (streams_of run.after) run.status → Core run
unmade run asked gives u = short run asked gives
    (record {
      proof = left_proof run (ap (λ (s : Streams). s.proof) u.same);
      made = ap (λ (s : Streams). s.made) u.same;
      out = ap (λ (s : Streams). s.out) u.same;
      makes = λ _. refl;
    })
    (inl (idle run u.same)) u.ends

-- memory for the order ran out
pub unarranged : (run : Run) (task : ToOrder) → command run.words ≡ Some (Arrange task)
    → Unarranged run.tells (streams_of run.before) (streams_of run.after) run.files task run.status → Core run
unarranged run task gives u = short run (Arrange task) gives
    (record { proof = left_proof run u.alone.proof; made = u.made; out = u.alone.out; makes = λ _. refl })
    (inr (inr (inr (inr (inr (inr (inr (inl (record {
      task = task;
      given = gives;
      problem = u.problem;
      asks = took run (Arrange task) task.file u.problem gives refl u.takes;
      before_text = u.made;
    })))))))))
    u.ends

-- what is complete of a run that makes a board's text, and of one that makes an order
make_complete : (run : Run) (task : ToMake) → command run.words ≡ Some (Make task)
    → (IsUnharmed run → (run.status ≡ Done) ⊎ (run.status ≡ OutOfMemory)) → IsComplete run
make_complete run task gives makes = record {
  misused = λ only. absurd (only_misuse run.words gives only);
  helped = λ only _. absurd (only_help run.words gives only);
  unasked = λ none _. absurd (not_unasked gives none);
  answers = λ other asks. let given = deciding run other asks in absurd (decided_apart given.1 given.2 gives refl);
  replies = λ other order cubes asks. absurd (named_apart Cubes asks.asks.command refl gives refl);
  judges = λ other bytes judged has. absurd (judged_apart has.asked.asks.command has.asked.named gives refl);
  makes = λ _ unharmed. makes unharmed;
  arranges = λ other problem asks. absurd (makes_no_order gives asks.command);
  refuses = λ status calls t unfailed. absurd (no_call_made run (task, gives) status calls);
}

arrange_complete : (run : Run) (task : ToOrder) {problem : Formula} → command run.words ≡ Some (Arrange task)
    → (IsTrue run.tells → AsksOver run (Arrange task) (formula problem))
    → (IsUnharmed run → (run.status ≡ Done) ⊎ (run.status ≡ OutOfMemory)) → IsComplete run
arrange_complete run task {problem = problem} gives asked makes = record {
  misused = λ only. absurd (only_misuse run.words gives only);
  helped = λ only _. absurd (only_help run.words gives only);
  unasked = λ none _. absurd (not_unasked gives none);
  answers = λ other asks. let given = deciding run other asks in absurd (decided_apart given.1 given.2 gives refl);
  replies = λ other order cubes asks. absurd (named_apart Cubes asks.asks.command refl gives refl);
  judges = λ other bytes judged has. absurd (judged_apart has.asked.asks.command has.asked.named gives refl);
  makes = λ given. absurd (makes_no_order given.1 gives);
  arranges = λ other problem asks t unharmed. makes unharmed;
  refuses = λ status calls t unfailed. absurd (no_call_arranged run task problem (asked t) status calls);
}

-- statuses that making a text ends with
record Ended (status : Status) : Type 0 where
  pub unanswered : is_answer status ≡ false
  pub help : status ≡ Help → ⊥
  pub read : status ≡ ReadFault → ⊥

ended_done : (status : Status) → status ≡ Done → Ended status
ended_done status is = record { unanswered = ap is_answer is; help = λ e. cc; read = λ e. cc }

ended_fault : (status : Status) → status ≡ WriteFault → Ended status
ended_fault status is = record { unanswered = ap is_answer is; help = λ e. cc; read = λ e. cc }

fault_not_done : {status : Status} → status ≡ WriteFault → status ≡ Done → ⊥
fault_not_done d e = cc

-- What a text is made for: the command, what the whole of it and a front of it mean, and what is complete then. Nothing else is written.
record IsFor (run : Run) (text : List ℕ) : Type 0 where
  pub asked : Command
  pub gives : command run.words ≡ Some asked
  pub file : List ℕ
  pub named : name_given Made asked ≡ Some file
  pub proof : run.after ProofOut ≡ run.before ProofOut
  pub out : run.after Out ≡ run.before Out
  pub front : IsTrue run.tells → (rest : List ℕ) → text ≡ written_in run Made ++ rest
      → IsFrontOfMade run ⊎ (IsFrontOfOrder run ⊎ IsFrontOfCore run)
  pub whole : (IsTrue run.tells → written_in run Made ≡ text)
      → (IsTrue run.tells → (run.after Made).flushed ≡ length (run.after Made).written)
      → ((task : ToMake) × IsMade run task) ⊎ ((task : ToOrder) × IsArranged run task)
  pub accepted : IsTrue run.tells → TextsAreRead run
  pub complete : (IsUnharmed run → (run.status ≡ Done) ⊎ (run.status ≡ OutOfMemory)) → IsComplete run

ending : (run : Run) {text : List ℕ} → IsFor run text → Ended run.status → RefusalsAreDue run
    → TextIsMade run → MadeStands run → (run.status ≡ WriteFault → HasFault run Made)
    → (IsUnharmed run → (run.status ≡ Done) ⊎ (run.status ≡ OutOfMemory)) → Core run
ending run w ended is_due text front fault makes = record {
  unsatisfiable = λ e. absurd (no_answer ended.unanswered refl e);
  satisfiable = λ e. absurd (no_answer ended.unanswered refl e);
  undecided = λ why e. absurd (no_answer ended.unanswered refl e);
  answered = λ e. absurd (no_answer ended.unanswered refl e);
  verdict = no_verdict run ended.unanswered;
  made = text;
  made_file = front;
  refusals = is_due;
  faults = λ quiet. record {
    read = λ e. absurd (ended.read e);
    named = λ e. absurd (ended.read e);
    undecided = λ e. absurd (ended.read e);
    quiet = quiet;
    write = λ e. (Made, inl tt, fault e);
    created = λ e. inr (Made, tt, fault e, w.asked, w.file, w.gives, w.named);
    accepted = λ e. inr ((w.asked, w.gives), w.accepted);
  };
  output = quiet_output run ended.unanswered ended.help (same_written w.out);
  proof = no_proof run (none_written run ProofOut w.proof);
  complete = w.complete makes;
}

-- the text's file was not created
file_uncreated : (run : Run) {file text : List ℕ} → IsFor run text → FileUncreated (run.before Made) (run.after Made) file run.status
    → Core run
file_uncreated run w u =
    let failed : HasFault run Made = u.opens.faults.cause u.failed in
    ending run w (ended_fault run.status u.ends) (due run u.ends tt) (λ e. absurd (fault_not_done u.ends e))
    (λ t. inl (whole_of (run.before Made) (run.after Made) u.opens.was_idle.written ∙ u.opens.idle.written)) (λ _. failed)
    (λ unharmed. absurd (unharmed.1 (Made, inl tt, failed)))

-- the text was written or not
written : (run : Run) {file text : List ℕ} → IsFor run text → Written run.tells (run.before Made) (run.after Made) file text run.status
    → Core run
written run {text = text} is_for w = go w.written w.puts w.ends where
  -- nothing stood in the file
  all_of : written_in run Made ≡ (run.after Made).written
  all_of = whole_of (run.before Made) (run.after Made) w.opens.was_idle.written

  from_empty : (part : List ℕ) → (run.after Made).written ≡ w.created.written ++ part → written_in run Made ≡ part
  from_empty part grown = all_of ∙ grown ∙ ap (λ (l : List ℕ). l ++ part) w.opens.idle.written

  front : (result : Result ⊤ Failed) → PutsText run.tells w.created (run.after Made) text result → MadeStands run
  front result puts t =
      let part = puts.front t in
      inr (is_for.front t part.1 (part.3 ∙ ap (λ (l : List ℕ). l ++ part.1) (sym (from_empty part.0 part.2))))

  go : (result : Result ⊤ Failed) → PutsText run.tells w.created (run.after Made) text result → run.status ≡ status_of_written result
      → Core run
  go (Ok x) puts ends =
      ending run is_for (ended_done run.status ends) (due run ends tt)
      (λ e. is_for.whole (λ t. from_empty text (puts.done t refl)) (λ t. puts.flushed t refl))
      (front (Ok x) puts) (λ e. absurd (fault_not_done e ends)) (λ unharmed. inl ends)
  go (Err e) puts ends =
      let failed : HasFault run Made = rose_since w.opens.faults.no_less (puts.fault refl) in
      ending run is_for (ended_fault run.status ends) (due run ends tt) (λ d. absurd (fault_not_done ends d))
      (front (Err e) puts) (λ _. failed) (λ unharmed. absurd (unharmed.1 (Made, inl tt, failed)))

write_text : (run : Run) {file text : List ℕ} → IsFor run text
    → CameToWrite run.tells (run.before Made) (run.after Made) file text run.status → Core run
write_text run is_for (inl u) = file_uncreated run is_for u
write_text run is_for (inr w) = written run is_for w

-- the board was made
pub made : (run : Run) (task : ToMake) → command run.words ≡ Some (Make task)
    → BoardMade run.tells (streams_of run.before) (streams_of run.after) task run.status → Core run
made run task gives b = write_text run is_for b.came where
  is_for : IsFor run (made_text task.part task.size)
  is_for = record {
    asked = Make task;
    gives = gives;
    file = task.file;
    named = refl;
    proof = b.proof;
    out = b.out;
    front = λ t rest front. inl (record { task = task; given = gives; rest = rest; front = front });
    whole = λ all flushed. inl (task, record { given = gives; written = all; flushed = flushed });
    accepted = λ t. inr (inr (inl (task, gives)));
    complete = make_complete run task gives;
  }

-- the order was made
pub arranged : (run : Run) (task : ToOrder) → command run.words ≡ Some (Arrange task)
    → Arranged run.tells (streams_of run.before) (streams_of run.after) run.files task run.status → Core run
arranged run task gives a = write_text run is_for a.came where
  asks : IsTrue run.tells → AsksOver run (Arrange task) (formula a.problem)
  asks = took run (Arrange task) task.file a.problem gives refl a.takes

  is_for : IsFor run (order_line a.order)
  is_for = record {
    asked = Arrange task;
    gives = gives;
    file = task.out;
    named = refl;
    proof = a.alone.proof;
    out = a.alone.out;
    front = λ t rest front. inr (inl (record {
      task = task;
      problem = a.problem;
      asks = asks t;
      order = a.order;
      ordered = a.ordered;
      rest = rest;
      front = front;
    }));
    whole = λ all flushed. inr (
      task,
      record {
        given = gives;
        shown = λ t. record { problem = a.problem; asks = asks t; order = a.order; ordered = a.ordered; written = all t };
        flushed = flushed;
      },
    );
    accepted = λ t. inr (inr (inr (inl (task, a.problem, asks t))));
    complete = arrange_complete run task gives asks;
  }
