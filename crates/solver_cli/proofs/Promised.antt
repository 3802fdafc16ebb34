-- From how far a run came to what is promised of it.
use Rattle.std.proofs.Common.{◌≡◌, Bool, true, false, [], refl, sym, ap, ◌∙◌, subst, Some, IsTrue, inl, inr, true≢false}
use Rattle.std.specs.Prelude.{◌⊎◌, ◌≢◌}
use Rattle.host_io.specs.Channel.{Channel}
use Rattle.host_io.specs.declared.role.Role.{Role}
use Rattle.host_io.specs.declared.role.Role.TheVariants.{Cnf, Order, Buckets, Schedule, ProofIn, Cubes, ProofOut, Made, Out, Err as ErrRole}
use Rattle.text_scan.specs.Decides.{gained, gained-none}
use Rattle.solver_cli.specs.declared.status.Status.{Status}
use Rattle.solver_cli.specs.declared.status.Status.TheVariants.{Sat, Unsat, Unknown, Answered, Verified, NotVerified, Done, Help, Usage}
use Rattle.solver_cli.specs.declared.status.Status.TheVariants.{CnfRefused}
use Rattle.solver_cli.specs.declared.status.Status.TheVariants.{OrderRefused, BucketsRefused, PlanRefused, CubeRefused, TooLong}
use Rattle.solver_cli.specs.declared.status.Status.TheVariants.{ReadFault, WriteFault}
use Rattle.solver_cli.specs.declared.status.Status.TheVariants.{OutOfMemory}
use Rattle.command_line.specs.Command.{Command, AsksHelp, Misuse, command}
use Rattle.solver_cli.specs.ErrorText.{is_answer}
use Rattle.solver_cli.specs.Stages.{Streams, streams_of, Misused}
use Rattle.solver_cli.specs.Headline.{UnsatisfiableIsProved, SatisfiableIsTrue, LimitsAreReached, CubesAreAnswered, IsIdle}
use Rattle.solver_cli.specs.Headline.{MemoryIsWanted, VerdictIsTrue}
use Rattle.solver_cli.specs.Headline.{TextIsMade, MadeStands, IsDue, RefusalsAreDue, OutputStands, WrittenStands, CallsFor, IsComplete}
use Rattle.solver_cli.specs.Run.{Run, written_in, taken_in, InputFailed, GivesMake}
use Rattle.solver_cli.specs.Faults.{NamedInputFailed, IsStillOpen, ConvertsAsItReads, FaultsAreCounted}
use Rattle.solver_cli.proofs.Facts.{behind, grown_by, nothing_more, no_answer, not_unasked, no_misuse, only_misuse, only_help}
use Rattle.solver_cli.proofs.CallsFor.{one_call, no_call, no_call_arranged, no_call_asked, no_call_judged, calls_give}

-- after a read fault no role but standard error gained a byte, but for a proof that was being converted
abbrev pub QuietAtFaults : Run → Type 0
QuietAtFaults run = run.status ≡ ReadFault → IsTrue run.tells → (role : Role) → role ≢ ErrRole → (written_in run role ≡ [])
    ⊎ ((role ≡ ProofOut) × ConvertsAsItReads run)

-- The promises on streams and statuses, without names, files and standard error, and without what was written by other roles.
pub record Core (run : Run) : Type 0 where
  pub unsatisfiable : UnsatisfiableIsProved run
  pub satisfiable : SatisfiableIsTrue run
  pub undecided : LimitsAreReached run
  pub answered : CubesAreAnswered run
  pub verdict : VerdictIsTrue run
  pub made : TextIsMade run
  pub made_file : MadeStands run
  pub refusals : RefusalsAreDue run
  pub faults : QuietAtFaults run → FaultsAreCounted run
  pub output : OutputStands run
  pub proof : WrittenStands run
  pub complete : IsComplete run

-- what is due by the status with which a run ends
pub due : (run : Run) {status : Status} → run.status ≡ status → IsDue run status → RefusalsAreDue run
due run ends is = subst (λ (s : Status). IsDue run s) (sym ends) is

pub quiet_output : (run : Run) → is_answer run.status ≡ false → (run.status ≡ Help → ⊥) → (run.after Out).written ≡ (run.before Out).written
    → OutputStands run
quiet_output run unanswered unhelped same =
    let none : written_in run Out ≡ [] = behind (run.before Out) (run.after Out) [] (nothing_more (run.before Out) (run.after Out) same) in
    record {
      grows = λ t. grown_by (run.before Out) (run.after Out) [] (nothing_more (run.before Out) (run.after Out) same);
      front = λ t. inl none;
      answered = λ answers. absurd (true≢false (sym answers ∙ unanswered));
      helped = λ e. absurd (unhelped e);
      flushed = λ either. elim either [ inl answers ↦ absurd (true≢false (sym answers ∙ unanswered)) | inr e ↦ absurd (unhelped e) ];
      silent = λ _ _ _ t. none;
    }

pub no_verdict : (run : Run) → is_answer run.status ≡ false → VerdictIsTrue run
no_verdict run unanswered = record {
  verified = λ e. absurd (no_answer unanswered refl e);
  not_verified = λ line reason e. absurd (no_answer unanswered refl e);
}

pub no_proof : (run : Run) → written_in run ProofOut ≡ [] → WrittenStands run
no_proof run none = record {
  converted = λ _. record { so_far = λ t. inl none; whole = λ _ t. inl none };
  trimmed = λ _. record { so_far = λ t. inl none; whole = λ _ t. inl none };
  asked = λ _. record { so_far = λ t. inl none; whole = λ _ t. inl none; price = λ t. inl none };
  proved = λ _ _ _. record { so_far = λ t. inl none; whole = λ _ t. inl none; price = λ t. inl none };
}

out_of : {old new : Streams} → new ≡ old → new.out ≡ old.out
out_of same = ap (λ (s : Streams). s.out) same

proof_of : {old new : Streams} → new ≡ old → new.proof ≡ old.proof
proof_of same = ap (λ (s : Streams). s.proof) same

pub same_written : {old new : Channel} → new ≡ old → new.written ≡ old.written
same_written same = ap (λ (c : Channel). c.written) same

pub none_written : (run : Run) (role : Role) → run.after role ≡ run.before role → written_in run role ≡ []
none_written run role same = behind (run.before role) (run.after role) []
    (nothing_more (run.before role) (run.after role) (same_written same))

-- no proof was written
pub left_proof : (run : Run) → run.after ProofOut ≡ run.before ProofOut → WrittenStands run
left_proof run same = no_proof run (none_written run ProofOut same)

-- no text was made
pub no_text : (run : Run) → run.after Made ≡ run.before Made → MadeStands run
no_text run same = λ t. inl (none_written run Made same)

-- statuses of a run that did nothing for its words
record Undone (status : Status) : Type 0 where
  pub unanswered : is_answer status ≡ false
  pub done : status ≡ Done → ⊥
  pub help : status ≡ Help → ⊥
  pub read : status ≡ ReadFault → ⊥
  pub write : status ≡ WriteFault → ⊥

undone_usage : (status : Status) → status ≡ Usage → Undone status
undone_usage status is = record { unanswered = ap is_answer is; done = λ e. cc; help = λ e. cc; read = λ e. cc; write = λ e. cc }

undone_memory : (status : Status) → status ≡ OutOfMemory → Undone status
undone_memory status is = record { unanswered = ap is_answer is; done = λ e. cc; help = λ e. cc; read = λ e. cc; write = λ e. cc }

-- no stream that a run serves changed
pub idle : (run : Run) → streams_of run.after ≡ streams_of run.before → IsIdle run
idle run same = each where
  each : (role : Role) → role ≢ ErrRole → run.after role ≡ run.before role
  each Cnf other = ap (λ (s : Streams). s.cnf) same
  each Order other = ap (λ (s : Streams). s.order) same
  each Buckets other = ap (λ (s : Streams). s.buckets) same
  each Schedule other = ap (λ (s : Streams). s.schedule) same
  each ProofIn other = ap (λ (s : Streams). s.judged) same
  each Cubes other = ap (λ (s : Streams). s.cubes) same
  each ProofOut other = ap (λ (s : Streams). s.proof) same
  each Made other = ap (λ (s : Streams). s.made) same
  each Out other = ap (λ (s : Streams). s.out) same
  each ErrRole other = absurd (other refl)

-- the words may be faulty, or memory ran out
pub misused : (run : Run) → Misused run.words (streams_of run.before) (streams_of run.after) run.status → Core run
misused run m =
    let undone : Undone run.status = elim m.ends [
      | inl faulty ↦ undone_usage run.status faulty.0
      | inr memory ↦
          undone_memory run.status memory
    ] in
    record {
      unsatisfiable = λ e. absurd (no_answer undone.unanswered refl e);
      satisfiable = λ e. absurd (no_answer undone.unanswered refl e);
      undecided = λ why e. absurd (no_answer undone.unanswered refl e);
      answered = λ e. absurd (no_answer undone.unanswered refl e);
      verdict = no_verdict run undone.unanswered;
      made = λ e. absurd (undone.done e);
      made_file = no_text run (ap (λ (s : Streams). s.made) m.same);
      refusals = elim m.ends [ inl faulty ↦ due run faulty.0 faulty.1 | inr memory ↦ due run memory (inl (idle run m.same)) ];
      faults = λ quiet. record {
        read = λ e. absurd (undone.read e);
        named = λ e. absurd (undone.read e);
        undecided = λ e. absurd (undone.read e);
        quiet = quiet;
        write = λ e. absurd (undone.write e);
        created = λ e. absurd (undone.write e);
        accepted = λ e. absurd (undone.write e);
      };
      output = quiet_output run undone.unanswered undone.help (same_written (out_of m.same));
      proof = no_proof run (none_written run ProofOut (proof_of m.same));
      complete = record {
        misused = λ only. elim m.ends [ inl faulty ↦ inl faulty.0 | inr memory ↦ inr memory ];
        helped = λ only _. elim m.ends [ inl faulty ↦ absurd (no_wish (only Misuse faulty.1)) | inr memory ↦ inr memory ];
        unasked = λ _ _. elim m.ends [ inl faulty ↦ inl faulty.0 | inr memory ↦ inr (inr memory) ];
        answers = λ problem asked t unharmed. elim m.ends [
          | inl faulty ↦ absurd
              (no_misuse run.words asked.by.command faulty.1)
          | inr memory ↦ inr memory
        ];
        replies = λ problem order cubes asked t unharmed. elim m.ends [
          | inl faulty ↦ absurd
              (no_misuse run.words asked.asks.command faulty.1)
          | inr memory ↦ inr memory
        ];
        judges = λ problem bytes judged has t unharmed. elim m.ends [
          | inl faulty ↦ absurd
              (no_misuse run.words has.asked.asks.command faulty.1)
          | inr memory ↦ inr memory
        ];
        makes = λ given unharmed. elim m.ends [ inl faulty ↦ absurd (no_misuse run.words given.1 faulty.1) | inr memory ↦ inr memory ];
        arranges = λ task problem asks t unharmed. elim m.ends [
          | inl faulty ↦ absurd
              (no_misuse run.words asks.command faulty.1)
          | inr memory ↦ inr memory
        ];
        refuses = λ status calls t unfailed _. elim m.ends [
          | inl faulty ↦ absurd
              (no_misuse run.words (calls_give run status calls).1 faulty.1)
          | inr memory ↦ inr memory
        ];
      };
    } where
      no_wish : Misuse ≡ AsksHelp → ⊥
      no_wish e = cc

-- A run that a text, a read fault or want of memory ended before the proof's file.

abbrev pub stops : Status → Bool
stops Sat = false
stops Unsat = false
stops (Unknown why) = false
stops Answered = false
stops Verified = false
stops (NotVerified line reason) = false
stops Done = false
stops Help = false
stops Usage = false
stops (CnfRefused kind line) = true
stops (OrderRefused kind line) = true
stops (BucketsRefused kind line) = true
stops (PlanRefused kind line) = true
stops (CubeRefused kind line) = true
stops (TooLong role) = true
stops ReadFault = true
stops WriteFault = false
stops OutOfMemory = true

-- its status is no other
pub record Stops (status : Status) : Type 0 where
  pub unanswered : is_answer status ≡ false
  pub done : status ≡ Done → ⊥
  pub help : status ≡ Help → ⊥
  pub write : status ≡ WriteFault → ⊥

by_stop : (status : Status) → stops status ≡ true → Stops status
by_stop Sat is = cc
by_stop Unsat is = cc
by_stop (Unknown why) is = cc
by_stop Answered is = cc
by_stop Verified is = cc
by_stop (NotVerified line reason) is = cc
by_stop Done is = cc
by_stop Help is = cc
by_stop Usage is = cc
by_stop (CnfRefused kind line) is = record { unanswered = refl; done = λ e. cc; help = λ e. cc; write = λ e. cc }
by_stop (OrderRefused kind line) is = record { unanswered = refl; done = λ e. cc; help = λ e. cc; write = λ e. cc }
by_stop (BucketsRefused kind line) is = record { unanswered = refl; done = λ e. cc; help = λ e. cc; write = λ e. cc }
by_stop (PlanRefused kind line) is = record { unanswered = refl; done = λ e. cc; help = λ e. cc; write = λ e. cc }
by_stop (CubeRefused kind line) is = record { unanswered = refl; done = λ e. cc; help = λ e. cc; write = λ e. cc }
by_stop (TooLong role) is = record { unanswered = refl; done = λ e. cc; help = λ e. cc; write = λ e. cc }
by_stop ReadFault is = record { unanswered = refl; done = λ e. cc; help = λ e. cc; write = λ e. cc }
by_stop WriteFault is = cc
by_stop OutOfMemory is = record { unanswered = refl; done = λ e. cc; help = λ e. cc; write = λ e. cc }

-- a refusal that is due is called for, where the host tells its bytes
calls_due : (run : Run) (status : Status) → stops status ≡ true → IsDue run status → IsTrue run.tells → (status ≡ ReadFault)
    ⊎ ((status ≡ OutOfMemory) ⊎ CallsFor run status)
calls_due run Sat is d t = cc
calls_due run Unsat is d t = cc
calls_due run (Unknown why) is d t = cc
calls_due run Answered is d t = cc
calls_due run Verified is d t = cc
calls_due run (NotVerified line reason) is d t = cc
calls_due run Done is d t = cc
calls_due run Help is d t = cc
calls_due run Usage is d t = cc
calls_due run (CnfRefused kind line) is d t = let by = d.1 t in inr (inr (by.asked, by.asks))
calls_due run (OrderRefused kind line) is d t = let by = d.1 t in inr (inr (by.problem, by.asks))
calls_due run (BucketsRefused kind line) is d t = let by = d.1 t in inr (inr (by.problem, by.asks))
calls_due run (PlanRefused kind line) is d t = let by = d.1 t in inr (inr (by.problem, by.asks))
calls_due run (CubeRefused kind line) is d t = let by = d.1 t in inr (inr (by.problem, by.order, by.asks))
calls_due run (TooLong Cnf) is d t = let by = d.1 t in inr (inr (by.asked, by.asks))
calls_due run (TooLong Order) is d t = let by = d.1 t in inr (inr (by.problem, by.asks))
calls_due run (TooLong Buckets) is d t = let by = d.1 t in inr (inr (by.problem, by.asks))
calls_due run (TooLong Schedule) is d t = let by = d.1 t in inr (inr (by.problem, by.asks))
calls_due run (TooLong ProofIn) is d t = let by = d.1 t in inr (inr (by.problem, by.bytes, by.asked, by.judged))
calls_due run (TooLong Cubes) is d t = let by = d.1 t in inr (inr (by.problem, by.order, by.asks))
calls_due run (TooLong ProofOut) is d t = absurd d
calls_due run (TooLong Made) is d t = absurd d
calls_due run (TooLong Out) is d t = absurd d
calls_due run (TooLong ErrRole) is d t = absurd d
calls_due run ReadFault is d t = inl refl
calls_due run WriteFault is d t = cc
calls_due run OutOfMemory is d t = inr (inl refl)

stopped_complete : (run : Run) (asked : Command) → command run.words ≡ Some asked → (GivesMake run → run.status ≡ OutOfMemory)
    → stops run.status ≡ true → IsDue run run.status → (run.status ≡ ReadFault → InputFailed run) → IsComplete run
stopped_complete run asked gives makes halts is failed = record {
  misused = λ only. absurd (only_misuse run.words gives only);
  helped = λ only _. absurd (only_help run.words gives only);
  unasked = λ none _. absurd (not_unasked gives none);
  answers = λ problem asks t unharmed. inr (memory t unharmed.0 (no_call run problem asks run.status));
  replies = λ problem order cubes asks t unharmed. inr (memory t unharmed.0 (no_call_asked run problem order cubes asks run.status));
  judges = λ problem bytes judged has t unharmed. inr (memory t unharmed.0 (no_call_judged run problem bytes judged has run.status));
  makes = λ given unharmed. inr (makes given);
  arranges = λ task problem asks t unharmed. inr (memory t unharmed.0 (no_call_arranged run task problem asks run.status));
  refuses = λ status calls t unfailed _. elim (calls_due run run.status halts is t) [
    | inl fault ↦ absurd (unfailed (failed fault))
    | inr more ↦ elim more [ inl wanted ↦ inr wanted | inr called ↦ inl (one_call run run.status status called calls) ]
  ];
} where
  memory : IsTrue run.tells → (InputFailed run → ⊥) → (CallsFor run run.status → ⊥) → run.status ≡ OutOfMemory
  memory t unfailed uncalled = elim (calls_due run run.status halts is t) [
    | inl fault ↦ absurd (unfailed (failed fault))
    | inr more ↦ elim more [ inl wanted ↦ wanted | inr called ↦ absurd (uncalled called) ]
  ]

-- no text was made and nothing printed, and a text is made only where memory ran out
pub record LeftAlone (run : Run) (status : Status) : Type 0 where
  pub proof : WrittenStands run
  pub made : run.after Made ≡ run.before Made
  pub out : run.after Out ≡ run.before Out
  pub makes : GivesMake run → status ≡ OutOfMemory

input_failed : (run : Run) → NamedInputFailed run → InputFailed run
input_failed run failed = (failed.0, failed.1, failed.2)

stopped : (run : Run) (asked : Command) → command run.words ≡ Some asked → LeftAlone run run.status
    → stops run.status ≡ true → IsDue run run.status
    → (run.status ≡ ReadFault → NamedInputFailed run × (IsTrue run.tells → IsStillOpen run))
    → Core run
stopped run asked gives alone halts is fault =
    let ends : Stops run.status = by_stop run.status halts in
    record {
      unsatisfiable = λ e. absurd (no_answer ends.unanswered refl e);
      satisfiable = λ e. absurd (no_answer ends.unanswered refl e);
      undecided = λ why e. absurd (no_answer ends.unanswered refl e);
      answered = λ e. absurd (no_answer ends.unanswered refl e);
      verdict = no_verdict run ends.unanswered;
      made = λ e. absurd (ends.done e);
      made_file = no_text run alone.made;
      refusals = is;
      faults = λ quiet. record {
        read = λ e. ((asked, gives), input_failed run (fault e).0);
        named = λ e. (fault e).0;
        undecided = λ e t. (fault e).1 t;
        quiet = quiet;
        write = λ e. absurd (ends.write e);
        created = λ e. absurd (ends.write e);
        accepted = λ e. absurd (ends.write e);
      };
      output = quiet_output run ends.unanswered ends.help (same_written alone.out);
      proof = alone.proof;
      complete = stopped_complete run asked gives alone.makes halts is (λ e. input_failed run (fault e).0);
    }

-- the same of another status that is this one
alone_at : (run : Run) {status : Status} → run.status ≡ status → LeftAlone run status → LeftAlone run run.status
alone_at run ends alone = subst (λ (s : Status). LeftAlone run s) (sym ends) alone

-- by the status itself: a refusal that is due, want of memory, or a read fault
pub refused : (run : Run) (asked : Command) {status : Status} → command run.words ≡ Some asked → LeftAlone run status
    → run.status ≡ status → stops status ≡ true → (status ≡ ReadFault → ⊥) → IsDue run status → Core run
refused run asked gives alone ends halts no_fault is = stopped run asked gives (alone_at run ends alone) (ap stops ends
    ∙ halts) (due run ends is) (λ e. absurd (no_fault (sym ends ∙ e)))

pub short : (run : Run) (asked : Command) → command run.words ≡ Some asked → LeftAlone run OutOfMemory → MemoryIsWanted run
    → run.status ≡ OutOfMemory → Core run
short run asked gives alone wanted ends = refused run asked gives alone ends refl (λ e. cc) wanted

pub unread : (run : Run) (asked : Command) → command run.words ≡ Some asked → LeftAlone run ReadFault
    → run.status ≡ ReadFault → NamedInputFailed run → (IsTrue run.tells → IsStillOpen run) → Core run
unread run asked gives alone ends failed is_open = stopped run asked gives (alone_at run ends alone) (ap stops ends) (due run ends tt)
    (λ _. (failed, is_open))

-- none was taken of a file that was left alone
pub untouched : (run : Run) (role : Role) → run.after role ≡ run.before role → taken_in run role ≡ []
untouched run role same = ap (gained (run.before role)) same ∙ gained-none (run.before role)
