-- What is promised of a run whose words ask for help.
use Rattle.std.proofs.Common.{◌≡◌, ℕ, false, List, [], ◌++◌, length, append-nil, refl, sym, ap, ◌∙◌, Ok, Err, IsTrue, inl, inr, true≢false}
use Rattle.std.specs.Prelude.{Result, ⊤, ◌⊎◌, ◌≢◌}
use Rattle.host_io.specs.declared.role.Role.TheVariants.{ProofOut, Out}
use Rattle.host_io.specs.declared.source.Failed.{Failed}
use Rattle.solver_cli.specs.declared.status.Status.{Status}
use Rattle.solver_cli.specs.declared.status.Status.TheVariants.{Done, Help, ReadFault, WriteFault, OutOfMemory}
use Rattle.command_line.specs.Command.{AsksHelp, Misuse}
use Rattle.solver_cli.specs.ErrorText.{is_answer}
use Rattle.solver_cli.specs.Phases.{PutsText}
use Rattle.solver_cli.specs.Stages.{streams_of, Helped, status_of_help}
use Rattle.solver_cli.specs.Headline.{RefusalsAreDue, IsHelp}
use Rattle.solver_cli.specs.Run.{Run, written_in, HasFault}
use Rattle.solver_cli.proofs.Facts.{behind, grown_by, no_answer, no_help}
use Rattle.solver_cli.proofs.CallsFor.{calls_give}
use Rattle.solver_cli.proofs.Promised.{Core, due, no_proof, no_text, no_verdict, none_written}

-- statuses that showing help ends with: help itself, or a failed write
record Shown (status : Status) : Type 0 where
  pub unanswered : is_answer status ≡ false
  pub done : status ≡ Done → ⊥
  pub read : status ≡ ReadFault → ⊥

shown_help : (status : Status) → status ≡ Help → Shown status
shown_help status is = record { unanswered = ap is_answer is; done = λ e. cc; read = λ e. cc }

shown_fault : (status : Status) → status ≡ WriteFault → Shown status
shown_fault status is = record { unanswered = ap is_answer is; done = λ e. cc; read = λ e. cc }

pub helped : (run : Run) → Helped run.tells run.words (streams_of run.before) (streams_of run.after) run.status → Core run
helped run h = go h.shows.printed h.shows.puts h.shows.ends where
  grows : (printed : Result ⊤ Failed) → PutsText run.tells (run.before Out) (run.after Out) h.shows.text printed → IsTrue run.tells
      → (run.after Out).written ≡ (run.before Out).written ++ written_in run Out
  grows printed puts t = let front = puts.front t in grown_by (run.before Out) (run.after Out) front.0 front.2

  fronts : (printed : Result ⊤ Failed) → PutsText run.tells (run.before Out) (run.after Out) h.shows.text printed → IsTrue run.tells
      → IsHelp run
  fronts printed puts t = let front = puts.front t in record {
    due = h.due;
    text = h.shows.text;
    rest = front.1;
    front = front.3 ∙ ap (λ (l : List ℕ). l ++ front.1) (sym (behind (run.before Out) (run.after Out) front.0 front.2));
  }

  no_wish : AsksHelp ≡ Misuse → ⊥
  no_wish e = cc

  core : (printed : Result ⊤ Failed) → PutsText run.tells (run.before Out) (run.after Out) h.shows.text printed → Shown run.status
      → RefusalsAreDue run
      → (run.status ≡ WriteFault → HasFault run Out)
      → (run.status ≡ Help → IsTrue run.tells → (help : IsHelp run) × (help.rest ≡ []))
      → (run.status ≡ Help → IsTrue run.tells → (run.after Out).flushed ≡ length (run.after Out).written)
      → (run.status ≢ Help → run.status ≢ WriteFault → ⊥)
      → ((HasFault run Out → ⊥) → (run.status ≡ Help) ⊎ (run.status ≡ OutOfMemory)) → Core run
  core printed puts shown is_due rose whole flushed either_one complete = record {
    unsatisfiable = λ e. absurd (no_answer shown.unanswered refl e);
    satisfiable = λ e. absurd (no_answer shown.unanswered refl e);
    undecided = λ why e. absurd (no_answer shown.unanswered refl e);
    answered = λ e. absurd (no_answer shown.unanswered refl e);
    verdict = no_verdict run shown.unanswered;
    made = λ e. absurd (shown.done e);
    made_file = no_text run h.made;
    refusals = is_due;
    faults = λ quiet. record {
      read = λ e. absurd (shown.read e);
      named = λ e. absurd (shown.read e);
      undecided = λ e. absurd (shown.read e);
      quiet = quiet;
      write = λ e. (Out, inr refl, rose e);
      created = λ e. inl (rose e);
      accepted = λ e. inl h.due;
    };
    output = record {
      grows = grows printed puts;
      front = λ t. inr (inr (fronts printed puts t));
      answered = λ answers. absurd (true≢false (sym answers ∙ shown.unanswered));
      helped = whole;
      flushed = λ either. elim either [ inl answers ↦ absurd (true≢false (sym answers ∙ shown.unanswered)) | inr e ↦ flushed e ];
      silent = λ _ unhelped unfaulted. absurd (either_one unhelped unfaulted);
    };
    proof = no_proof run (none_written run ProofOut h.proof);
    complete = record {
      misused = λ only. absurd (no_wish (only AsksHelp h.due));
      helped = λ only faultless. complete faultless;
      unasked = λ _ faultless. inr (complete faultless);
      answers = λ problem asked. absurd (no_help run.words asked.by.command h.due);
      replies = λ problem order cubes asked. absurd (no_help run.words asked.asks.command h.due);
      judges = λ problem bytes judged has. absurd (no_help run.words has.asked.asks.command h.due);
      makes = λ given. absurd (no_help run.words given.1 h.due);
      arranges = λ task problem asks. absurd (no_help run.words asks.command h.due);
      refuses = λ status calls. absurd (no_help run.words (calls_give run status calls).1 h.due);
    };
  }

  go : (printed : Result ⊤ Failed) → PutsText run.tells (run.before Out) (run.after Out) h.shows.text printed → run.status
      ≡ status_of_help printed → Core run
  go (Ok x) puts ends =
      let all : IsTrue run.tells → written_in run Out ≡ h.shows.text = λ t. behind (run.before Out) (run.after Out) h.shows.text
      (puts.done t refl) in
      core (Ok x) puts (shown_help run.status ends) (due run ends h.due) (λ e. absurd (apart ends e))
      (λ e t. (record { due = h.due; text = h.shows.text; rest = []; front = sym (all t) ∙ sym (append-nil (written_in run Out)) }, refl))
      (λ e t. puts.flushed t refl) (λ unhelped _. unhelped ends) (λ faultless. inl ends) where
        apart : {status : Status} → status ≡ Help → status ≡ WriteFault → ⊥
        apart d e = cc
  go (Err e) puts ends =
      let rose : HasFault run Out = puts.fault refl in
      core (Err e) puts (shown_fault run.status ends) (due run ends tt) (λ _. rose) (λ d. absurd (apart ends d))
      (λ d. absurd (apart ends d)) (λ _ unfaulted. unfaulted ends) (λ faultless. absurd (faultless rose)) where
        apart : {status : Status} → status ≡ WriteFault → status ≡ Help → ⊥
        apart d e = cc
