-- What is promised of a run that judged its proof.
use Rattle.std.proofs.Common.{◌≡◌, ℕ, true, false, List, [], ◌++◌, append-nil, refl, sym, ap, ◌∙◌, subst, Some, Ok, Err, IsTrue, inl, inr}
use Rattle.std.proofs.Common.{true≢false}
use Rattle.std.specs.Prelude.{Option, Result, ⊤}
use Rattle.cnf_base.specs.Formula.{Formula}
use Rattle.host_io.specs.declared.role.Role.TheVariants.{ProofIn, Out}
use Rattle.host_io.specs.declared.source.Failed.{Failed}
use Rattle.answer_text.specs.Status.{verified_line}
use Rattle.lrat_rules.specs.declared.outcome.Reason.{Reason}
use Rattle.proof_judging.specs.declared.verdict.Verdict.{Verdict}
use Rattle.proof_judging.specs.declared.verdict.Verdict.TheVariants as judgement
use Rattle.proof_judging.specs.declared.verdict.CheckError.{CheckError}
use Rattle.proof_judging.specs.declared.verdict.CheckError.TheVariants as error
use Rattle.solver_cli.specs.declared.status.Status.{Status}
use Rattle.solver_cli.specs.declared.status.Status.TheVariants.{Sat, Unsat, Unknown, Verified, NotVerified, Done, WriteFault}
use Rattle.solver_cli.specs.declared.status.Why.{Why}
use Rattle.solver_cli.specs.ErrorText.{is_answer}
use Rattle.solver_cli.specs.Verdict.{verdict_text, verified_text, status_of_verdict}
use Rattle.solver_cli.specs.Phases.{JudgesProof, JudgesText, PutsText}
use Rattle.solver_cli.specs.Stages.{status_of_printed}
use Rattle.command_line.specs.Command.{Command, command, format_of}
use Rattle.solver_cli.specs.Headline.{RefusalsAreDue, CallsFor, VerdictOn, IsTrueAnswer}
use Rattle.solver_cli.specs.Run.{Run, written_in, taken_in, verdict_text_for, OutputFailed, HasVerdict, GivesConversion, GivesTrimming}
use Rattle.solver_cli.specs.Run.{IsConverted, IsTrimmed}
use Rattle.solver_cli.proofs.Facts.{behind, grown_by, no_answer}
use Rattle.solver_cli.proofs.CallsFor.{no_call_judged}
use Rattle.solver_cli.proofs.Promised.{Core, due, no_verdict}
use Rattle.solver_cli.proofs.Accepted.{Accepts, accepts_write}
use Rattle.solver_cli.proofs.VerdictLaws.{Laws}
use Rattle.solver_cli.proofs.Unjudged.{Judging, one_verdict, one_some, check_complete}

-- statuses of verdicts

answers : (judged : Verdict) → is_answer (status_of_verdict judged) ≡ true
answers judgement.Verified = refl
answers (judgement.Refused line reason) = refl

no_write : (judged : Verdict) → status_of_verdict judged ≡ WriteFault → ⊥
no_write judgement.Verified e = cc
no_write (judgement.Refused line reason) e = cc

pub accepts_verdict : (status : Status) (judged : Verdict) → status ≡ status_of_verdict judged → Accepts status
accepts_verdict status judgement.Verified is = record { help = λ e. cc; read = λ e. cc; done = λ e. cc; answered = λ e. cc }
accepts_verdict status (judgement.Refused line reason) is = record { help = λ e. cc; read = λ e. cc; done = λ e. cc; answered = λ e. cc }

record Undecided (status : Status) : Type 0 where
  pub unsat : status ≡ Unsat → ⊥
  pub done : status ≡ Done → ⊥
  pub sat : status ≡ Sat → ⊥
  pub unknown : (why : Why) → status ≡ Unknown why → ⊥

undecided_by : (status : Status) (judged : Verdict) → status ≡ status_of_verdict judged → Undecided status
undecided_by status judgement.Verified is = record { unsat = λ e. cc; done = λ e. cc; sat = λ e. cc; unknown = λ why e. cc }
undecided_by status (judgement.Refused line reason) is = record { unsat = λ e. cc; done = λ e. cc; sat = λ e. cc; unknown = λ why e. cc }

is_verified : (judged : Verdict) → status_of_verdict judged ≡ Verified → judged ≡ judgement.Verified
is_verified judgement.Verified e = refl
is_verified (judgement.Refused line reason) e = cc

is_refused : (judged : Verdict) (line : ℕ) (reason : Reason) → status_of_verdict judged ≡ NotVerified line reason → judged
    ≡ judgement.Refused line reason
is_refused judgement.Verified line reason e = cc
is_refused (judgement.Refused number why) line reason e = inner e where
  inner : NotVerified number why ≡ NotVerified line reason → judgement.Refused number why ≡ judgement.Refused line reason
  inner e = cc

-- no refusal is due of a verdict
verdict_due : (run : Run) (judged : Verdict) → run.status ≡ status_of_verdict judged → RefusalsAreDue run
verdict_due run judgement.Verified ends = due run ends tt
verdict_due run (judgement.Refused line reason) ends = due run ends tt

-- the other proof that was written, where the words ask for one
pub record Rewritten (run : Run) (problem : Formula) (bytes : List ℕ) (verdict : Verdict) : Type 0 where
  pub converted : (given : GivesConversion run) → IsConverted run given.0.into problem bytes verdict
  pub trimmed : verdict ≡ judgement.Verified → GivesTrimming run → IsTrimmed run problem bytes

-- a command that prints no more than the verdict
pub plainly : (run : Run) (problem : Formula) (bytes : List ℕ) {asked : Command} → command run.words ≡ Some asked
    → verified_text (Some asked) problem.clauses bytes ≡ verified_line → (verdict : Verdict)
    → verdict_text verdict ≡ verdict_text_for run problem bytes verdict
plainly run problem bytes gives plain judgement.Verified =
    sym (ap (λ (c : Option Command). verified_text c problem.clauses bytes) gives ∙ plain)
plainly run problem bytes gives plain (judgement.Refused line reason) = refl

-- the proof was judged, and what it becomes was written where that is asked for
pub judged : Laws → (run : Run) {problem : Formula} (j : Judging run problem) (verdict : Verdict)
    → JudgesProof (format_of j.asked) run.tells (run.before ProofIn) (run.after ProofIn) run.files j.file problem.clauses (Ok verdict)
    → (IsTrue run.tells → (bytes : List ℕ) → run.texts j.file ≡ Some bytes → Rewritten run problem bytes verdict)
    → {text : List ℕ} → (IsTrue run.tells → (bytes : List ℕ) → run.texts j.file ≡ Some bytes
    → text ≡ verdict_text_for run problem bytes verdict)
    → (printed : Result ⊤ Failed) → PutsText run.tells (run.before Out) (run.after Out) text printed
    → run.status ≡ status_of_printed verdict printed → Core run
judged laws run {problem = problem} j verdict judges rewrites {text = text} says = go where
  no_fault : (v : Verdict) → ◌≡◌ {A = Result Verdict CheckError} (Ok v) (Err error.ReadFault) → ⊥
  no_fault v e = cc

  judged_text : IsTrue run.tells → JudgesText (format_of j.asked) run.texts j.file problem.clauses (taken_in run ProofIn) (Ok verdict)
  judged_text t = elim (judges.read t) [ inl e ↦ absurd (no_fault verdict e) | inr found ↦ found run.texts (run.fits ProofIn tt j.file) ]

  has : (t : IsTrue run.tells) → HasVerdict run problem (judged_text t).bytes verdict
  has t = let found = judged_text t in record {
    asked = record { asked = j.asked; asks = j.read t; file = j.file; named = j.named; stands = found.stands };
    judged = found.judged;
  }

  has_as : (t : IsTrue run.tells) (v : Verdict) → verdict ≡ v → HasVerdict run problem (judged_text t).bytes v
  has_as t v is = record { asked = (has t).asked; judged = (has t).judged ∙ ap (λ (x : Verdict). Some x) is }

  same_verdict : (other : Formula) (bytes : List ℕ) (v : Verdict) → HasVerdict run other bytes v → IsTrue run.tells → verdict ≡ v
  same_verdict other bytes v given t = let here = has t in one_some verdict v (one_verdict run given.asked here.asked
      ∙ here.judged) given.judged

  written : (t : IsTrue run.tells) → Rewritten run problem (judged_text t).bytes verdict
  written t = rewrites t (judged_text t).bytes (judged_text t).stands

  same_text : (t : IsTrue run.tells) → text ≡ verdict_text_for run problem (judged_text t).bytes verdict
  same_text t = says t (judged_text t).bytes (judged_text t).stands

  uncalled : IsTrue run.tells → (status : Status) → CallsFor run status → ⊥
  uncalled t = no_call_judged run problem (judged_text t).bytes verdict (has t)

  true_answer : (t : IsTrue run.tells) (rest : List ℕ) → text ≡ written_in run Out ++ rest
      → IsTrueAnswer run (VerdictOn problem (judged_text t).bytes verdict)
  true_answer t rest front = record {
    found = record { has = has t; converted = (written t).converted; trimmed = (written t).trimmed };
    rest = rest;
    front = sym (same_text t) ∙ front;
  }

  grows : (printed : Result ⊤ Failed) → PutsText run.tells (run.before Out) (run.after Out) text printed → IsTrue run.tells
      → (run.after Out).written ≡ (run.before Out).written ++ written_in run Out
  grows printed puts t = let front = puts.front t in grown_by (run.before Out) (run.after Out) front.0 front.2

  fronts : (printed : Result ⊤ Failed) → PutsText run.tells (run.before Out) (run.after Out) text printed → (t : IsTrue run.tells)
      → IsTrueAnswer run (VerdictOn problem (judged_text t).bytes verdict)
  fronts printed puts t = let front = puts.front t in true_answer t front.1 (front.3
      ∙ ap (λ (l : List ℕ). l ++ front.1) (sym (behind (run.before Out) (run.after Out) front.0 front.2)))

  fine : (x : ⊤) → PutsText run.tells (run.before Out) (run.after Out) text (Ok x) → run.status ≡ status_of_verdict verdict → Core run
  fine x puts ends =
      let accepts : Accepts run.status = accepts_verdict run.status verdict ends in
      let undecided : Undecided run.status = undecided_by run.status verdict ends in
      let yes_answer : is_answer run.status ≡ true = ap is_answer ends ∙ answers verdict in
      let all : IsTrue run.tells → written_in run Out ≡ text = λ t. behind (run.before Out) (run.after Out) text (puts.done t refl) in
      record {
        unsatisfiable = λ e. absurd (undecided.unsat e);
        satisfiable = λ e. absurd (undecided.sat e);
        undecided = λ why e. absurd (undecided.unknown why e);
        answered = λ e. absurd (accepts.answered e);
        verdict = record {
          verified = λ e. (
            (j.asked, j.gives, j.file, j.named),
            λ t.
                let is : verdict ≡ judgement.Verified = is_verified verdict (sym ends ∙ e) in
                let verified : HasVerdict run problem (judged_text t).bytes judgement.Verified = has_as t judgement.Verified is in
                record {
                  problem = problem;
                  bytes = (judged_text t).bytes;
                  has = verified;
                  converted = λ given. subst (λ (v : Verdict). IsConverted run given.0.into problem (judged_text t).bytes v) is
                      ((written t).converted given);
                  trimmed = (written t).trimmed is;
                  refuted = laws.verified (format_of j.asked) problem.clauses (judged_text t).bytes verified.judged;
                  unsatisfiable = laws.sound (format_of j.asked) problem.vars problem.clauses (judged_text t).bytes j.literals verified.judged;
                  printed = all t ∙ same_text t ∙ ap (verdict_text_for run problem (judged_text t).bytes) is;
                },
          );
          not_verified = λ line reason e. (
            (j.asked, j.gives, j.file, j.named),
            λ t.
                let is : verdict ≡ judgement.Refused line reason = is_refused verdict line reason (sym ends ∙ e) in
                let refused : HasVerdict run problem (judged_text t).bytes (judgement.Refused line reason) = has_as t
                (judgement.Refused line reason) is in
                record {
                  problem = problem;
                  bytes = (judged_text t).bytes;
                  has = refused;
                  converted = λ given. subst (λ (v : Verdict). IsConverted run given.0.into problem (judged_text t).bytes v) is
                      ((written t).converted given);
                  refused = laws.refused (format_of j.asked) problem.clauses (judged_text t).bytes line reason refused.judged;
                  printed = all t ∙ same_text t ∙ ap (verdict_text_for run problem (judged_text t).bytes) is;
                },
          );
        };
        made = λ e. absurd (undecided.done e);
        made_file = j.made;
        refusals = verdict_due run verdict ends;
        faults = λ quiet. record {
          read = λ e. absurd (accepts.read e);
          named = λ e. absurd (accepts.read e);
          undecided = λ e. absurd (accepts.read e);
          quiet = quiet;
          write = λ e. absurd (no_write verdict (sym ends ∙ e));
          created = λ e. absurd (no_write verdict (sym ends ∙ e));
          accepted = λ e. absurd (no_write verdict (sym ends ∙ e));
        };
        output = record {
          grows = grows (Ok x) puts;
          front = λ t. inr (inl (VerdictOn problem (judged_text t).bytes verdict, fronts (Ok x) puts t));
          answered = λ _ t. (
            VerdictOn problem (judged_text t).bytes verdict,
            true_answer t [] (sym (all t) ∙ sym (append-nil (written_in run Out))),
            ends,
            refl,
          );
          helped = λ e. absurd (accepts.help e);
          flushed = λ _ t. puts.flushed t refl;
          silent = λ unanswered. absurd (true≢false (sym yes_answer ∙ unanswered));
        };
        proof = j.stands;
        complete = check_complete run j (λ t status calls _. uncalled t status calls)
            (λ other bytes v given t unharmed. inl (ends ∙ ap status_of_verdict (same_verdict other bytes v given t)));
      }

  failed : (e : Failed) → PutsText run.tells (run.before Out) (run.after Out) text (Err e) → run.status ≡ WriteFault → Core run
  failed e puts ends =
      let unanswered : is_answer run.status ≡ false = ap is_answer ends in
      let accepts : Accepts run.status = accepts_write run.status ends in
      let failure : OutputFailed run = (Out, inr refl, puts.fault refl) in
      record {
        unsatisfiable = λ d. absurd (no_answer unanswered refl d);
        satisfiable = λ d. absurd (no_answer unanswered refl d);
        undecided = λ why d. absurd (no_answer unanswered refl d);
        answered = λ d. absurd (no_answer unanswered refl d);
        verdict = no_verdict run unanswered;
        made = λ d. absurd (accepts.done d);
        made_file = j.made;
        refusals = due run ends tt;
        faults = λ quiet. record {
          read = λ d. absurd (accepts.read d);
          named = λ d. absurd (accepts.read d);
          undecided = λ d. absurd (accepts.read d);
          quiet = quiet;
          write = λ d. failure;
          created = λ d. inl (puts.fault refl);
          accepted = λ d. inr ((j.asked, j.gives), λ t. inr (inl (problem, (judged_text t).bytes, verdict, has t)));
        };
        output = record {
          grows = grows (Err e) puts;
          front = λ t. inr (inl (VerdictOn problem (judged_text t).bytes verdict, fronts (Err e) puts t));
          answered = λ yes_answer. absurd (true≢false (sym yes_answer ∙ unanswered));
          helped = λ d. absurd (accepts.help d);
          flushed = λ either. elim either [
            | inl yes_answer ↦ absurd (true≢false (sym yes_answer ∙ unanswered))
            | inr d ↦ absurd
                (accepts.help d)
          ];
          silent = λ _ _ unfaulted. absurd (unfaulted ends);
        };
        proof = j.stands;
        complete = check_complete run j (λ t status calls _. uncalled t status calls) (λ other bytes v given t unharmed. absurd (unharmed.1 failure));
      }

  go : (printed : Result ⊤ Failed) → PutsText run.tells (run.before Out) (run.after Out) text printed → run.status
      ≡ status_of_printed verdict printed → Core run
  go (Ok x) puts ends = fine x puts ends
  go (Err e) puts ends = failed e puts ends
