-- What is promised of a run that took its formula, and did not judge the proof that it names.
use Rattle.std.proofs.Common.{◌≡◌, ℕ, List, refl, sym, ◌∙◌, Some, Err, IsTrue, inl, inr}
use Rattle.std.specs.Prelude.{Option, Result, ◌⊎◌}
use Rattle.cnf_base.specs.Formula.{Formula}
use Rattle.cnf_base.specs.Truth.{AreClausesOf}
use Rattle.dimacs_reader.specs.Cnf.{formula}
use Rattle.host_io.specs.declared.role.Role.TheVariants.{ProofIn}
use Rattle.proof_judging.specs.declared.verdict.Verdict.{Verdict}
use Rattle.proof_judging.specs.declared.verdict.CheckError.{CheckError}
use Rattle.proof_judging.specs.declared.verdict.CheckError.TheVariants as error
use Rattle.solver_cli.specs.declared.status.Status.{Status}
use Rattle.solver_cli.specs.declared.status.Status.TheVariants.{TooLong, ReadFault, OutOfMemory}
use Rattle.host_io.specs.declared.role.Role.TheVariants.{ProofOut, Made, Out}
use Rattle.command_line.specs.Command.{Command, ToCheck, Check, command, format_of}
use Rattle.solver_cli.specs.ExitCode.{status_of_check}
use Rattle.solver_cli.specs.Format.{verdict_in}
use Rattle.solver_cli.specs.Verdict.{status_of_verdict}
use Rattle.solver_cli.specs.Phases.{JudgesText, JudgesProof}
use Rattle.solver_cli.specs.Headline.{IsLongProof, CallsFor, IsComplete, MadeStands, WrittenStands}
use Rattle.solver_cli.specs.Run.{Run, taken_in, IsUnharmed, AsksOver, AsksToJudge, HasVerdict, GivesConversion, OutputFailed, name_given}
use Rattle.solver_cli.specs.Faults.{IsOpenProof}
use Rattle.solver_cli.proofs.Facts.{one_proof, not_unasked, decided_unjudged, judged_apart, only_misuse, only_help}
use Rattle.solver_cli.proofs.Facts.{same_command, same_formula}
use Rattle.solver_cli.proofs.CallsFor.{same_text}
use Rattle.solver_cli.proofs.VerdictLaws.{Laws}
use Rattle.solver_cli.proofs.Promised.{Core, LeftAlone, left_proof, no_text, refused, short, unread}
use Rattle.solver_cli.proofs.Deciding.{deciding}

-- the words name one formula and one proof, which has one verdict
pub one_verdict : (run : Run) {problem other : Formula} {bytes text : List ℕ} (here : AsksToJudge run problem bytes)
    (there : AsksToJudge run other text)
    → verdict_in (format_of here.asked) problem.clauses bytes ≡ verdict_in (format_of there.asked) other.clauses text
one_verdict run here there =
    let same_problem = same_formula refl (same_text run here.asks there.asks) in
    let same_bytes = one_proof run.texts here.asks.command there.asks.command here.named there.named here.stands there.stands in
    λ i. verdict_in (format_of (same_command here.asks.command there.asks.command i)) (same_problem i).clauses (same_bytes i)

pub one_some : {text : Option Verdict} (here there : Verdict) → text ≡ Some here → text ≡ Some there → here ≡ there
one_some here there e d = inner (sym e ∙ d) where
  inner : ◌≡◌ {A = Option Verdict} (Some here) (Some there) → here ≡ there
  inner e = cc

-- What a proof is judged for: a command that names its file, and the formula that was taken. What was written beside it stands.
pub record Judging (run : Run) (problem : Formula) : Type 0 where
  pub asked : Command
  pub gives : command run.words ≡ Some asked
  pub file : List ℕ
  pub named : name_given ProofIn asked ≡ Some file
  pub read : IsTrue run.tells → AsksOver run asked (formula problem)
  pub literals : AreClausesOf problem.vars problem.clauses
  pub made : MadeStands run
  pub stands : WrittenStands run

-- the command is `check`
abbrev pub checks : (run : Run) (task : ToCheck) {problem : Formula} → command run.words ≡ Some (Check task)
    → (IsTrue run.tells → AsksOver run (Check task) (formula problem)) → AreClausesOf problem.vars problem.clauses
    → run.after Made ≡ run.before Made → run.after ProofOut ≡ run.before ProofOut → Judging run problem
checks run task asked read literals made proof = record {
  asked = Check task;
  gives = asked;
  file = task.proof;
  named = refl;
  read = read;
  literals = literals;
  made = no_text run made;
  stands = left_proof run proof;
}

-- what is complete of a run that was to judge its proof
pub check_complete : (run : Run) {problem : Formula} → Judging run problem
    → (IsTrue run.tells → (status : Status) → CallsFor run status
    → (status ≡ TooLong ProofIn → GivesConversion run → OutputFailed run → ⊥) → ⊥)
    → ((other : Formula) (text : List ℕ) (judged : Verdict) → HasVerdict run other text judged → IsTrue run.tells → IsUnharmed run
    → (run.status ≡ status_of_verdict judged) ⊎ (run.status ≡ OutOfMemory))
    → IsComplete run
check_complete run j uncalled judges = record {
  misused = λ only. absurd (only_misuse run.words j.gives only);
  helped = λ only _. absurd (only_help run.words j.gives only);
  unasked = λ none _. absurd (not_unasked j.gives none);
  answers = λ other asks. let given = deciding run other asks in
      absurd (judged_apart j.gives j.named given.1 (decided_unjudged given.0 given.2));
  replies = λ other order cubes asks. absurd (judged_apart j.gives j.named asks.asks.command refl);
  judges = judges;
  makes = λ given. absurd (judged_apart j.gives j.named given.1 refl);
  arranges = λ task problem asks. absurd (judged_apart j.gives j.named asks.command refl);
  refuses = λ status calls t unfailed unwritten. absurd (uncalled t status calls unwritten);
}

-- the proof was not judged
pub unjudged : Laws → (run : Run) {problem : Formula} (j : Judging run problem) → run.after Made ≡ run.before Made
    → run.after Out ≡ run.before Out → (e : CheckError)
    → JudgesProof (format_of j.asked) run.tells (run.before ProofIn) (run.after ProofIn) run.files j.file problem.clauses (Err e)
    → run.status ≡ status_of_check e → Core run
unjudged laws run {problem = problem} j made out = go where
  alone : (status : Status) → LeftAlone run status
  alone status = record {
    proof = j.stands;
    made = made;
    out = out;
    makes = λ make. absurd (judged_apart j.gives j.named make.1 refl);
  }

  to_judge : {result : Result Verdict CheckError} → IsTrue run.tells
      → (text : JudgesText (format_of j.asked) run.texts j.file problem.clauses (taken_in run ProofIn) result) → AsksToJudge run problem text.bytes
  to_judge t text = record { asked = j.asked; asks = j.read t; file = j.file; named = j.named; stands = text.stands }

  go : (e : CheckError) → JudgesProof (format_of j.asked) run.tells (run.before ProofIn) (run.after ProofIn) run.files j.file problem.clauses (Err e)
      → run.status ≡ status_of_check e → Core run
  go error.ReadFault judges ends = unread run j.asked j.gives (alone ReadFault) ends
      (ProofIn, tt, judges.fault refl, j.asked, j.file, j.gives, j.named)
      (λ t. inr (inr (inr (inr (inl (open_proof t)))))) where
        open_proof : IsTrue run.tells → IsOpenProof run
        open_proof t = record {
          asked = j.asked;
          problem = problem;
          asks = j.read t;
          file = j.file;
          named = j.named;
          failed = judges.fault refl;
          undecided = judges.undecided t refl;
        }
  go error.TooLong judges ends = refused run j.asked j.gives (alone (TooLong ProofIn)) ends refl (λ e. cc)
      ((j.asked, j.gives, j.file, j.named), is_long) where
        no_fault : ◌≡◌ {A = Result Verdict CheckError} (Err error.TooLong) (Err error.ReadFault) → ⊥
        no_fault e = cc

        text_of : IsTrue run.tells → JudgesText (format_of j.asked) run.texts j.file problem.clauses (taken_in run ProofIn) (Err error.TooLong)
        text_of t = elim (judges.read t) [ inl e ↦ absurd (no_fault e) | inr text ↦ text run.texts (run.fits ProofIn tt j.file) ]

        is_long : IsTrue run.tells → IsLongProof run
        is_long t = let text = text_of t in record {
          problem = problem;
          bytes = text.bytes;
          asked = to_judge t text;
          judged = text.judged;
          decided = text.decided;
          long = laws.overlong (format_of j.asked) problem.clauses (taken_in run ProofIn) text.decided;
        }
  go error.OutOfMemory judges ends = short run j.asked j.gives (alone OutOfMemory) (inr (inr (inr (inr (inr (inr (inl (record {
    asked = j.asked;
    given = j.gives;
    file = j.file;
    named = j.named;
    problem = problem;
    asks = j.read;
    wants = λ t. let text = text_of t in (text.bytes, text.stands, inl (text.memory refl));
    before_answer = out;
  })))))))) ends where
    no_fault : ◌≡◌ {A = Result Verdict CheckError} (Err error.OutOfMemory) (Err error.ReadFault) → ⊥
    no_fault e = cc

    text_of : IsTrue run.tells → JudgesText (format_of j.asked) run.texts j.file problem.clauses (taken_in run ProofIn) (Err error.OutOfMemory)
    text_of t = elim (judges.read t) [ inl e ↦ absurd (no_fault e) | inr text ↦ text run.texts (run.fits ProofIn tt j.file) ]
