-- How the calls of `check` make its stages.
use Rattle.std.proofs.Common.{◌≡◌, ℕ, Bool, List, ℤ, refl, sym, ◌∙◌, subst, Some, None, Ok, Err, inl, inr}
use Rattle.std.specs.Prelude.{Result, ⊤, Option}
use Rattle.cnf_base.specs.Formula.{Formula}
use Rattle.host_io.specs.declared.role.Role.{Role}
use Rattle.host_io.specs.declared.role.Role.TheVariants.{Cnf, Order, Buckets, Schedule, ProofIn, Cubes, ProofOut, Made, Out}
use Rattle.host_io.specs.declared.source.Failed.{Failed}
use Rattle.host_io.specs.Channel.{Channel}
use Rattle.host_io.specs.Files.{Files, Stored, Agrees, FilesBut, Others}
use Rattle.text_scan.specs.Decides.{gained}
use Rattle.proof_judging.specs.declared.verdict.Verdict.{Verdict}
use Rattle.proof_judging.specs.declared.verdict.CheckError.{CheckError}
use Rattle.command_line.specs.declared.format.ProofFormat.{ProofFormat}
use Rattle.command_line.specs.Command.{ToCheck}
use Rattle.solver_cli.specs.declared.status.Status.{Status}
use Rattle.solver_cli.specs.ExitCode.{status_of_check}
use Rattle.solver_cli.specs.Verdict.{verdict_text}
use Rattle.solver_cli.specs.Phases.{TakesFormula, JudgesProof, PutsText}
use Rattle.solver_cli.specs.Stages.{streams_of, CameToCheck, status_of_printed}
use Rattle.solver_cli.proofs.Staged.{still_taken, printed_from}

-- the files are those before the formula was read
judged_in : {format : ProofFormat} {tells : Bool} {old new : Channel} {file : List ℕ} {clauses : List (List ℤ)} {result : Result Verdict CheckError}
    (files before : Files) → FilesBut None before files
    → JudgesProof format tells old new files file clauses result → JudgesProof format tells old new before file clauses result
judged_in {old = old} {new = new} {file = file} files before same judges = record {
  read = λ t. elim (judges.read t) [
    | inl fault ↦ inl fault
    | inr text ↦ inr (λ texts fits.
        text texts (λ named. subst (λ (told : Stored). Agrees told new (gained old new) (texts file)) (sym (same file none_some)) (fits named)))
  ];
  fault = judges.fault;
  unfailed = judges.unfailed;
  undecided = judges.undecided;
  written = judges.written;
  name = judges.name;
  faults = judges.faults;
} where
  none_some : {name : List ℕ} → ◌≡◌ {A = Option (List ℕ)} None (Some name) → ⊥
  none_some e = cc

-- and so are the channels
judged_from : {format : ProofFormat} {tells : Bool} {start old new now : Channel} {files : Files} {file : List ℕ} {clauses : List
    (List ℤ)} {result : Result Verdict CheckError} → old ≡ start → now ≡ new
    → JudgesProof format tells old new files file clauses result → JudgesProof format tells start now files file clauses result
judged_from {format = format} {tells = tells} {start = start} {new = new} {files = files} {file = file} {clauses = clauses} {result = result} from to judges =
    subst (λ (c : Channel). JudgesProof format tells start c files file clauses result) (sym to)
    (subst (λ (c : Channel). JudgesProof format tells c new files file clauses result) from judges)

pub unjudged : {tells : Bool} {task : ToCheck} {problem : Formula} {error : CheckError} {status : Status} (old taken new : Role
    → Channel) (before files : Files)
    → TakesFormula task.mode tells (old Cnf) (taken Cnf) before task.file (Ok problem) → Others Cnf old taken → FilesBut None before files
    → JudgesProof task.format tells (taken ProofIn) (new ProofIn) files task.proof problem.clauses (Err error) → Others ProofIn taken new → status
    ≡ status_of_check error
    → CameToCheck tells (streams_of old) (streams_of new) before task status
unjudged {task = task} {problem = problem} {error = error} old taken new before files takes beside_taken same judges beside_new ends =
    inr (inl (record {
      problem = problem;
      takes = still_taken task.mode (beside_new Cnf refl) takes;
      order = beside_new Order refl ∙ beside_taken Order refl;
      buckets = beside_new Buckets refl ∙ beside_taken Buckets refl;
      schedule = beside_new Schedule refl ∙ beside_taken Schedule refl;
      cubes = beside_new Cubes refl ∙ beside_taken Cubes refl;
      error = error;
      judges = judged_from (beside_taken ProofIn refl) refl (judged_in files before same judges);
      proof = beside_new ProofOut refl ∙ beside_taken ProofOut refl;
      made = beside_new Made refl ∙ beside_taken Made refl;
      out = beside_new Out refl ∙ beside_taken Out refl;
      ends = ends;
    }))

pub judged : {tells : Bool} {task : ToCheck} {problem : Formula} {verdict : Verdict} {printed : Result ⊤ Failed} {status : Status}
    (old taken checked new : Role → Channel) (before files : Files)
    → TakesFormula task.mode tells (old Cnf) (taken Cnf) before task.file (Ok problem) → Others Cnf old taken → FilesBut None before files
    → JudgesProof task.format tells (taken ProofIn) (checked ProofIn) files task.proof problem.clauses (Ok verdict) → Others ProofIn taken checked
    → PutsText tells (checked Out) (new Out) (verdict_text verdict) printed → Others Out checked new → status
    ≡ status_of_printed verdict printed
    → CameToCheck tells (streams_of old) (streams_of new) before task status
judged {task = task} {problem = problem} {verdict = verdict} {printed = printed} old taken checked new before files takes beside_taken same
    judges beside_checked puts beside_new ends =
    inr (inr (record {
      problem = problem;
      takes = still_taken task.mode (beside_new Cnf refl ∙ beside_checked Cnf refl) takes;
      order = beside_new Order refl ∙ beside_checked Order refl ∙ beside_taken Order refl;
      buckets = beside_new Buckets refl ∙ beside_checked Buckets refl ∙ beside_taken Buckets refl;
      schedule = beside_new Schedule refl ∙ beside_checked Schedule refl ∙ beside_taken Schedule refl;
      cubes = beside_new Cubes refl ∙ beside_checked Cubes refl ∙ beside_taken Cubes refl;
      verdict = verdict;
      judges = judged_from (beside_taken ProofIn refl) (beside_new ProofIn refl) (judged_in files before same judges);
      proof = beside_new ProofOut refl ∙ beside_checked ProofOut refl ∙ beside_taken ProofOut refl;
      made = beside_new Made refl ∙ beside_checked Made refl ∙ beside_taken Made refl;
      printed = printed;
      puts = printed_from (beside_checked Out refl ∙ beside_taken Out refl) puts;
      ends = ends;
    }))
