-- How the calls of a conversion make its stages.
use Rattle.std.proofs.Common.{◌≡◌, ℕ, Bool, List, refl, sym, ap, ◌∙◌, subst, Some, None, Ok, Err, inl, inr}
use Rattle.std.specs.Prelude.{Option, Result, ⊤}
use Rattle.cnf_base.specs.Formula.{Formula}
use Rattle.host_io.specs.declared.role.Role.{Role}
use Rattle.host_io.specs.declared.role.Role.TheVariants.{Cnf, Order, Buckets, Schedule, ProofIn, Cubes, ProofOut, Made, Out, Err as ErrRole}
use Rattle.host_io.specs.declared.source.Failed.{Failed}
use Rattle.host_io.specs.Channel.{Channel}
use Rattle.host_io.specs.Files.{Files, FilesBut, Kept}
use Rattle.proof_judging.specs.declared.verdict.Verdict.{Verdict}
use Rattle.drat_proof.specs.TwoRoles.{KeptButTwo}
use Rattle.drat_proof.specs.declared.error.ConvertError.{ConvertError}
use Rattle.command_line.specs.Command.{ToConvert}
use Rattle.command_line.specs.declared.conversion.Conversion.{Conversion}
use Rattle.solver_cli.specs.declared.status.Status.{Status}
use Rattle.solver_cli.specs.ExitCode.{status_of_convert}
use Rattle.solver_cli.specs.Verdict.{verdict_text}
use Rattle.solver_cli.specs.Phases.{TakesFormula, PutsText}
use Rattle.solver_cli.specs.ConvertedProof.{RewritesProof}
use Rattle.solver_cli.specs.Stages.{streams_of, CameToConvert, status_of_printed}
use Rattle.solver_cli.proofs.Staged.{printed_from, same_files, still_taken}

-- what was told of streams that earlier and later calls left alone, and of the files before
rewritten_from : {tells : Bool} {in_start in_old in_new in_now out_start out_old out_new out_now : Channel} {before files : Files}
    {file out : List ℕ} {into : Conversion} {problem : Formula} {result : Result Verdict ConvertError}
    → in_old ≡ in_start → in_now ≡ in_new → out_old ≡ out_start → out_now ≡ out_new → files ≡ before
    → RewritesProof tells in_old in_new out_old out_new files file out into problem result
    → RewritesProof tells in_start in_now out_start out_now before file out into problem result
rewritten_from {tells = tells} {in_start = in_start} {in_new = in_new} {in_now = in_now} {out_start = out_start} {out_old = out_old}
    {out_new = out_new} {out_now = out_now} {before = before} {files = files} {file = file} {out = out} {into = into} {problem = problem}
    {result = result}
    in_from in_to out_from out_to same rewrites =
    subst (λ (f : Files). RewritesProof tells in_start in_now out_start out_now f file out into problem result) same
    (subst (λ (c : Channel). RewritesProof tells in_start in_now out_start c files file out into problem result) (sym out_to)
    (subst (λ (c : Channel). RewritesProof tells in_start in_now c out_new files file out into problem result) out_from
    (subst (λ (c : Channel). RewritesProof tells in_start c out_old out_new files file out into problem result) (sym in_to)
    (subst (λ (c : Channel). RewritesProof tells c in_new out_old out_new files file out into problem result) in_from rewrites))))

pub unconverted : {tells : Bool} {task : ToConvert} {problem : Formula} {error : ConvertError} {own : Option (List ℕ)} {status : Status}
    (old taken new : Role → Channel) (before files after : Files)
    → TakesFormula task.mode tells (old Cnf) (taken Cnf) before task.file (Ok problem) → Kept Cnf None old taken before files
    → RewritesProof tells (taken ProofIn) (new ProofIn) (taken ProofOut) (new ProofOut) files task.proof task.out task.into problem
    (Err error)
    → KeptButTwo ProofIn ProofOut own taken new files after → status ≡ status_of_convert error
    → CameToConvert tells (streams_of old) (streams_of new) before task status
unconverted {task = task} {problem = problem} {error = error} old taken new before files after takes beside_taken rewrites beside_new ends =
    inr (inl (record {
      problem = problem;
      takes = still_taken task.mode (beside_new.others Cnf refl refl) takes;
      order = beside_new.others Order refl refl ∙ beside_taken.others Order refl;
      buckets = beside_new.others Buckets refl refl ∙ beside_taken.others Buckets refl;
      schedule = beside_new.others Schedule refl refl ∙ beside_taken.others Schedule refl;
      cubes = beside_new.others Cubes refl refl ∙ beside_taken.others Cubes refl;
      error = error;
      rewrites = rewritten_from (beside_taken.others ProofIn refl) refl (beside_taken.others ProofOut refl) refl
          (same_files beside_taken.files) rewrites;
      made = beside_new.others Made refl refl ∙ beside_taken.others Made refl;
      out = beside_new.others Out refl refl ∙ beside_taken.others Out refl;
      ends = ends;
    }))

pub converted : {tells : Bool} {task : ToConvert} {problem : Formula} {verdict : Verdict} {printed : Result ⊤ Failed}
    {own name : Option (List ℕ)} {status : Status} (old taken rewritten new : Role → Channel) (before files after last : Files)
    → TakesFormula task.mode tells (old Cnf) (taken Cnf) before task.file (Ok problem) → Kept Cnf None old taken before files
    → RewritesProof tells (taken ProofIn) (rewritten ProofIn) (taken ProofOut)
    (rewritten ProofOut) files task.proof task.out task.into problem
    (Ok verdict)
    → KeptButTwo ProofIn ProofOut own taken rewritten files after
    → PutsText tells (rewritten Out) (new Out) (verdict_text verdict) printed → Kept Out name rewritten new after last
    → status ≡ status_of_printed verdict printed → CameToConvert tells (streams_of old) (streams_of new) before task status
converted {task = task} {problem = problem} {verdict = verdict} {printed = printed} old taken rewritten new before files after last takes
    beside_taken rewrites beside puts beside_new ends = inr (inr (record {
      problem = problem;
      takes = still_taken task.mode (beside_new.others Cnf refl ∙ beside.others Cnf refl refl) takes;
      order = beside_new.others Order refl ∙ beside.others Order refl refl ∙ beside_taken.others Order refl;
      buckets = beside_new.others Buckets refl ∙ beside.others Buckets refl refl ∙ beside_taken.others Buckets refl;
      schedule = beside_new.others Schedule refl ∙ beside.others Schedule refl refl ∙ beside_taken.others Schedule refl;
      cubes = beside_new.others Cubes refl ∙ beside.others Cubes refl refl ∙ beside_taken.others Cubes refl;
      verdict = verdict;
      rewrites = rewritten_from (beside_taken.others ProofIn refl) (beside_new.others ProofIn refl) (beside_taken.others ProofOut refl)
          (beside_new.others ProofOut refl) (same_files beside_taken.files) rewrites;
      made = beside_new.others Made refl ∙ beside.others Made refl refl ∙ beside_taken.others Made refl;
      printed = printed;
      puts = printed_from (beside.others Out refl refl ∙ beside_taken.others Out refl) puts;
      ends = ends;
    }))

none_some : {name : List ℕ} → ◌≡◌ {A = Option (List ℕ)} None (Some name) → ⊥
none_some e = cc

-- no file but the converted proof's was changed
pub files_unconverted : {old taken new : Role → Channel} {before files after : Files} → Kept Cnf None old taken before files
    → KeptButTwo ProofIn ProofOut (new ProofOut).name taken new files after → FilesBut (new ProofOut).name before after
files_unconverted beside_taken beside file own = beside.files file own ∙ beside_taken.files file none_some

pub files_converted : {old taken rewritten new : Role → Channel} {before files after last : Files} → (old Out).name ≡ None
    → Kept Cnf None old taken before files → KeptButTwo ProofIn ProofOut (rewritten ProofOut).name taken rewritten files after
    → Kept Out (rewritten Out).name rewritten new after last → FilesBut (new ProofOut).name before last
files_converted {rewritten = rewritten} {new = new} unnamed beside_taken beside puts file own =
    puts.files file (λ e. none_some (sym out_none ∙ e))
    ∙ beside.files file (λ e. own (ap (λ (c : Channel). c.name) (puts.others ProofOut refl) ∙ e))
    ∙ beside_taken.files file none_some where
      out_none : (rewritten Out).name ≡ None
      out_none = ap (λ (c : Channel). c.name) (beside.others Out refl refl ∙ beside_taken.others Out refl) ∙ unnamed

-- standard error was left alone
pub error_unconverted : {old taken new : Role → Channel} {own : Option (List ℕ)} {before files after : Files}
    → Kept Cnf None old taken before files → KeptButTwo ProofIn ProofOut own taken new files after → new ErrRole ≡ old ErrRole
error_unconverted beside_taken beside = beside.others ErrRole refl refl ∙ beside_taken.others ErrRole refl

pub error_converted : {old taken rewritten new : Role → Channel} {own name : Option (List ℕ)} {before files after last : Files}
    → Kept Cnf None old taken before files → KeptButTwo ProofIn ProofOut own taken rewritten files after
    → Kept Out name rewritten new after last → new ErrRole ≡ old ErrRole
error_converted beside_taken beside puts = puts.others ErrRole refl ∙ error_unconverted beside_taken beside
