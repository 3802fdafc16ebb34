-- How the calls of `ask` make its stages.
use Rattle.std.proofs.Common.{◌≡◌, ℕ, ℤ, Bool, List, refl, sym, ◌∙◌, subst, Some, None, Ok, Err, IsOk, inl, inr}
use Rattle.std.specs.Prelude.{Option, Result, IsErr, ⊤}
use Rattle.cnf_base.specs.Formula.{Formula}
use Rattle.cube_queries.specs.Ends.{Ends as WritesReplies}
use Rattle.cube_queries.specs.declared.answer.Outcome.{Outcome as Replies}
use Rattle.cube_text.specs.declared.error.CubeError.{CubeError}
use Rattle.drat_proof.specs.TwoRoles.{KeptButTwo}
use Rattle.host_io.specs.declared.role.Role.{Role}
use Rattle.host_io.specs.declared.role.Role.TheVariants.{Cnf, Order, Buckets, Schedule, ProofIn, Cubes, ProofOut, Made, Out, Err as ErrRole}
use Rattle.host_io.specs.declared.source.Failed.{Failed}
use Rattle.host_io.specs.Channel.{Channel}
use Rattle.host_io.specs.Files.{Files, FilesBut, Opens, Kept}
use Rattle.schedule_plan.specs.declared.limits.Limits.{Limits}
use Rattle.schedule_plan.specs.declared.order_error.OrderError.{OrderError}
use Rattle.bdd_terms.specs.declared.error.RunError.{RunError}
use Rattle.command_line.specs.Command.{ToAsk}
use Rattle.solver_cli.specs.declared.status.Status.{Status}
use Rattle.solver_cli.specs.declared.status.Status.TheVariants.{WriteFault}
use Rattle.solver_cli.specs.ExitCode.{status_of_cubes, status_of_order, status_of_run}
use Rattle.solver_cli.specs.Phases.{HasOrder, PutsText, TakesCubes}
use Rattle.solver_cli.specs.Replies.{replies_text}
use Rattle.solver_cli.specs.Stages.{CameToAsk, CameToReply, Job, ask_job, status_after_replies, streams_of}
use Rattle.solver_cli.proofs.Staged.{Took, no_order, order_at, printed_from, same_files, still_taken}
use Rattle.solver_cli.proofs.StagedTrim.{kept_both, kept_file}

-- The formula was taken, and the order was had.
pub record Had (tells : Bool) (old taken had : Role → Channel) (before files later : Files) (task : ToAsk) (problem : Formula)
    (given : List ℕ) : Type 0 where
  pub took : Took task.mode tells old taken before files task.file problem
  pub orders : HasOrder problem.vars task.order tells (taken Order) (had Order) files (Ok given)
  pub kept : Kept Order None taken had files later

pub unordered : {tells : Bool} {task : ToAsk} {problem : Formula} {error : OrderError} {status : Status} (old taken new : Role → Channel)
    (before files later : Files) → Took task.mode tells old taken before files task.file problem
    → HasOrder problem.vars task.order tells (taken Order) (new Order) files (Err error) → Kept Order None taken new files later
    → status ≡ status_of_order error → CameToAsk tells (streams_of old) (streams_of new) before task status
unordered old taken new before files later took has kept ends = inr (inl (no_order old taken new before files later took has kept ends))

-- the cubes over so many variables as the formula has
pub cubes_of : {tells : Bool} {old new : Channel} {files : Files} {file : List ℕ} {vars known : ℕ}
    {result : Result (List (List ℤ)) CubeError} → vars ≡ known → TakesCubes vars tells old new files file result
    → TakesCubes known tells old new files file result
cubes_of {tells = tells} {old = old} {new = new} {files = files} {file = file} {result = result} same takes =
    subst (λ (v : ℕ). TakesCubes v tells old new files file result) same takes

-- the cubes, told of the streams and the files at the start, and of later ones
cubes_at : {tells : Bool} {start old new now : Channel} {before files : Files} {file : List ℕ} {vars : ℕ}
    {result : Result (List (List ℤ)) CubeError} → old ≡ start → now ≡ new → files ≡ before
    → TakesCubes vars tells old new files file result → TakesCubes vars tells start now before file result
cubes_at {tells = tells} {start = start} {new = new} {now = now} {files = files} {file = file} {vars = vars} {result = result} from to same
    takes =
    subst (λ (f : Files). TakesCubes vars tells start now f file result) same
    (subst (λ (c : Channel). TakesCubes vars tells start c files file result) (sym to)
    (subst (λ (c : Channel). TakesCubes vars tells c new files file result) from takes))

pub uncubed : {tells : Bool} {task : ToAsk} {problem : Formula} {given : List ℕ} {error : CubeError} {status : Status}
    (old taken had new : Role → Channel) (before files later last : Files)
    → Had tells old taken had before files later task problem given
    → TakesCubes problem.vars tells (had Cubes) (new Cubes) later task.cubes (Err error) → Kept Cubes None had new later last
    → status ≡ status_of_cubes error → CameToAsk tells (streams_of old) (streams_of new) before task status
uncubed {task = task} {problem = problem} {given = given} {error = error} old taken had new before files later last h takes kept ends =
    let took = h.took in
    inr (inr (inl (record {
      problem = problem;
      takes = still_taken task.mode (kept.others Cnf refl ∙ h.kept.others Cnf refl) took.takes;
      given = given;
      orders = order_at (took.kept.others Order refl) (kept.others Order refl) (same_files took.kept.files) h.orders;
      error = error;
      cubed = cubes_at (h.kept.others Cubes refl ∙ took.kept.others Cubes refl) refl (same_files h.kept.files
          ∙ same_files took.kept.files) takes;
      buckets = kept.others Buckets refl ∙ h.kept.others Buckets refl ∙ took.kept.others Buckets refl;
      schedule = kept.others Schedule refl ∙ h.kept.others Schedule refl ∙ took.kept.others Schedule refl;
      judged = kept.others ProofIn refl ∙ h.kept.others ProofIn refl ∙ took.kept.others ProofIn refl;
      proof = kept.others ProofOut refl ∙ h.kept.others ProofOut refl ∙ took.kept.others ProofOut refl;
      made = kept.others Made refl ∙ h.kept.others Made refl ∙ took.kept.others Made refl;
      out = kept.others Out refl ∙ h.kept.others Out refl ∙ took.kept.others Out refl;
      ends = ends;
    })))

-- the answers, told from an earlier state of their streams
replied_from : {tells : Bool} {start old new start_out old_out out : Channel} {problem : Formula} {order : List ℕ} {cubes : List (List ℤ)}
    {job : Job} {status : Status} → old ≡ start → old_out ≡ start_out → CameToReply tells old new old_out out problem order cubes job status
    → CameToReply tells start new start_out out problem order cubes job status
replied_from {tells = tells} {start = start} {new = new} {old_out = old_out} {out = out} {problem = problem} {order = order} {cubes = cubes}
    {job = job} {status = status} same same_out came =
    subst (λ (c : Channel). CameToReply tells start new c out problem order cubes job status) same_out
    (subst (λ (c : Channel). CameToReply tells c new old_out out problem order cubes job status) same came)

pub questioned : {tells : Bool} {task : ToAsk} {problem : Formula} {given : List ℕ} {cubes : List (List ℤ)} {own : Option (List ℕ)}
    {status : Status} (old taken had read new : Role → Channel) (before files later last after : Files)
    → Had tells old taken had before files later task problem given
    → TakesCubes problem.vars tells (had Cubes) (read Cubes) later task.cubes (Ok cubes) → Kept Cubes None had read later last
    → CameToReply tells (read ProofOut) (new ProofOut) (read Out) (new Out) problem given cubes (ask_job task) status
    → KeptButTwo ProofOut Out own read new last after → CameToAsk tells (streams_of old) (streams_of new) before task status
questioned {task = task} {problem = problem} {given = given} {cubes = cubes} old taken had read new before files later last after h takes kept
    came beside =
    let took = h.took in
    inr (inr (inr (record {
      problem = problem;
      takes = still_taken task.mode (beside.others Cnf refl refl ∙ kept.others Cnf refl ∙ h.kept.others Cnf refl) took.takes;
      given = given;
      orders = order_at (took.kept.others Order refl) (beside.others Order refl refl ∙ kept.others Order refl) (same_files took.kept.files)
          h.orders;
      cubes = cubes;
      cubed = cubes_at (h.kept.others Cubes refl ∙ took.kept.others Cubes refl) (beside.others Cubes refl refl)
          (same_files h.kept.files ∙ same_files took.kept.files) takes;
      buckets = beside.others Buckets refl refl ∙ kept.others Buckets refl ∙ h.kept.others Buckets refl ∙ took.kept.others Buckets refl;
      schedule = beside.others Schedule refl refl ∙ kept.others Schedule refl ∙ h.kept.others Schedule refl
          ∙ took.kept.others Schedule refl;
      judged = beside.others ProofIn refl refl ∙ kept.others ProofIn refl ∙ h.kept.others ProofIn refl ∙ took.kept.others ProofIn refl;
      made = beside.others Made refl refl ∙ kept.others Made refl ∙ h.kept.others Made refl ∙ took.kept.others Made refl;
      came = replied_from (kept.others ProofOut refl ∙ h.kept.others ProofOut refl ∙ took.kept.others ProofOut refl)
          (kept.others Out refl ∙ h.kept.others Out refl ∙ took.kept.others Out refl) came;
    })))

none_some : {name : List ℕ} → ◌≡◌ {A = Option (List ℕ)} None (Some name) → ⊥
none_some e = cc

-- no file but the proof's was changed
pub files_asked : {own : Option (List ℕ)} {old taken had read new : Role → Channel} {before files later last after : Files}
    → Kept Cnf None old taken before files → Kept Order None taken had files later → Kept Cubes None had read later last
    → KeptButTwo ProofOut Out own read new last after → FilesBut own before after
files_asked first second third beside file own =
    beside.files file own ∙ third.files file none_some ∙ second.files file none_some ∙ first.files file none_some

-- standard error was left alone
pub error_asked : {own : Option (List ℕ)} {old taken had read new : Role → Channel} {before files later last after : Files}
    → Kept Cnf None old taken before files → Kept Order None taken had files later → Kept Cubes None had read later last
    → KeptButTwo ProofOut Out own read new last after → new ErrRole ≡ old ErrRole
error_asked first second third beside =
    beside.others ErrRole refl refl ∙ third.others ErrRole refl ∙ second.others ErrRole refl ∙ first.others ErrRole refl

-- How the calls that answer cubes make their ends: the proof's file was not created, the cubes not answered, or the answers printed or not.

pub uncreated : {tells : Bool} {old new : Role → Channel} {problem : Formula} {order : List ℕ} {cubes : List (List ℤ)} {job : Job}
    {own : Option (List ℕ)} {before after : Files} {answer : Result ⊤ Failed}
    → Opens (old ProofOut) (new ProofOut) job.proof answer → IsErr answer → Kept ProofOut own old new before after
    → CameToReply tells (old ProofOut) (new ProofOut) (old Out) (new Out) problem order cubes job WriteFault
uncreated {answer = answer} opens failed beside = inl (record {
  answer = answer;
  failed = failed;
  opens = opens;
  same = beside.others Out refl;
  ends = refl;
})

pub unreplied : {tells : Bool} {old created new : Role → Channel} {problem : Formula} {order : List ℕ} {cubes : List (List ℤ)} {job : Job}
    {own other : Option (List ℕ)} {before between after : Files} {answer : Result ⊤ Failed} {error : RunError} {status : Status}
    → Opens (old ProofOut) (created ProofOut) job.proof answer → IsOk answer → Kept ProofOut own old created before between
    → WritesReplies tells (created ProofOut) (new ProofOut) problem order cubes job.limits (Err error)
    → Kept ProofOut other created new between after → status ≡ status_of_run error
    → CameToReply tells (old ProofOut) (new ProofOut) (old Out) (new Out) problem order cubes job status
unreplied {created = created} {answer = answer} {error = error} opens done creates writes beside ends = inr (inl (record {
  created = created ProofOut;
  created_answer = answer;
  done = done;
  opens = opens;
  error = error;
  writes = writes;
  same = beside.others Out refl ∙ creates.others Out refl;
  ends = ends;
}))

still_replied : {tells : Bool} {old new now : Channel} {problem : Formula} {order : List ℕ} {cubes : List (List ℤ)} {limits : Limits}
    {result : Result Replies RunError} → now ≡ new → WritesReplies tells old new problem order cubes limits result
    → WritesReplies tells old now problem order cubes limits result
still_replied {tells = tells} {old = old} {problem = problem} {order = order} {cubes = cubes} {limits = limits} {result = result} same
    writes =
    subst (λ (c : Channel). WritesReplies tells old c problem order cubes limits result) (sym same) writes

pub replied : {tells : Bool} {old created read new : Role → Channel} {problem : Formula} {order : List ℕ} {cubes : List (List ℤ)} {job : Job}
    {own other third : Option (List ℕ)} {before between later after : Files} {answer : Result ⊤ Failed} {found : Replies}
    {printed : Result ⊤ Failed} {status : Status}
    → Opens (old ProofOut) (created ProofOut) job.proof answer → IsOk answer → Kept ProofOut own old created before between
    → WritesReplies tells (created ProofOut) (read ProofOut) problem order cubes job.limits (Ok found)
    → Kept ProofOut other created read between later
    → PutsText tells (read Out) (new Out) (replies_text job.limits found) printed → Kept Out third read new later after
    → status ≡ status_after_replies found printed
    → CameToReply tells (old ProofOut) (new ProofOut) (old Out) (new Out) problem order cubes job status
replied {created = created} {answer = answer} {found = found} {printed = printed} opens done creates writes beside puts beside_new ends =
    inr (inr (record {
      created = created ProofOut;
      created_answer = answer;
      done = done;
      opens = opens;
      found = found;
      writes = still_replied (beside_new.others ProofOut refl) writes;
      printed = printed;
      puts = printed_from (beside.others Out refl ∙ creates.others Out refl) puts;
      ends = ends;
    }))

-- the two calls on the proof's file, as one
both_proof : {old created new : Role → Channel} {before between after : Files}
    → Kept ProofOut (created ProofOut).name old created before between → Kept ProofOut (created ProofOut).name created new between after
    → (new ProofOut).name ≡ (created ProofOut).name → Kept ProofOut (new ProofOut).name old new before after
both_proof first second same = record {
  others = λ role other. second.others role other ∙ first.others role other;
  files = λ file own. second.files file (λ e. own (same ∙ e)) ∙ first.files file (λ e. own (same ∙ e));
}

pub beside_unreplied : {old created new : Role → Channel} {before between after : Files}
    → Kept ProofOut (created ProofOut).name old created before between → Kept ProofOut (created ProofOut).name created new between after
    → (new ProofOut).name ≡ (created ProofOut).name → KeptButTwo ProofOut Out (new ProofOut).name old new before after
beside_unreplied first second same = kept_file (both_proof first second same)

pub beside_replied : {old created read new : Role → Channel} {before between later after : Files} → (old Out).name ≡ None
    → Kept ProofOut (created ProofOut).name old created before between → Kept ProofOut (created ProofOut).name created read between later
    → (read ProofOut).name ≡ (created ProofOut).name → Kept Out (read Out).name read new later after
    → KeptButTwo ProofOut Out (new ProofOut).name old new before after
beside_replied unnamed first second same third = kept_both unnamed (both_proof first second same) third
