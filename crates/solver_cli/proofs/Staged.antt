-- How the calls of `solve` make its stages.
use Rattle.std.proofs.Common.{◌≡◌, ℕ, Bool, List, refl, sym, ap, ◌∙◌, subst, Some, None, Ok, Err, inl, inr}
use Rattle.std.specs.Prelude.{Result, Option, ⊤, IsFalse}
use Rattle.cnf_base.specs.Formula.{Formula}
use Rattle.host_io.specs.declared.role.Role.{Role}
use Rattle.host_io.specs.declared.role.Role.TheVariants.{Cnf, Order, Buckets, Schedule, ProofIn, Cubes, ProofOut, Made, Out}
use Rattle.host_io.specs.declared.source.Failed.{Failed}
use Rattle.host_io.specs.Channel.{Channel}
use Rattle.host_io.specs.Files.{Files, FilesBut, Kept, same_role}
use Rattle.dimacs_reader.specs.declared.mode.Mode.{Mode}
use Rattle.dimacs_reader.specs.declared.error.CnfError.{CnfError}
use Rattle.schedule_plan.specs.declared.plan.Move.{Move}
use Rattle.schedule_plan.specs.declared.order_error.OrderError.{OrderError}
use Rattle.schedule_plan.specs.declared.schedule.error.PlanError.{PlanError}
use Rattle.schedule_plan.specs.declared.limits.Limits.{Limits}
use Rattle.term_runner.specs.declared.outcome.Run.{Run as Ending}
use Rattle.bdd_terms.specs.declared.error.RunError.{RunError}
use Rattle.command_line.specs.Command.{ToSolve, Planned}
use Rattle.solver_cli.specs.declared.status.Status.{Status}
use Rattle.solver_cli.specs.ExitCode.{status_of_buckets, status_of_order, status_of_plan}
use Rattle.solver_cli.specs.declared.basis.Basis.{Basis}
use Rattle.solver_cli.specs.Phases.{TakesFormula, HasOrder, HasBuckets, HasPlan, WritesProof, PutsText, basis_of, buckets_file}
use Rattle.solver_cli.specs.Stages.{Job, LeavesInputs, Unordered, streams_of, solve_job, Prepared, Came, CameToAnswer}

-- what was told of a stream that later calls left alone
pub still_taken : (mode : Mode) {tells : Bool} {old new now : Channel} {files : Files} {file : List ℕ} {result : Result Formula CnfError}
    → now ≡ new → TakesFormula mode tells old new files file result
    → TakesFormula mode tells old now files file result
still_taken mode {tells = tells} {old = old} {files = files} {file = file} {result = result} same takes =
    subst (λ (c : Channel). TakesFormula mode tells old c files file result) (sym same) takes

pub still_written : {parity tells : Bool} {old new now : Channel} {problem : Formula} {order : List ℕ} {moves : List Move} {limits : Limits}
    {result : Result Ending RunError} → now ≡ new
    → WritesProof parity tells old new problem order moves limits result
    → WritesProof parity tells old now problem order moves limits result
still_written {parity = parity} {tells = tells} {old = old} {problem = problem} {order = order} {moves = moves} {limits = limits} {result = result} same
    writes =
    subst (λ (c : Channel). WritesProof parity tells old c problem order moves limits result) (sym same) writes

pub printed_from : {tells : Bool} {start old new : Channel} {text : List ℕ} {result : Result ⊤ Failed} → old ≡ start
    → PutsText tells old new text result → PutsText tells start new text result
printed_from {tells = tells} {new = new} {text = text} {result = result} same puts = subst
    (λ (c : Channel). PutsText tells c new text result) same puts

-- the files stayed
pub same_files : {before files : Files} → FilesBut None before files → files ≡ before
same_files same = λ i file. same file none_some i where
  none_some : {name : List ℕ} → ◌≡◌ {A = Option (List ℕ)} None (Some name) → ⊥
  none_some e = cc

-- the order and the plan, told of the streams and the files at the start, and of later ones
pub order_at : {tells : Bool} {start old new now : Channel} {before files : Files} {vars : ℕ} {file : Option (List ℕ)} {result : Result
    (List ℕ) OrderError} → old ≡ start → now ≡ new → files ≡ before
    → HasOrder vars file tells old new files result → HasOrder vars file tells start now before result
order_at {tells = tells} {start = start} {old = old} {new = new} {now = now} {before = before} {files = files} {vars = vars} {file = file}
    {result = result} from to same has =
    subst (λ (f : Files). HasOrder vars file tells start now f result) same
    (subst (λ (c : Channel). HasOrder vars file tells start c files result) (sym to)
    (subst (λ (c : Channel). HasOrder vars file tells c new files result) from has))

buckets_at : {tells : Bool} {start old new now : Channel} {before files : Files} {vars : ℕ} {file : Option (List ℕ)} {result : Result
    (Option (List ℕ)) OrderError} → old ≡ start → now ≡ new → files ≡ before
    → HasBuckets vars file tells old new files result → HasBuckets vars file tells start now before result
buckets_at {tells = tells} {start = start} {old = old} {new = new} {now = now} {before = before} {files = files} {vars = vars} {file = file}
    {result = result} from to same has =
    subst (λ (f : Files). HasBuckets vars file tells start now f result) same
    (subst (λ (c : Channel). HasBuckets vars file tells start c files result) (sym to)
    (subst (λ (c : Channel). HasBuckets vars file tells c new files result) from has))

plan_at : {tells : Bool} {start old new now : Channel} {before files : Files} {problem : Formula} {given : List ℕ}
    {buckets : Option (List ℕ)} {plan : Planned} {result : Result Basis PlanError} → old ≡ start → now ≡ new → files ≡ before
    → HasPlan problem given buckets plan tells old new files result → HasPlan problem given buckets plan tells start now before result
plan_at {tells = tells} {start = start} {old = old} {new = new} {now = now} {before = before} {files = files} {problem = problem}
    {given = given} {buckets = buckets} {plan = plan} {result = result} from to same has =
    subst (λ (f : Files). HasPlan problem given buckets plan tells start now f result) same
    (subst (λ (c : Channel). HasPlan problem given buckets plan tells start c files result) (sym to)
    (subst (λ (c : Channel). HasPlan problem given buckets plan tells c new files result) from has))

-- The formula was taken.
pub record Took (mode : Mode) (tells : Bool) (old taken : Role → Channel) (before files : Files) (file : List ℕ)
    (problem : Formula) : Type 0 where
  pub takes : TakesFormula mode tells (old Cnf) (taken Cnf) before file (Ok problem)
  pub kept : Kept Cnf None old taken before files

-- And the order was had.
pub record Orders (tells : Bool) (old taken had : Role → Channel) (before files later : Files) (task : ToSolve) (problem : Formula)
    (given : List ℕ) : Type 0 where
  pub took : Took task.mode tells old taken before files task.file problem
  pub orders : HasOrder problem.vars task.order tells (taken Order) (had Order) files (Ok given)
  pub kept : Kept Order None taken had files later

-- And that of the buckets.
pub record Splits (tells : Bool) (old taken had split : Role → Channel) (before files later after : Files) (task : ToSolve)
    (problem : Formula) (given : List ℕ) (named : Option (List ℕ)) : Type 0 where
  pub ordered : Orders tells old taken had before files later task problem given
  pub bucketed : HasBuckets problem.vars (buckets_file task.plan) tells (had Buckets) (split Buckets) later (Ok named)
  pub kept : Kept Buckets None had split later after

-- And the plan.
pub record Plans (tells : Bool) (old taken had split made : Role → Channel) (before files later after last : Files) (task : ToSolve)
    (problem : Formula) (given : List ℕ) (named : Option (List ℕ)) (order : List ℕ) (moves : List Move) : Type 0 where
  pub splits : Splits tells old taken had split before files later after task problem given named
  pub plans : HasPlan problem given named task.plan tells (split Schedule) (made Schedule) after (Ok (basis_of order moves))
  pub kept : Kept Schedule None split made after last

-- the order is had of so many variables as the formula has
pub order_of : {tells : Bool} {old new : Channel} {files : Files} {vars known : ℕ} {file : Option (List ℕ)} {result : Result
    (List ℕ) OrderError} → vars ≡ known → HasOrder vars file tells old new files result
    → HasOrder known file tells old new files result
order_of {tells = tells} {old = old} {new = new} {files = files} {file = file} {result = result} same has = subst
    (λ (v : ℕ). HasOrder v file tells old new files result) same has

pub buckets_of : {tells : Bool} {old new : Channel} {files : Files} {vars known : ℕ} {name file : Option (List ℕ)} {result : Result
    (Option (List ℕ)) OrderError} → vars ≡ known → name ≡ file → HasBuckets vars name tells old new files result
    → HasBuckets known file tells old new files result
buckets_of {tells = tells} {old = old} {new = new} {files = files} {known = known} {name = name} {result = result} same called has = subst
    (λ (f : Option (List ℕ)). HasBuckets known f tells old new files result) called
    (subst (λ (v : ℕ). HasBuckets v name tells old new files result) same has)

-- the order was not had, whoever goes by it
pub no_order : {mode : Mode} {tells : Bool} {file : List ℕ} {named : Option (List ℕ)} {problem : Formula} {error : OrderError}
    {status : Status} (old taken new : Role → Channel) (before files later : Files)
    → Took mode tells old taken before files file problem
    → HasOrder problem.vars named tells (taken Order) (new Order) files (Err error) → Kept Order None taken new files later → status
    ≡ status_of_order error
    → Unordered mode tells (streams_of old) (streams_of new) before file named status
no_order {mode = mode} {problem = problem} {error = error} old taken new before files later took has kept ends = record {
  problem = problem;
  takes = still_taken mode (kept.others Cnf refl) took.takes;
  error = error;
  orders = order_at (took.kept.others Order refl) refl (same_files took.kept.files) has;
  buckets = kept.others Buckets refl ∙ took.kept.others Buckets refl;
  schedule = kept.others Schedule refl ∙ took.kept.others Schedule refl;
  judged = kept.others ProofIn refl ∙ took.kept.others ProofIn refl;
  cubes = kept.others Cubes refl ∙ took.kept.others Cubes refl;
  proof = kept.others ProofOut refl ∙ took.kept.others ProofOut refl;
  made = kept.others Made refl ∙ took.kept.others Made refl;
  out = kept.others Out refl ∙ took.kept.others Out refl;
  ends = ends;
}

pub unordered : {tells : Bool} {task : ToSolve} {problem : Formula} {error : OrderError} {status : Status} (old taken new : Role
    → Channel) (before files later : Files)
    → Took task.mode tells old taken before files task.file problem
    → HasOrder problem.vars task.order tells (taken Order) (new Order) files (Err error) → Kept Order None taken new files later → status
    ≡ status_of_order error
    → Came tells (streams_of old) (streams_of new) before task status
unordered old taken new before files later took has kept ends = inr (inl (no_order old taken new before files later took has kept ends))

pub unbucketed : {tells : Bool} {task : ToSolve} {problem : Formula} {given : List ℕ} {error : OrderError} {status : Status}
    (old taken had new : Role → Channel) (before files later last : Files)
    → Orders tells old taken had before files later task problem given
    → HasBuckets problem.vars (buckets_file task.plan) tells (had Buckets) (new Buckets) later (Err error)
    → Kept Buckets None had new later last → status ≡ status_of_buckets error → Came tells (streams_of old) (streams_of new) before task status
unbucketed {task = task} {problem = problem} {given = given} {error = error} old taken had new before files later last o has kept ends =
    let took = o.took in
    inr (inr (inl (record {
      problem = problem;
      takes = still_taken task.mode (kept.others Cnf refl ∙ o.kept.others Cnf refl) took.takes;
      given = given;
      orders = order_at (took.kept.others Order refl) (kept.others Order refl) (same_files took.kept.files) o.orders;
      error = error;
      bucketed = buckets_at (o.kept.others Buckets refl ∙ took.kept.others Buckets refl) refl (same_files o.kept.files
          ∙ same_files took.kept.files) has;
      schedule = kept.others Schedule refl ∙ o.kept.others Schedule refl ∙ took.kept.others Schedule refl;
      judged = kept.others ProofIn refl ∙ o.kept.others ProofIn refl ∙ took.kept.others ProofIn refl;
      cubes = kept.others Cubes refl ∙ o.kept.others Cubes refl ∙ took.kept.others Cubes refl;
      proof = kept.others ProofOut refl ∙ o.kept.others ProofOut refl ∙ took.kept.others ProofOut refl;
      made = kept.others Made refl ∙ o.kept.others Made refl ∙ took.kept.others Made refl;
      out = kept.others Out refl ∙ o.kept.others Out refl ∙ took.kept.others Out refl;
      ends = ends;
    })))

-- a role that none of the first three readings is of was left alone by them
alone_so_far : {tells : Bool} {old taken had split : Role → Channel} {before files later after : Files} {task : ToSolve} {problem : Formula}
    {given : List ℕ} {named : Option (List ℕ)} → Splits tells old taken had split before files later after task problem given named
    → (role : Role) → IsFalse (same_role role Cnf) → IsFalse (same_role role Order) → IsFalse (same_role role Buckets) → split role
    ≡ old role
alone_so_far s role a b c = s.kept.others role c ∙ s.ordered.kept.others role b ∙ s.ordered.took.kept.others role a

-- and so were the files
files_so_far : {tells : Bool} {old taken had split : Role → Channel} {before files later after : Files} {task : ToSolve} {problem : Formula}
    {given : List ℕ} {named : Option (List ℕ)} → Splits tells old taken had split before files later after task problem given named
    → after ≡ before
files_so_far s = same_files s.kept.files ∙ same_files s.ordered.kept.files ∙ same_files s.ordered.took.kept.files

pub unplanned : {tells : Bool} {task : ToSolve} {problem : Formula} {given : List ℕ} {named : Option (List ℕ)} {error : PlanError}
    {status : Status} (old taken had split new : Role → Channel) (before files later after last : Files)
    → Splits tells old taken had split before files later after task problem given named
    → HasPlan problem given named task.plan tells (split Schedule) (new Schedule) after (Err error) → Kept Schedule None split new after last
    → status ≡ status_of_plan error → Came tells (streams_of old) (streams_of new) before task status
unplanned {task = task} {problem = problem} {given = given} {named = named} {error = error} old taken had split new before files later after
    last s has kept ends =
    let o = s.ordered in
    let took = o.took in
    inr (inr (inr (inl (record {
      problem = problem;
      takes = still_taken task.mode (kept.others Cnf refl ∙ s.kept.others Cnf refl ∙ o.kept.others Cnf refl) took.takes;
      given = given;
      orders = order_at (took.kept.others Order refl) (kept.others Order refl ∙ s.kept.others Order refl) (same_files took.kept.files)
          o.orders;
      named = named;
      bucketed = buckets_at (o.kept.others Buckets refl ∙ took.kept.others Buckets refl) (kept.others Buckets refl)
          (same_files o.kept.files ∙ same_files took.kept.files) s.bucketed;
      error = error;
      plans = plan_at (alone_so_far s Schedule refl refl refl) refl (files_so_far s) has;
      judged = kept.others ProofIn refl ∙ alone_so_far s ProofIn refl refl refl;
      cubes = kept.others Cubes refl ∙ alone_so_far s Cubes refl refl refl;
      proof = kept.others ProofOut refl ∙ alone_so_far s ProofOut refl refl refl;
      made = kept.others Made refl ∙ alone_so_far s Made refl refl refl;
      out = kept.others Out refl ∙ alone_so_far s Out refl refl refl;
      ends = ends;
    }))))

-- all was had, and the inputs were left alone from then on
prepared : {tells : Bool} {old taken had split made new : Role → Channel} {before files later after last : Files} {task : ToSolve}
    {problem : Formula} {given : List ℕ} {named : Option (List ℕ)} {order : List ℕ} {moves : List Move}
    → Plans tells old taken had split made before files later after last task problem given named order moves → LeavesInputs made new
    → Prepared tells (streams_of old) (streams_of new) before task problem order moves
prepared {task = task} {given = given} {named = named} p leaves =
    let s = p.splits in
    let o = s.ordered in
    let took = o.took in
    record {
      takes = still_taken task.mode (leaves.cnf ∙ p.kept.others Cnf refl ∙ s.kept.others Cnf refl ∙ o.kept.others Cnf refl) took.takes;
      given = given;
      orders = order_at (took.kept.others Order refl) (leaves.order ∙ p.kept.others Order refl ∙ s.kept.others Order refl)
          (same_files took.kept.files) o.orders;
      named = named;
      bucketed = buckets_at (o.kept.others Buckets refl ∙ took.kept.others Buckets refl) (leaves.buckets ∙ p.kept.others Buckets refl)
          (same_files o.kept.files ∙ same_files took.kept.files) s.bucketed;
      plans = plan_at (alone_so_far s Schedule refl refl refl) leaves.schedule (files_so_far s) p.plans;
      judged = leaves.judged ∙ p.kept.others ProofIn refl ∙ alone_so_far s ProofIn refl refl refl;
      cubes = leaves.cubes ∙ p.kept.others Cubes refl ∙ alone_so_far s Cubes refl refl refl;
      made = leaves.made ∙ p.kept.others Made refl ∙ alone_so_far s Made refl refl refl;
    }

-- another role was left alone until then
pub left_alone : {tells : Bool} {old taken had split made : Role → Channel} {before files later after last : Files} {task : ToSolve}
    {problem : Formula} {given : List ℕ} {named : Option (List ℕ)} {order : List ℕ} {moves : List Move}
    → Plans tells old taken had split made before files later after last task problem given named order moves
    → (role : Role) → IsFalse (same_role role Cnf) → IsFalse (same_role role Order) → IsFalse (same_role role Buckets)
    → IsFalse (same_role role Schedule) → made role ≡ old role
left_alone p role a b c d = p.kept.others role d ∙ alone_so_far p.splits role a b c

-- the answer, told from an earlier state of its streams
pub answered_from : {tells : Bool} {start old new start_out old_out out : Channel} {problem : Formula} {order : List ℕ} {moves : List Move}
    {job : Job} {status : Status} → old ≡ start → old_out ≡ start_out
    → CameToAnswer tells old new old_out out problem order moves job status
    → CameToAnswer tells start new start_out out problem order moves job status
answered_from {tells = tells} {start = start} {new = new} {old_out = old_out} {out = out} {problem = problem} {order = order}
    {moves = moves} {job = job} {status = status} same same_out came =
    subst (λ (c : Channel). CameToAnswer tells start new c out problem order moves job status) same_out
    (subst (λ (c : Channel). CameToAnswer tells c new old_out out problem order moves job status) same came)

pub solved : {tells : Bool} {old taken had split made : Role → Channel} {before files later after last : Files} {task : ToSolve}
    {problem : Formula} {given : List ℕ} {named : Option (List ℕ)} {order : List ℕ} {moves : List Move} {status : Status} (new : Role
    → Channel) → Plans tells old taken had split made before files later after last task problem given named order moves
    → LeavesInputs made new
    → CameToAnswer tells (made ProofOut) (new ProofOut) (made Out) (new Out) problem order moves (solve_job task) status
    → Came tells (streams_of old) (streams_of new) before task status
solved {problem = problem} {order = order} {moves = moves} new p leaves came =
    inr (inr (inr (inr (record {
      problem = problem;
      order = order;
      moves = moves;
      prepared = prepared p leaves;
      came = answered_from (left_alone p ProofOut refl refl refl refl) (left_alone p Out refl refl refl refl) came;
    }))))

-- no file but the proof's was changed
pub files_left : {tells : Bool} {old taken had split made : Role → Channel} {before files later after last new_files : Files}
    {task : ToSolve} {problem : Formula} {given : List ℕ} {named : Option (List ℕ)} {order : List ℕ} {moves : List Move}
    {name : Option (List ℕ)} → Plans tells old taken had split made before files later after last task problem given named order moves
    → FilesBut name last new_files → FilesBut name before new_files
files_left p answers file own = answers file own ∙ p.kept.files file none_some ∙ ap (λ (f : Files). f file) (files_so_far p.splits) where
  none_some : {name : List ℕ} → ◌≡◌ {A = Option (List ℕ)} None (Some name) → ⊥
  none_some e = cc
