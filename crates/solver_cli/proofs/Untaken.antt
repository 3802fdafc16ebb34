-- What is promised of a run that a text ended: the formula's, the order's, that of the buckets' order or the schedule's.
use Rattle.std.proofs.Common.{◌≡◌, ℕ, false, true, List, [], refl, sym, ap, ◌∙◌, subst, Some, None, Ok, Err, IsTrue, inl, inr, true≢false}
use Rattle.std.specs.Prelude.{Bool, Option, Result, ◌≢◌, ◌⊎◌}
use Rattle.cnf_base.specs.Formula.{Formula}
use Rattle.host_io.specs.Channel.{Channel}
use Rattle.host_io.specs.Files.{Files, Texts, IsInput}
use Rattle.host_io.specs.declared.role.Role.{Role}
use Rattle.host_io.specs.declared.role.Role.TheVariants.{Cnf, Order, Buckets, Schedule, ProofIn, Cubes, ProofOut, Made, Out, Err as ErrRole}
use Rattle.dimacs_reader.specs.Cnf.{CnfText, formula, cnf}
use Rattle.dimacs_reader.specs.declared.mode.Mode.{Mode}
use Rattle.dimacs_reader.specs.declared.error.CnfError.{CnfError}
use Rattle.dimacs_reader.specs.declared.error.CnfError.TheVariants as cnf_error
use Rattle.text_scan.specs.Decides.{Fits}
use Rattle.schedule_plan.specs.OrderText.{OrderText, order as given_order, order_text}
use Rattle.schedule_plan.specs.ScheduleText.{ScheduleText, schedule}
use Rattle.schedule_plan.specs.declared.plan.Move.{Move}
use Rattle.schedule_plan.specs.declared.order_error.OrderError.{OrderError}
use Rattle.schedule_plan.specs.declared.order_error.OrderError.TheVariants as order_error
use Rattle.schedule_plan.specs.declared.schedule.error.PlanError.{PlanError}
use Rattle.schedule_plan.specs.declared.schedule.error.PlanError.TheVariants as plan_error
use Rattle.command_line.specs.Command.{Command, ToSolve, ToMake, Solve, Make, Planned, ByName, ByFile, ByBuckets, Found, formula_file}
use Rattle.command_line.specs.Command.{mode_of, command}
use Rattle.solver_cli.specs.declared.status.Status.{Status}
use Rattle.solver_cli.specs.declared.status.Status.TheVariants.{CnfRefused, OrderRefused, BucketsRefused, PlanRefused, TooLong}
use Rattle.solver_cli.specs.declared.status.Status.TheVariants.{ReadFault, OutOfMemory}
use Rattle.solver_cli.specs.Answer.{AreByBuckets, IsRead, IsOrdered, IsPlanned}
use Rattle.solver_cli.specs.ExitCode.{status_of_buckets, status_of_error, status_of_order, status_of_plan}
use Rattle.solver_cli.specs.declared.basis.Basis.{Basis}
use Rattle.solver_cli.specs.Phases.{ReadsText, TakesFormula, TakesOrder, TakesSchedule, HasOrder, HasBuckets, HasPlan, as_some, basis_of}
use Rattle.solver_cli.specs.Phases.{WantsRead, buckets_file, order_wants, schedule_wants}
use Rattle.solver_cli.specs.Stages.{streams_of, Untaken, Unordered, Unbucketed, Unplanned}
use Rattle.solver_cli.specs.Headline.{IsRefusedBy, OrderIsRefusedBy, BucketsAreRefusedBy, ScheduleIsRefusedBy, MemoryIsWanted}
use Rattle.solver_cli.specs.Run.{Run, taken_in, AsksOver, goes_by_order, name_given, schedule_file}
use Rattle.solver_cli.specs.Faults.{IsOpenFormula}
use Rattle.solver_cli.proofs.Reading.{text_read, ok_err, same_error}
use Rattle.solver_cli.proofs.Facts.{same_command, decided_apart}
use Rattle.solver_cli.proofs.Promised.{Core, LeftAlone, left_proof, refused, short, unread, untouched}

-- a reader that wants no memory before the first byte
pub not_early : {A B : Type 0} → (IsTrue false × A) ⊎ B → B
not_early (inl early) = absurd (true≢false (sym early.0))
not_early (inr wants) = wants

some_same : {a b : List ℕ} {asked : Option (List ℕ)} → asked ≡ Some a → asked ≡ Some b → a ≡ b
some_same here there = inner (sym here ∙ there) where
  inner : {a b : List ℕ} → ◌≡◌ {A = Option (List ℕ)} (Some a) (Some b) → a ≡ b
  inner e = cc

none_given : {file : List ℕ} {asked : Option (List ℕ)} → asked ≡ None → asked ≡ Some file → ⊥
none_given none some = apart (sym none ∙ some) where
  apart : {file : List ℕ} → ◌≡◌ {A = Option (List ℕ)} None (Some file) → ⊥
  apart e = cc

-- the formula was not taken, by a command that makes no text
pub untaken : (run : Run) (asked : Command) (file : List ℕ) → command run.words ≡ Some asked → formula_file asked ≡ Some file
    → Untaken (mode_of asked) run.tells (streams_of run.before) (streams_of run.after) run.files file run.status → Core run
untaken run asked file gives named u = go u.error u.takes u.ends where
  text : {Answer : Result Formula CnfError → CnfText → Type 0} {result : Result Formula CnfError} {said : CnfText}
      → (says : ReadsText (cnf (mode_of asked)) Answer run.texts file (taken_in run Cnf) result)
      → cnf (mode_of asked) says.bytes ≡ said → cnf (mode_of asked) (taken_in run Cnf) ≡ said → IsRefusedBy run said
  text says told decided = record {
    asked = asked;
    asks = record {
      command = gives;
      file = file;
      named = named;
      read = record { bytes = says.bytes; stands = says.stands; says = told };
    };
    decided = decided;
  }

  is_open : TakesFormula (mode_of asked) run.tells (run.before Cnf) (run.after Cnf) run.files file (Err cnf_error.ReadFault)
      → IsTrue run.tells → IsOpenFormula run
  is_open takes t = record {
    asked = asked;
    given = gives;
    failed = takes.failed refl;
    undecided = takes.undecided t refl;
    before_others = others;
  } where
    others : (role : Role) → IsInput role → role ≢ Cnf → taken_in run role ≡ []
    others Cnf is other = absurd (other refl)
    others Order is other = untouched run Order u.order
    others Buckets is other = untouched run Buckets u.buckets
    others Schedule is other = untouched run Schedule u.schedule
    others ProofIn is other = untouched run ProofIn u.judged
    others Cubes is other = untouched run Cubes u.cubes
    others ProofOut is other = absurd is
    others Made is other = absurd is
    others Out is other = absurd is
    others ErrRole is other = absurd is

  rest : (role : Role) → role ≢ Cnf → role ≢ ErrRole → run.after role ≡ run.before role
  rest Cnf other _ = absurd (other refl)
  rest Order other _ = u.order
  rest Buckets other _ = u.buckets
  rest Schedule other _ = u.schedule
  rest ProofIn other _ = u.judged
  rest Cubes other _ = u.cubes
  rest ProofOut other _ = u.proof
  rest Made other _ = u.made
  rest Out other _ = u.out
  rest ErrRole _ other = absurd (other refl)

  no_file : {task : ToMake} → asked ≡ Make task → ⊥
  no_file e = apart (sym (ap formula_file e) ∙ named) where
    apart : ◌≡◌ {A = Option (List ℕ)} None (Some file) → ⊥
    apart e = cc

  alone : (status : Status) → LeftAlone run status
  alone status = record { proof = left_proof run u.proof; made = u.made; out = u.out; makes = λ make. absurd (no_file (same_command gives make.1)) }

  go : (error : CnfError) → TakesFormula (mode_of asked) run.tells (run.before Cnf) (run.after Cnf) run.files file (Err error) → run.status
      ≡ status_of_error error → Core run
  go (cnf_error.Refused kind line) takes ends =
      refused run asked gives (alone (CnfRefused kind line)) ends refl (λ e. cc)
      ((asked, gives, file, named), λ t. let says = text_read run.texts (λ e. cc) takes (run.fits Cnf tt file) t in text says says.told says.decided)
  go cnf_error.TooLong takes ends =
      refused run asked gives (alone (TooLong Cnf)) ends refl (λ e. cc) (
        (asked, gives, file, named),
        λ t. let says = text_read run.texts (λ e. cc) takes (run.fits Cnf tt file) t in
            text says says.told says.decided,
      )
  go cnf_error.ReadFault takes ends = unread run asked gives (alone ReadFault) ends
      (Cnf, tt, takes.failed refl, asked, file, gives, named) (λ t. inl (is_open takes t))
  go cnf_error.OutOfMemory takes ends = short run asked gives (alone OutOfMemory) (inr (inl (record {
    asked = asked;
    given = gives;
    file = file;
    named = named;
    wants = λ t. not_early (takes.memory t refl) run.texts (run.fits Cnf tt file);
    alone = rest;
  }))) ends

-- the formula that is asked for was read
pub formula_read : (mode : Mode) {tells : Bool} {old new : Channel} {files : Files} {file : List ℕ} {problem : Formula} (texts : Texts)
    → TakesFormula mode tells old new files file (Ok problem) → Fits files old new file texts → IsTrue tells
    → IsRead texts file (cnf mode) (formula problem)
formula_read mode texts takes fits t = let says = text_read texts (λ e. ok_err e) takes fits t in
    record { bytes = says.bytes; stands = says.stands; says = says.told }

pub took : (run : Run) (asked : Command) (file : List ℕ) (problem : Formula) → command run.words ≡ Some asked → formula_file asked
    ≡ Some file
    → TakesFormula (mode_of asked) run.tells (run.before Cnf) (run.after Cnf) run.files file (Ok problem) → IsTrue run.tells
    → AsksOver run asked (formula problem)
took run asked file problem gives named takes t = record {
  command = gives;
  file = file;
  named = named;
  read = formula_read (mode_of asked) run.texts takes (run.fits Cnf tt file) t;
}

-- a run of `solve` that nothing was written in
solve_alone : (run : Run) (task : ToSolve) → command run.words ≡ Some (Solve task) → run.after ProofOut ≡ run.before ProofOut
    → run.after Made ≡ run.before Made → run.after Out ≡ run.before Out
    → (status : Status) → LeftAlone run status
solve_alone run task gives proof made out status =
    record { proof = left_proof run proof; made = made; out = out; makes = λ make. absurd (decided_apart gives refl make.1 refl) }

-- the order that was had is the one that is asked for
pub ordered : {tells : Bool} {old new : Channel} {files : Files} (texts : Texts) (problem : Formula) {order : List ℕ}
    (file : Option (List ℕ)) → HasOrder problem.vars file tells old new files (Ok order)
    → ((name : List ℕ) → Fits files old new name texts) → IsTrue tells → IsOrdered texts file problem order
ordered texts problem None has fits t = (has.natural refl).made
ordered texts problem (Some file) has fits t = let says = text_read texts (λ e. ok_err e) (has.named file refl) (fits file) t in
    record { bytes = says.bytes; stands = says.stands; says = says.told }

-- and so are the plan and its order
pub planned : {tells : Bool} {old_buckets new_buckets old new : Channel} {files : Files} {problem : Formula} {given : List ℕ}
    {named : Option (List ℕ)} {order : List ℕ} {moves : List Move} (texts : Texts) (plan : Planned)
    → HasBuckets problem.vars (buckets_file plan) tells old_buckets new_buckets files (Ok named)
    → HasPlan problem given named plan tells old new files (Ok (basis_of order moves))
    → ((name : List ℕ) → Fits files old_buckets new_buckets name texts) → ((name : List ℕ) → Fits files old new name texts) → IsTrue tells
    → IsPlanned texts plan problem given order moves
planned texts (ByName name) bucketed has by_buckets fits t = let made = (has.named name refl).made in
    (ap (λ (b : Basis). b.order) made, ap (λ (b : Basis). b.plan) made)
planned texts (ByFile file) bucketed has by_buckets fits t =
    let s = has.scheduled file refl in
    let says = text_read texts (λ e. ok_err e) s.takes (fits file) t in
    (s.order, record { bytes = says.bytes; stands = says.stands; says = says.told })
planned {tells = tells} {old_buckets = old_buckets} {new_buckets = new_buckets} {files = files} {problem = problem} {given = given}
    {named = named} {order = order} {moves = moves} texts (ByBuckets file) bucketed has by_buckets fits t =
    let b = bucketed.named file refl in by b.0 b.1 b.2 where
      some : {read : List ℕ} → ◌≡◌ {A = Result (Option (List ℕ)) OrderError} (Ok named) (Ok (Some read)) → named ≡ Some read
      some e = cc

      by : (read : Result (List ℕ) OrderError) → TakesOrder problem.vars tells old_buckets new_buckets files file read
          → ◌≡◌ {A = Result (Option (List ℕ)) OrderError} (Ok named) (as_some read) → (order ≡ given) × AreByBuckets texts file problem moves
      by (Ok read) takes e =
          let says = text_read texts (λ e. ok_err e) takes (by_buckets file) t in
          let made = (has.bucketed file refl).made read (some e) in (
            ap (λ (b : Basis). b.order) made,
            record {
              buckets = read;
              read = record { bytes = says.bytes; stands = says.stands; says = says.told };
              planned = ap (λ (b : Basis). b.plan) made;
            },
          )
      by (Err error) takes e = absurd (ok_err e)
planned texts Found bucketed has by_buckets fits t = (has.found refl).found

-- the order was not had, by a command that goes by one
pub unordered : (run : Run) (asked : Command) (own : List ℕ) (order : Option (List ℕ)) → command run.words ≡ Some asked
    → formula_file asked ≡ Some own → name_given Order asked ≡ order → goes_by_order asked ≡ true
    → Unordered (mode_of asked) run.tells (streams_of run.before) (streams_of run.after) run.files own order run.status → Core run
unordered run asked own order gives called is goes u = by order refl u.orders where
  asks : IsTrue run.tells → AsksOver run asked (formula u.problem)
  asks = took run asked own u.problem gives called u.takes

  alone : (status : Status) → LeftAlone run status
  alone status = record {
    proof = left_proof run u.proof;
    made = u.made;
    out = u.out;
    makes = λ make. absurd (true≢false (sym goes ∙ ap goes_by_order (same_command gives make.1)));
  }

  wanted : (IsTrue run.tells → (file : List ℕ) → name_given Order asked ≡ Some file
      → WantsRead (order_wants u.problem.vars) run.texts file (taken_in run Order)) → MemoryIsWanted run
  wanted wants = inr (inr (inl (record {
    asked = asked;
    given = gives;
    by_order = goes;
    problem = u.problem;
    asks = asks;
    wants = wants;
    before_buckets = u.buckets;
    before_schedule = u.schedule;
    before_cubes = u.cubes;
    before_proof = u.proof;
  })))

  go : (file : List ℕ) → name_given Order asked ≡ Some file → (error : OrderError)
      → TakesOrder u.problem.vars run.tells (run.before Order) (run.after Order) run.files file (Err error) → run.status
      ≡ status_of_order error → Core run
  go file named error takes ends = by_error error takes ends where
    text : {Answer : Result (List ℕ) OrderError → OrderText → Type 0} {result : Result (List ℕ) OrderError} {said : OrderText}
        → IsTrue run.tells
        → (says : ReadsText (order_text u.problem.vars) Answer run.texts file (taken_in run Order) result)
        → order_text u.problem.vars says.bytes ≡ said → order_text u.problem.vars (taken_in run Order) ≡ said
        → OrderIsRefusedBy run said
    text t says told decided = record {
      problem = u.problem;
      asks = record {
        asked = asked;
        asks = asks t;
        file = file;
        named = named;
        read = record { bytes = says.bytes; stands = says.stands; says = told };
      };
      decided = decided;
    }

    by_error : (error : OrderError) → TakesOrder u.problem.vars run.tells (run.before Order) (run.after Order) run.files file (Err error)
        → run.status ≡ status_of_order error → Core run
    by_error (order_error.Refused kind line) takes ends =
        refused run asked gives (alone (OrderRefused kind line)) ends refl (λ e. cc)
        ((asked, gives, file, named), λ t. let says = text_read run.texts (λ e. cc) takes (run.fits Order tt file) t in text t says says.told says.decided)
    by_error order_error.TooLong takes ends =
        refused run asked gives (alone (TooLong Order)) ends refl (λ e. cc)
        ((asked, gives, file, named), λ t. let says = text_read run.texts (λ e. cc) takes (run.fits Order tt file) t in text t says says.told says.decided)
    by_error order_error.ReadFault takes ends = unread run asked gives (alone ReadFault) ends
        (Order, tt, takes.failed refl, asked, file, gives, named) (λ t. inr (inl (record {
          asked = asked;
          problem = u.problem;
          asks = asks t;
          file = file;
          named = named;
          failed = takes.failed refl;
          undecided = takes.undecided t refl;
          before_schedule = untouched run Schedule u.schedule;
          before_buckets = untouched run Buckets u.buckets;
          before_cubes = untouched run Cubes u.cubes;
        })))
    by_error order_error.OutOfMemory takes ends = short run asked gives (alone OutOfMemory)
        (wanted (λ t other same. subst (λ (f : List ℕ). WantsRead (order_wants u.problem.vars) run.texts f (taken_in run Order))
        (some_same named same) (not_early (takes.memory t refl) run.texts (run.fits Order tt file)))) ends

  by : (file : Option (List ℕ)) → order ≡ file → HasOrder u.problem.vars file run.tells (run.before Order) (run.after Order) run.files
      (Err u.error) → Core run
  by None named has = short run asked gives (alone OutOfMemory) (wanted (λ t other same. absurd (none_given (is ∙ named) same)))
      (u.ends ∙ ap status_of_order (has.natural refl).refused)
  by (Some file) named has = go file (is ∙ named) u.error (has.named file refl) u.ends

-- the order of the buckets was not had
pub unbucketed : (run : Run) (task : ToSolve) → command run.words ≡ Some (Solve task)
    → Unbucketed run.tells (streams_of run.before) (streams_of run.after) run.files task run.status → Core run
unbucketed run task gives u = by task.plan refl u.bucketed where
  asks : IsTrue run.tells → AsksOver run (Solve task) (formula u.problem)
  asks = took run (Solve task) task.file u.problem gives refl u.takes

  alone : (status : Status) → LeftAlone run status
  alone = solve_alone run task gives u.proof u.made u.out

  go : (file : List ℕ) → task.plan ≡ ByBuckets file → (error : OrderError)
      → TakesOrder u.problem.vars run.tells (run.before Buckets) (run.after Buckets) run.files file (Err error) → run.status
      ≡ status_of_buckets error → Core run
  go file named error takes ends = by_error error takes ends where
    text : {Answer : Result (List ℕ) OrderError → OrderText → Type 0} {result : Result (List ℕ) OrderError} {said : OrderText}
        → IsTrue run.tells
        → (says : ReadsText (order_text u.problem.vars) Answer run.texts file (taken_in run Buckets) result)
        → order_text u.problem.vars says.bytes ≡ said → order_text u.problem.vars (taken_in run Buckets) ≡ said
        → BucketsAreRefusedBy run said
    text t says told decided = record {
      problem = u.problem;
      asks = record {
        task = task;
        asks = asks t;
        order = u.given;
        ordered = ordered run.texts u.problem task.order u.orders (run.fits Order tt) t;
        file = file;
        named = named;
        read = record { bytes = says.bytes; stands = says.stands; says = told };
      };
      decided = decided;
    }

    by_error : (error : OrderError) → TakesOrder u.problem.vars run.tells (run.before Buckets) (run.after Buckets) run.files file (Err error)
        → run.status ≡ status_of_buckets error → Core run
    by_error (order_error.Refused kind line) takes ends =
        refused run (Solve task) gives (alone (BucketsRefused kind line)) ends refl (λ e. cc)
        ((task, gives, file, named), λ t. let says = text_read run.texts (λ e. cc) takes (run.fits Buckets tt file) t in text t says says.told says.decided)
    by_error order_error.TooLong takes ends =
        refused run (Solve task) gives (alone (TooLong Buckets)) ends refl (λ e. cc)
        ((task, gives, file, named), λ t. let says = text_read run.texts (λ e. cc) takes (run.fits Buckets tt file) t in text t says says.told says.decided)
    by_error order_error.ReadFault takes ends = unread run (Solve task) gives (alone ReadFault) ends
        (Buckets, tt, takes.failed refl, Solve task, file, gives, ap buckets_file named) (λ t. inr (inr (inl (record {
          task = task;
          problem = u.problem;
          asks = asks t;
          order = u.given;
          ordered = ordered run.texts u.problem task.order u.orders (run.fits Order tt) t;
          file = file;
          named = named;
          failed = takes.failed refl;
          undecided = takes.undecided t refl;
          before_schedule = untouched run Schedule u.schedule;
        }))))
    by_error order_error.OutOfMemory takes ends = short run (Solve task) gives (alone OutOfMemory) (inr (inr (inr (inl (record {
      task = task;
      given = gives;
      problem = u.problem;
      asks = asks;
      order = u.given;
      ordered = ordered run.texts u.problem task.order u.orders (run.fits Order tt);
      file = file;
      named = named;
      wants = λ t. not_early (takes.memory t refl) run.texts (run.fits Buckets tt file);
      before_schedule = u.schedule;
      before_proof = u.proof;
    }))))) ends

  no_file : {error : OrderError} → ◌≡◌ {A = Result (Option (List ℕ)) OrderError} (Err error) (Ok None) → ⊥
  no_file e = ok_err (sym e)

  by : (plan : Planned) → task.plan ≡ plan
      → HasBuckets u.problem.vars (buckets_file plan) run.tells (run.before Buckets) (run.after Buckets) run.files (Err u.error) → Core run
  by (ByName name) named has = absurd (no_file (has.none refl).0)
  by (ByFile file) named has = absurd (no_file (has.none refl).0)
  by (ByBuckets file) named has = let b = has.named file refl in from b.0 b.1 b.2 where
    from : (read : Result (List ℕ) OrderError)
        → TakesOrder u.problem.vars run.tells (run.before Buckets) (run.after Buckets) run.files file read
        → ◌≡◌ {A = Result (Option (List ℕ)) OrderError} (Err u.error) (as_some read) → Core run
    from (Ok order) takes e = absurd (ok_err (sym e))
    from (Err error) takes e = go file named error takes (u.ends ∙ ap status_of_buckets (same_error e))
  by Found named has = absurd (no_file (has.none refl).0)

-- the plan was not had
pub unplanned : (run : Run) (task : ToSolve) → command run.words ≡ Some (Solve task)
    → Unplanned run.tells (streams_of run.before) (streams_of run.after) run.files task run.status → Core run
unplanned run task gives u = by task.plan refl u.plans where
  asks : IsTrue run.tells → AsksOver run (Solve task) (formula u.problem)
  asks = took run (Solve task) task.file u.problem gives refl u.takes

  alone : (status : Status) → LeftAlone run status
  alone = solve_alone run task gives u.proof u.made u.out

  bucket_order : IsTrue run.tells → (file : List ℕ) → task.plan ≡ ByBuckets file
      → (buckets : List ℕ) × IsRead run.texts file (order_text u.problem.vars) (given_order buckets)
  bucket_order t file same = let b = u.bucketed.named file (ap buckets_file same) in from b.0 b.1 b.2 where
    from : (read : Result (List ℕ) OrderError)
        → TakesOrder u.problem.vars run.tells (run.before Buckets) (run.after Buckets) run.files file read
        → ◌≡◌ {A = Result (Option (List ℕ)) OrderError} (Ok u.named) (as_some read)
        → (buckets : List ℕ) × IsRead run.texts file (order_text u.problem.vars) (given_order buckets)
    from (Ok order) takes e = let says = text_read run.texts (λ e. ok_err e) takes (run.fits Buckets tt file) t in
        (order, record { bytes = says.bytes; stands = says.stands; says = says.told })
    from (Err error) takes e = absurd (ok_err e)

  wanted : (IsTrue run.tells → (file : List ℕ) → task.plan ≡ ByFile file → (taken_in run Schedule ≡ [])
      ⊎ WantsRead (schedule_wants u.problem) run.texts file (taken_in run Schedule)) → MemoryIsWanted run
  wanted wants = inr (inr (inr (inr (inl (record {
    task = task;
    given = gives;
    problem = u.problem;
    asks = asks;
    order = u.given;
    ordered = ordered run.texts u.problem task.order u.orders (run.fits Order tt);
    bucketed = bucket_order;
    wants = wants;
    before_proof = u.proof;
  })))))

  -- no schedule is named
  unscheduled : {plan : Planned} → task.plan ≡ plan → ((file : List ℕ) → plan ≡ ByFile file → ⊥) → MemoryIsWanted run
  unscheduled named other = wanted (λ t file same. absurd (other file (sym named ∙ same)))

  go : (file : List ℕ) → task.plan ≡ ByFile file → (error : PlanError)
      → TakesSchedule u.problem run.tells (run.before Schedule) (run.after Schedule) run.files file (Err error) → run.status
      ≡ status_of_plan error → Core run
  go file named error takes ends = by_error error takes ends where
    text : {Answer : Result (List Move) PlanError → ScheduleText → Type 0} {result : Result (List Move) PlanError} {said : ScheduleText}
        → IsTrue run.tells
        → (says : ReadsText (schedule u.problem) Answer run.texts file (taken_in run Schedule) result) → schedule u.problem says.bytes
        ≡ said → schedule u.problem (taken_in run Schedule) ≡ said
        → ScheduleIsRefusedBy run said
    text t says told decided = record {
      problem = u.problem;
      asks = record {
        task = task;
        asks = asks t;
        order = u.given;
        ordered = ordered run.texts u.problem task.order u.orders (run.fits Order tt) t;
        file = file;
        named = named;
        read = record { bytes = says.bytes; stands = says.stands; says = told };
      };
      decided = decided;
    }

    by_error : (error : PlanError) → TakesSchedule u.problem run.tells (run.before Schedule) (run.after Schedule) run.files file (Err error)
        → run.status ≡ status_of_plan error → Core run
    by_error (plan_error.Refused kind line) takes ends =
        refused run (Solve task) gives (alone (PlanRefused kind line)) ends refl (λ e. cc)
        ((task, gives, file, named), λ t. let says = text_read run.texts (λ e. cc) takes (run.fits Schedule tt file) t in text t says says.told says.decided)
    by_error plan_error.TooLong takes ends =
        refused run (Solve task) gives (alone (TooLong Schedule)) ends refl (λ e. cc)
        ((task, gives, file, named), λ t. let says = text_read run.texts (λ e. cc) takes (run.fits Schedule tt file) t in text t says says.told says.decided)
    by_error plan_error.ReadFault takes ends = unread run (Solve task) gives (alone ReadFault) ends
        (Schedule, tt, takes.failed refl, Solve task, file, gives, ap schedule_file named) (λ t. inr (inr (inr (inl (record {
          task = task;
          problem = u.problem;
          asks = asks t;
          order = u.given;
          ordered = ordered run.texts u.problem task.order u.orders (run.fits Order tt) t;
          file = file;
          named = named;
          failed = takes.failed refl;
          undecided = takes.undecided t refl;
        })))))
    by_error plan_error.OutOfMemory takes ends = short run (Solve task) gives (alone OutOfMemory)
        (wanted (λ t other same. subst (λ (f : List ℕ). (taken_in run Schedule ≡ [])
        ⊎ WantsRead (schedule_wants u.problem) run.texts f (taken_in run Schedule)) (same_file (sym named ∙ same))
        (none_or (takes.memory t refl)))) ends where
          same_file : {a b : List ℕ} → ByFile a ≡ ByFile b → a ≡ b
          same_file e = cc

          none_or : {A B : Type 0}
              → (A × B) ⊎ ((texts : Texts) → Fits run.files (run.before Schedule) (run.after Schedule) file texts
              → WantsRead (schedule_wants u.problem) texts file (taken_in run Schedule))
              → B ⊎ WantsRead (schedule_wants u.problem) run.texts file (taken_in run Schedule)
          none_or (inl none) = inl none.1
          none_or (inr wants) = inr (wants run.texts (run.fits Schedule tt file))

  by : (plan : Planned) → task.plan ≡ plan
      → HasPlan u.problem u.given u.named plan run.tells (run.before Schedule) (run.after Schedule) run.files (Err u.error) → Core run
  by (ByName name) named has = short run (Solve task) gives (alone OutOfMemory) (unscheduled named (λ file e. cc))
      (u.ends ∙ ap status_of_plan (has.named name refl).refused)
  by (ByFile file) named has = go file named u.error (has.scheduled file refl).takes u.ends
  by (ByBuckets file) named has = short run (Solve task) gives (alone OutOfMemory) (unscheduled named (λ file e. cc))
      (u.ends ∙ ap status_of_plan (has.bucketed file refl).refused)
  by Found named has = short run (Solve task) gives (alone OutOfMemory) (unscheduled named (λ file e. cc))
      (u.ends ∙ ap status_of_plan (has.found refl).refused)
