-- What having an order, that of the buckets and a plan leave of their streams, with a file and without one.
use Rattle.std.proofs.Common.{◌≡◌, ℕ, Bool, List, refl, ap, ◌∙◌, subst, Some, None, inl, inr}
use Rattle.std.specs.Prelude.{Option, Result, Ok, Err, ◌≢◌, ◌⊎◌}
use Rattle.cnf_base.specs.Formula.{Formula}
use Rattle.host_io.specs.Channel.{Channel}
use Rattle.host_io.specs.Files.{Files}
use Rattle.schedule_plan.specs.declared.order_error.OrderError.{OrderError}
use Rattle.schedule_plan.specs.declared.order_error.OrderError.TheVariants.{ReadFault as OrderFault, OutOfMemory as OrderMemory}
use Rattle.schedule_plan.specs.declared.schedule.error.PlanError.{PlanError}
use Rattle.schedule_plan.specs.declared.schedule.error.PlanError.TheVariants.{ReadFault as PlanFault, OutOfMemory as PlanMemory}
use Rattle.command_line.specs.Command.{Planned, ByName, ByFile, ByBuckets, Found}
use Rattle.cnf_base.specs.Order.{natural}
use Rattle.command_line.specs.declared.plan.PlanName.{PlanName}
use Rattle.solver_cli.specs.Answer.{moves_of_plan}
use Rattle.solver_cli.specs.declared.basis.Basis.{Basis}
use Rattle.solver_cli.specs.Phases.{Makes, Schedules, TakesOrder, HasOrder, HasBuckets, HasPlan}
use Rattle.solver_cli.specs.Phases.{as_some, basis_of, moves_in}
use Rattle.solver_cli.proofs.Reading.{ok_err, same_error}
use Rattle.solver_cli.specs.Run.{schedule_file}

-- no byte was written, and the count stayed where no call failed
pub record IsServed {T E : Type 0} (fault : E) (old new : Channel) (result : Result T E) : Type 0 where
  pub written : new.written ≡ old.written
  pub unfailed : result ≢ Err fault → new.faults ≡ old.faults

pub order_served : {tells : Bool} {old new : Channel} {files : Files} {vars : ℕ} {result : Result (List ℕ) OrderError}
    (file : Option (List ℕ)) → HasOrder vars file tells old new files result → IsServed OrderFault old new result
order_served None has = let made = has.natural refl in record {
  written = ap (λ (c : Channel). c.written) made.same;
  unfailed = λ _. ap (λ (c : Channel). c.faults) made.same;
}
order_served (Some file) has = let takes = has.named file refl in record { written = takes.written; unfailed = takes.unfailed }

pub buckets_served : {tells : Bool} {old new : Channel} {files : Files} {vars : ℕ} {result : Result (Option (List ℕ)) OrderError}
    (file : Option (List ℕ)) → HasBuckets vars file tells old new files result → IsServed OrderFault old new result
buckets_served None has = let none = has.none refl in record {
  written = ap (λ (c : Channel). c.written) none.1;
  unfailed = λ _. ap (λ (c : Channel). c.faults) none.1;
}
buckets_served (Some file) has = let named = has.named file refl in
    record { written = named.1.written; unfailed = λ differs. named.1.unfailed (λ e. differs (named.2 ∙ ap as_some e)) }

-- a schedule that was refused
moves_failed : (result : Result Basis PlanError) {error : PlanError} → moves_in result ≡ Err error → result ≡ Err error
moves_failed (Ok basis) e = absurd (ok_err e)
moves_failed (Err other) e = ap Err (same_error e)

pub plan_served : {tells : Bool} {old new : Channel} {files : Files} {problem : Formula} {given : List ℕ} {buckets : Option (List ℕ)}
    {result : Result Basis PlanError} (plan : Planned) → HasPlan problem given buckets plan tells old new files result
    → IsServed PlanFault old new result
plan_served (ByName name) has = let made = has.named name refl in
    record { written = ap (λ (c : Channel). c.written) made.same; unfailed = λ _. ap (λ (c : Channel). c.faults) made.same }
plan_served {result = result} (ByFile file) has = let takes = (has.scheduled file refl).takes in
    record { written = takes.written; unfailed = λ differs. takes.unfailed (λ e. differs (moves_failed result e)) }
plan_served (ByBuckets file) has = let made = has.bucketed file refl in
    record { written = ap (λ (c : Channel). c.written) made.same; unfailed = λ _. ap (λ (c : Channel). c.faults) made.same }
plan_served Found has = let found = has.found refl in
    record { written = ap (λ (c : Channel). c.written) found.same; unfailed = λ _. ap (λ (c : Channel). c.faults) found.same }

-- the name is the old one, or that of the file, or none
pub order_name : {tells : Bool} {old new : Channel} {files : Files} {vars : ℕ} {result : Result (List ℕ) OrderError}
    (file : Option (List ℕ)) → HasOrder vars file tells old new files result
    → (new.name ≡ old.name) ⊎ ((new.name ≡ file) ⊎ (new.name ≡ None))
order_name None has = inl (ap (λ (c : Channel). c.name) (has.natural refl).same)
order_name (Some file) has = inr (has.named file refl).name

pub buckets_name : {tells : Bool} {old new : Channel} {files : Files} {vars : ℕ} {result : Result (Option (List ℕ)) OrderError}
    (file : Option (List ℕ)) → HasBuckets vars file tells old new files result
    → (new.name ≡ old.name) ⊎ ((new.name ≡ file) ⊎ (new.name ≡ None))
buckets_name None has = inl (ap (λ (c : Channel). c.name) (has.none refl).1)
buckets_name (Some file) has = inr (has.named file refl).1.name

pub plan_name : {tells : Bool} {old new : Channel} {files : Files} {problem : Formula} {given : List ℕ} {buckets : Option (List ℕ)}
    {result : Result Basis PlanError} (plan : Planned) → HasPlan problem given buckets plan tells old new files result
    → (new.name ≡ old.name) ⊎ ((new.name ≡ schedule_file plan) ⊎ (new.name ≡ None))
plan_name (ByName name) has = inl (ap (λ (c : Channel). c.name) (has.named name refl).same)
plan_name (ByFile file) has = inr (has.scheduled file refl).takes.name
plan_name (ByBuckets file) has = inl (ap (λ (c : Channel). c.name) (has.bucketed file refl).same)
plan_name Found has = inl (ap (λ (c : Channel). c.name) (has.found refl).same)

-- the two ways of having one
pub natural_had : {tells : Bool} {old new : Channel} {files : Files} {vars : ℕ} {result : Result (List ℕ) OrderError}
    → Makes (natural vars) OrderMemory old new result
    → HasOrder vars None tells old new files result
natural_had made = record { natural = λ _. made; named = λ file e. absurd (apart e) } where
  apart : {file : List ℕ} → ◌≡◌ {A = Option (List ℕ)} None (Some file) → ⊥
  apart e = cc

pub order_had : {tells : Bool} {old new : Channel} {files : Files} {vars : ℕ} {result : Result (List ℕ) OrderError} {file : List ℕ}
    → TakesOrder vars tells old new files file result
    → HasOrder vars (Some file) tells old new files result
order_had {tells = tells} {old = old} {new = new} {files = files} {vars = vars} {result = result} takes = record {
  natural = λ e. absurd (apart e);
  named = λ other e. subst (λ (f : List ℕ). TakesOrder vars tells old new files f result) (inner e) takes;
} where
  apart : {file : List ℕ} → ◌≡◌ {A = Option (List ℕ)} (Some file) None → ⊥
  apart e = cc

  inner : {a b : List ℕ} → ◌≡◌ {A = Option (List ℕ)} (Some a) (Some b) → a ≡ b
  inner e = cc

pub no_buckets : {tells : Bool} {old new : Channel} {files : Files} {vars : ℕ} {result : Result (Option (List ℕ)) OrderError} → result
    ≡ Ok None → new ≡ old → HasBuckets vars None tells old new files result
no_buckets is same = record { none = λ _. (is, same); named = λ file e. absurd (apart e) } where
  apart : {file : List ℕ} → ◌≡◌ {A = Option (List ℕ)} None (Some file) → ⊥
  apart e = cc

pub named_had : {tells : Bool} {old new : Channel} {files : Files} {problem : Formula} {given : List ℕ} {buckets : Option (List ℕ)}
    {result : Result Basis PlanError} {name : PlanName}
    → Makes (basis_of given (moves_of_plan name problem given)) PlanMemory old new result
    → HasPlan problem given buckets (ByName name) tells old new files result
named_had {old = old} {new = new} {problem = problem} {given = given} {result = result} made = record {
  named = λ other e. subst (λ (n : PlanName). Makes (basis_of given (moves_of_plan n problem given)) PlanMemory old new result)
      (inner e) made;
  scheduled = λ file e. absurd (no_file e);
  bucketed = λ file e. absurd (no_buckets e);
  found = λ e. absurd (not_found e);
} where
  no_file : {name : PlanName} {file : List ℕ} → ByName name ≡ ByFile file → ⊥
  no_file e = cc

  no_buckets : {name : PlanName} {file : List ℕ} → ByName name ≡ ByBuckets file → ⊥
  no_buckets e = cc

  not_found : {name : PlanName} → ByName name ≡ Found → ⊥
  not_found e = cc

  inner : {a b : PlanName} → ByName a ≡ ByName b → a ≡ b
  inner e = cc

pub schedule_had : {tells : Bool} {old new : Channel} {files : Files} {problem : Formula} {given : List ℕ} {buckets : Option (List ℕ)}
    {result : Result Basis PlanError} {file : List ℕ} → Schedules problem given tells old new files file result
    → HasPlan problem given buckets (ByFile file) tells old new files result
schedule_had {tells = tells} {old = old} {new = new} {files = files} {problem = problem} {given = given} {result = result} has = record {
  named = λ name e. absurd (no_name e);
  scheduled = λ other e. subst (λ (f : List ℕ). Schedules problem given tells old new files f result) (inner e) has;
  bucketed = λ file e. absurd (no_buckets e);
  found = λ e. absurd (not_found e);
} where
  no_name : {name : PlanName} {file : List ℕ} → ByFile file ≡ ByName name → ⊥
  no_name e = cc

  no_buckets : {file other : List ℕ} → ByFile file ≡ ByBuckets other → ⊥
  no_buckets e = cc

  not_found : {file : List ℕ} → ByFile file ≡ Found → ⊥
  not_found e = cc

  inner : {a b : List ℕ} → ByFile a ≡ ByFile b → a ≡ b
  inner e = cc
