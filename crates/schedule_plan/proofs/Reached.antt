-- The stages that are reached: a move without a fault is possible, and no more terms are stacked than clauses are pushed.
use Rattle.std.proofs.Common.{◌≡◌, ℕ, ◌+◌, ◌<◌, ◌≤◌, Bool, true, false, ◌||◌, ◌&&◌, List, [], ◌∷◌, ◌++◌, length, Option, None, Some, Result}
use Rattle.std.proofs.Common.{Ok, Err, refl, sym, ap, subst, ◌∙◌, arith}
use Rattle.std.specs.Prelude.{not, nat_lt, nat_le, if◌then◌else◌}
use Rattle.std.specs.List.{list_any}
use Rattle.std.specs.Option.{option_and_then}
use Rattle.std.proofs.lemmas.Bool.Decides.{nat_tests}
use Rattle.cnf_base.specs.Formula.{Formula}
use Rattle.schedule_plan.specs.declared.plan.Move.{Move}
use Rattle.schedule_plan.specs.declared.plan.Move.TheVariants.{Push, And, Exists, ExistsAll}
use Rattle.schedule_plan.specs.declared.schedule.error.PlanKind.{PlanKind}
use Rattle.schedule_plan.specs.declared.schedule.error.PlanKind.TheVariants.{ClauseRange, ClauseTwice, StackShort, VariableRange}
use Rattle.schedule_plan.specs.declared.schedule.error.PlanKind.TheVariants.{VariableInUse}
use Rattle.schedule_plan.specs.Plan.{Term, input, both, some_value, Stage, no_stage, is_pushed, holds_later, term_has, after_move}
use Rattle.schedule_plan.specs.Plan.{after_moves, after_all, after_and, after_exists}
use Rattle.schedule_plan.specs.ScheduleText.{fault_of_move, fault_of_all, fault_of_exists, taken}
use Rattle.schedule_plan.specs.SetMove.{quantified_by, staged, trail_by}
use Rattle.schedule_plan.specs.ScheduleState.{to_come, any_clause}
use Rattle.schedule_plan.proofs.SetMoves.{possible_set}
use Rattle.schedule_plan.proofs.Standing.{possible_behind, refused, accepted}
use Rattle.schedule_plan.proofs.ToCome.{to_come_push, none_pushed}

-- a move without a fault is possible
abbrev pub Possible : Formula → Stage → Move → Type 0
Possible formula stage move = (later : Stage) × (after_move formula stage move ≡ Some later)

push_test : (within was : Bool) (later : Stage) → (if not within then Some ClauseRange else if was then Some ClauseTwice else None) ≡ None
    → (if within && not was then Some later else None) ≡ Some later
push_test true true later e = cc
push_test true false later e = refl
push_test false was later e = cc

and_possible : (stage : Stage) (stack : List Term) → (if nat_lt (length stack) 2 then Some StackShort else None) ≡ None → (later : Stage)
    × (after_and stage stack ≡ Some later)
and_possible stage [] e = absurd (let no : ◌≡◌ {A = Option PlanKind} (Some StackShort) None = e in cc)
and_possible stage (top ∷ []) e = absurd (let no : ◌≡◌ {A = Option PlanKind} (Some StackShort) None = e in cc)
and_possible stage (top ∷ below ∷ rest) e = (record { stack = both below top ∷ rest; pushed = stage.pushed; trail = stage.trail }, refl)

exists_test : (positive small others to_come : Bool) (later : Stage)
    → (if not (positive && small) then Some VariableRange else if others || to_come then Some VariableInUse else None) ≡ None
    → (if positive && small && not others && not to_come then Some later else None) ≡ Some later
exists_test true true true b later e = cc
exists_test true true false true later e = cc
exists_test true true false false later e = refl
exists_test true false others b later e = cc
exists_test false small others b later e = cc

exists_possible : (formula : Formula) (stage : Stage) (x : ℕ) (stack : List Term) → fault_of_exists formula stage x stack ≡ None
    → (later : Stage) × (after_exists formula stage x stack ≡ Some later)
exists_possible formula stage x [] e = absurd (let no : ◌≡◌ {A = Option PlanKind} (Some StackShort) None = e in cc)
exists_possible formula stage x (top ∷ rest) e =
    let later : Stage = record { stack = some_value x top ∷ rest; pushed = stage.pushed; trail = (x, top) ∷ stage.trail } in (
      later,
      exists_test (nat_lt 0 x) (nat_le x formula.vars) (list_any (term_has formula x) rest)
          (holds_later formula stage.pushed x (length formula.clauses)) later e,
    )

all_possible : (formula : Formula) (stack : List Term) (pushed : List ℕ) (trail : List (ℕ × Term)) (xs : List ℕ)
    → fault_of_all formula (staged stack pushed trail) xs stack ≡ None → (later : Stage)
    × (after_all formula (staged stack pushed trail) xs ≡ Some later)
all_possible formula [] pushed trail xs e = absurd (let no : ◌≡◌ {A = Option PlanKind} (Some StackShort) None = e in cc)
all_possible formula (top ∷ rest) pushed trail xs e = (
  staged (quantified_by xs top ∷ rest) pushed (trail_by xs top trail),
  possible_set formula top rest pushed trail xs e,
)

push_shape : (a b c : Bool) (later : Stage) → (if (a && b) && not c then Some later else None) ≡ Some later
    → (if a && b && not c then Some later else None) ≡ Some later
push_shape true b c later e = e
push_shape false b c later e = e

pub fault_free : (formula : Formula) (stage : Stage) (move : Move) → fault_of_move formula stage move ≡ None → Possible formula stage move
fault_free formula stage (Push i) e =
    let later : Stage = record { stack = input i ∷ stage.stack; pushed = i ∷ stage.pushed; trail = stage.trail } in (
      later,
      push_shape (nat_lt 0 i) (nat_le i (length formula.clauses)) (is_pushed stage.pushed i) later
          (push_test (nat_lt 0 i && nat_le i (length formula.clauses)) (is_pushed stage.pushed i) later e),
    )
fault_free formula stage And e = and_possible stage stage.stack e
fault_free formula stage (Exists x) e = exists_possible formula stage x stage.stack e
fault_free formula stage (ExistsAll xs) e = all_possible formula stage.stack stage.pushed stage.trail xs e

-- the moves so far are possible
pub record Reached (formula : Formula) (done : List Move) : Type 0 where
  pub stage : Stage
  pub possible : after_moves formula no_stage done ≡ Some stage

pub reached_none : (formula : Formula) → Reached formula []
reached_none formula = record { stage = no_stage; possible = refl }

pub reached_next : (formula : Formula) (done : List Move) (move : Move) (on : Reached formula done) → fault_of_move formula on.stage move
    ≡ None → Reached formula (done ++ move ∷ [])
reached_next formula done move on free =
    let next = fault_free formula on.stage move free in
    record { stage = next.0; possible = possible_behind formula done on.stage next.0 move on.possible next.1 }

pub ok_is : {a b : List Move} → ◌≡◌ {A = Result (List Move) PlanKind} (Ok a) (Ok b) → a ≡ b
ok_is e = cc

pub err_is_ok : {a : PlanKind} {b : List Move} → ◌≡◌ {A = Result (List Move) PlanKind} (Err a) (Ok b) → ⊥
err_is_ok e = cc

-- moves that are taken are possible
pub taken_reached : (formula : Formula) (moves done later : List Move) → Reached formula done → taken formula done moves ≡ Ok later
    → Reached formula later
taken_reached formula [] done later on e = subst (Reached formula) (ok_is e) on
taken_reached formula (move ∷ moves) done later on e =
    elim (fault_of_move formula on.stage move) as (λ f. fault_of_move formula on.stage move ≡ f → Reached formula later) [
      | None ↦ λ free. taken_reached formula moves (done ++ move ∷ []) later (reached_next formula done move on free)
          (sym (accepted formula done on.stage move moves on.possible free) ∙ e)
      | Some kind ↦ λ fault. absurd (err_is_ok (sym (refused formula done on.stage move moves kind on.possible fault) ∙ e))
    ] refl

-- no more terms are stacked than clauses are pushed
abbrev Few : Formula → Stage → Type 0
Few formula stage = length stage.stack + to_come any_clause stage.pushed (length formula.clauses) ≤ length formula.clauses

some_is : {a b : Stage} → ◌≡◌ {A = Option Stage} (Some a) (Some b) → a ≡ b
some_is e = cc

none_is_some : {b : Stage} → ◌≡◌ {A = Option Stage} None (Some b) → ⊥
none_is_some e = cc

few_push : (formula : Formula) (stage later : Stage) (i : ℕ) (positive small was : Bool) → nat_lt 0 i ≡ positive
    → nat_le i (length formula.clauses) ≡ small → is_pushed stage.pushed i ≡ was
    → (if positive && small && not was then Some (record {
      stack = input i ∷ stage.stack;
      pushed = i
          ∷ stage.pushed;
      trail = stage.trail;
    }) else None) ≡ Some later
    → Few formula stage → Few formula later
few_push formula stage later i true true false p s w e few =
    let from : 0 < i = grind (arith, nat_tests, p) in
    let to : i ≤ length formula.clauses = grind (arith, nat_tests, s) in
    let one : to_come any_clause stage.pushed (length formula.clauses) ≡ 1
    + to_come any_clause (i ∷ stage.pushed) (length formula.clauses) =
    to_come_push any_clause stage.pushed i (length formula.clauses) from to w in
    subst (Few formula) (some_is e) (omega (arith, one, few))
few_push formula stage later i true true true p s w e few = absurd (none_is_some e)
few_push formula stage later i true false was p s w e few = absurd (none_is_some e)
few_push formula stage later i false small was p s w e few = absurd (none_is_some e)

few_and : (formula : Formula) (stage later : Stage) (stack : List Term) → stage.stack ≡ stack → after_and stage stack ≡ Some later
    → Few formula stage → Few formula later
few_and formula stage later [] is e few = absurd (none_is_some e)
few_and formula stage later (top ∷ []) is e few = absurd (none_is_some e)
few_and formula stage later (top ∷ below ∷ rest) is e few = subst (Few formula) (some_is e) (omega (arith, ap length is, few))

few_if : (formula : Formula) (b : Bool) (next later : Stage) → (if b then Some next else None) ≡ Some later → Few formula next
    → Few formula later
few_if formula true next later e few = subst (Few formula) (some_is e) few
few_if formula false next later e few = absurd (none_is_some e)

few_exists : (formula : Formula) (stage later : Stage) (x : ℕ) (stack : List Term) → stage.stack ≡ stack
    → after_exists formula stage x stack ≡ Some later → Few formula stage → Few formula later
few_exists formula stage later x [] is e few = absurd (none_is_some e)
few_exists formula stage later x (top ∷ rest) is e few =
    few_if formula (nat_lt 0 x && nat_le x formula.vars && not (list_any (term_has formula x) rest)
    && not (holds_later formula stage.pushed x (length formula.clauses)))
    (record { stack = some_value x top ∷ rest; pushed = stage.pushed; trail = (x, top) ∷ stage.trail }) later e
    (omega (arith, ap length is, few))

few_all : (formula : Formula) (xs : List ℕ) (stage later : Stage) → after_all formula stage xs ≡ Some later → Few formula stage
    → Few formula later
few_all formula [] stage later e few = subst (Few formula) (some_is e) few
few_all formula (x ∷ xs) stage later e few =
    elim (after_exists formula stage x stage.stack) as (λ o. after_exists formula stage x stage.stack ≡ o
    → option_and_then (λ s. after_all formula s xs) o ≡ Some later → Few formula later) [
      | None ↦ λ is ends. absurd (none_is_some ends)
      | Some next ↦ λ is ends. few_all formula xs next later ends (few_exists formula stage next x stage.stack refl is few)
    ] refl e

few_move : (formula : Formula) (stage later : Stage) (move : Move) → after_move formula stage move ≡ Some later → Few formula stage
    → Few formula later
few_move formula stage later (Push i) e few =
    few_push formula stage later i (nat_lt 0 i) (nat_le i (length formula.clauses)) (is_pushed stage.pushed i) refl refl refl e few
few_move formula stage later And e few = few_and formula stage later stage.stack refl e few
few_move formula stage later (Exists x) e few = few_exists formula stage later x stage.stack refl e few
few_move formula stage later (ExistsAll xs) e few = few_all formula xs stage later e few

few_moves : (formula : Formula) (moves : List Move) (stage later : Stage) → after_moves formula stage moves ≡ Some later → Few formula stage
    → Few formula later
few_moves formula [] stage later e few = subst (Few formula) (some_is e) few
few_moves formula (move ∷ moves) stage later e few =
    elim (after_move formula stage move) as (λ o. after_move formula stage move ≡ o → option_and_then (λ s. after_moves formula s moves) o
    ≡ Some later → Few formula later) [
      | None ↦ λ is ends. absurd (none_is_some ends)
      | Some next ↦ λ is ends. few_moves formula moves next later ends (few_move formula stage next move is few)
    ] refl e

pub few_stacked : (formula : Formula) (done : List Move) (on : Reached formula done) → length on.stage.stack ≤ length formula.clauses
few_stacked formula done on = omega (
  arith,
  few_moves formula done no_stage on.stage on.possible
      (omega (arith, none_pushed (length formula.clauses))),
)
