-- A set of variables, by what is kept of the variables and the terms.
use Rattle.std.proofs.Common.{◌≡◌, ◌∙◌, ◌<◌, ◌≤◌, ◌&&◌, ◌||◌, ◌==◌, ◌++◌, ◌+◌, ℕ, Bool, true, false, List, [], ◌∷◌, None, Some, length, reverse}
use Rattle.std.proofs.Common.{refl, sym, ap, subst, arith, eq-eqb, ne_eqb}
use Rattle.std.specs.Prelude.{if◌then◌else◌, nat_le, nat_lt, slice_index_or}
use Rattle.std.specs.List.{list_all, list_any}
use Rattle.std.proofs.lemmas.Bool.{and_from, eqb-true, leb-true, lt-ltb}
use Rattle.std.proofs.lemmas.Bool.Decides.{nat_tests}
use Rattle.cnf_base.specs.Formula.{Formula}
use Rattle.schedule_plan.specs.declared.plan.Move.TheVariants.{ExistsAll}
use Rattle.schedule_plan.specs.declared.schedule.error.PlanKind.TheVariants.{VariableInUse, VariableRange}
use Rattle.schedule_plan.specs.declared.schedule.judge.ScheduleJudge.{ScheduleJudge}
use Rattle.schedule_plan.specs.declared.schedule.uses.Use.{Use}
use Rattle.schedule_plan.specs.Plan.{Stage, Term, after_all, after_moves, holds_later, no_stage, some_value, term_has}
use Rattle.schedule_plan.specs.ScheduleText.{fault_of_all, fault_of_move, is_in_use, is_out_of_range}
use Rattle.schedule_plan.specs.ScheduleState.{AreStarts, IsAt, IsUse, is_among, is_used, never, use_at, use_behind, when_quantified}
use Rattle.schedule_plan.specs.SetMove.{quantified_by, staged, trail_by}
use Rattle.schedule_plan.proofs.SetMoves.{both_false, from_not, possible_set}
use Rattle.schedule_plan.proofs.Standing.{possible_behind}
use Rattle.schedule_plan.proofs.Starts.{any_stacked, starts_exists, starts_kept}
use Rattle.schedule_plan.proofs.Steps.{Topped, topped}
use Rattle.schedule_plan.proofs.ToCome.{to_come_later}

-- Tests over all variables of a set.
no_bool : {T : Type 0} → true ≡ false → T
no_bool is = cc

none_of : (p : ℕ → Bool) (xs : List ℕ) (x : ℕ) → list_any p xs ≡ false → is_among xs x ≡ true → p x ≡ false
none_of p [] x none among = no_bool (sym among)
none_of p (y ∷ xs) x none among =
    let neither = both_false (p y) (list_any p xs) none in
    elim (x == y) as (λ b. (x == y) ≡ b → (b || is_among xs x) ≡ true → p x ≡ false) [
      | true ↦ λ is more. ap p (eqb-true x y is) ∙ neither.0
      | false ↦ λ is more. none_of p xs x neither.1 more
    ] refl among

none_too : (p q : ℕ → Bool) → ((x : ℕ) → p x ≡ false → q x ≡ false) → (xs : List ℕ) → list_any p xs ≡ false → list_any q xs ≡ false
none_too p q less [] none = refl
none_too p q less (x ∷ xs) none =
    let neither = both_false (p x) (list_any p xs) none in
    ap (λ (b : Bool). b || list_any q xs) (less x neither.0) ∙ none_too p q less xs neither.1

all_too : (p q : ℕ → Bool) → ((x : ℕ) → p x ≡ false → q x ≡ true) → (xs : List ℕ) → list_any p xs ≡ false → list_all q xs ≡ true
all_too p q more [] none = refl
all_too p q more (x ∷ xs) none =
    let neither = both_false (p x) (list_any p xs) none in
    and_from (q x) (list_all q xs) (more x neither.0) (all_too p q more xs neither.1)

both_true : (a b : Bool) → (a && b) ≡ true → (a ≡ true) × (b ≡ true)
both_true true b is = (refl, is)
both_true false b is = no_bool (sym is)

pub record IsWithin (formula : Formula) (x : ℕ) : Type 0 where
  pub positive : nat_lt 0 x ≡ true
  pub small : nat_le x formula.vars ≡ true

pub within_of : (formula : Formula) (x : ℕ) → is_out_of_range formula x ≡ false → IsWithin formula x
within_of formula x inside =
    let both = both_true (nat_lt 0 x) (nat_le x formula.vars) (from_not (nat_lt 0 x && nat_le x formula.vars) inside) in
    record { positive = both.0; small = both.1 }

-- The faults.
module _ (formula : Formula) (judge : ScheduleJudge) (stage : Stage) (start : ℕ) (at : IsAt formula judge stage)
    (on : Topped formula judge stage start) where
  used_by : (x : ℕ) → is_out_of_range formula x ≡ false → is_in_use formula on.rest stage.pushed x ≡ is_used judge.uses.items start x
  used_by x inside =
      let earliest : ℕ → ℕ = λ y. (use_at judge.uses.items y).earliest in
      let small : x ≤ formula.vars = leb-true x formula.vars (within_of formula x inside).small in
      let others : list_any (term_has formula x) on.rest ≡ nat_lt (earliest x) start = sym
      (any_stacked formula earliest on.rest on.starts start x on.below small) in
      let later : holds_later formula stage.pushed x (length formula.clauses) ≡ nat_lt 0 (use_at judge.uses.items x).to_come =
      sym (to_come_later formula stage.pushed x (length formula.clauses)) ∙ ap (λ n. nat_lt 0 n) (sym (at.uses x small).right) in
      ap (λ b. b || holds_later formula stage.pushed x (length formula.clauses)) others
      ∙ ap (λ b. nat_lt (earliest x) start || b) later

  any_used : (xs : List ℕ) → list_any (is_out_of_range formula) xs ≡ false
      → list_any (is_in_use formula on.rest stage.pushed) xs ≡ list_any (is_used judge.uses.items start) xs
  any_used [] inside = refl
  any_used (x ∷ xs) inside =
      let each = both_false (is_out_of_range formula x) (list_any (is_out_of_range formula) xs) inside in
      ap (λ b. b || list_any (is_in_use formula on.rest stage.pushed) xs) (used_by x each.0)
      ∙ ap (λ b. is_used judge.uses.items start x || b) (any_used xs each.1)

  -- of the terms as they stand
  tested : (xs : List ℕ) → list_any (is_out_of_range formula) xs ≡ false
      → fault_of_all formula stage xs (on.top ∷ on.rest) ≡ (if list_any (is_used judge.uses.items start) xs then Some VariableInUse else None)
  tested xs inside =
      ap (λ b. if b then Some VariableRange else if list_any (is_in_use formula on.rest stage.pushed) xs then Some VariableInUse else None) inside
      ∙ ap (λ b. if b then Some VariableInUse else None) (any_used xs inside)

  pub all_fault : (xs : List ℕ) → list_any (is_out_of_range formula) xs ≡ false
      → fault_of_move formula stage (ExistsAll xs) ≡ (if list_any (is_used judge.uses.items start) xs then Some VariableInUse else None)
  all_fault xs inside = ap (fault_of_all formula stage xs) on.is ∙ tested xs inside

-- Where the terms begin among the pushes.
past : (e s : ℕ) → s ≤ e → nat_lt e s ≡ false
past e s within = grind (arith, nat_tests)

turned : (a b : Bool) (n e : ℕ) → (if a || b then n else e) ≡ (if b then n else (if a then n else e))
turned true true n e = refl
turned true false n e = refl
turned false true n e = refl
turned false false n e = refl

late_too : (b : Bool) (e start : ℕ) → start ≤ never → nat_lt e start ≡ false → nat_lt (if b then never else e) start ≡ false
late_too true e start few free = past never start few
late_too false e start few free = free

starts_all : (formula : Formula) (xs : List ℕ) (earliest later : ℕ → ℕ) (top : Term) (rest : List Term) (start : ℕ) (starts : List ℕ)
    (end : ℕ) → end ≤ never → list_all (λ x. nat_le x formula.vars) xs ≡ true → list_any (λ x. nat_lt (earliest x) start) xs ≡ false
    → ((y : ℕ) → later y ≡ (if is_among xs y then never else earliest y))
    → AreStarts formula earliest (top ∷ rest) (start ∷ starts) end
    → AreStarts formula later (quantified_by xs top ∷ rest) (start ∷ starts) end
starts_all formula [] earliest later top rest start starts end few small free is are =
    starts_kept formula earliest later end (λ x s within under. ap (λ e. nat_lt e s) (is x)) (top ∷ rest) (start ∷ starts) end (omega arith) are
starts_all formula (x ∷ xs) earliest later top rest start starts end few small free is are =
    let mid : ℕ → ℕ = λ y. if y == x then never else earliest y in
    let inside = both_true (nat_le x formula.vars) (list_all (λ y. nat_le y formula.vars) xs) small in
    let neither = both_false (nat_lt (earliest x) start) (list_any (λ y. nat_lt (earliest y) start) xs) free in
    starts_all formula xs mid later (some_value x top) rest start starts end few inside.1
    (none_too (λ y. nat_lt (earliest y) start) (λ y. nat_lt (mid y) start)
    (λ y late. late_too (y == x) (earliest y) start (omega (arith, are.0, few)) late) xs neither.1)
    (λ y. is y ∙ turned (y == x) (is_among xs y) never (earliest y))
    (starts_exists formula earliest mid x top rest start starts end few (leb-true x formula.vars inside.0) neither.0
    (ap (λ b. if b then never else earliest x) (eq-eqb x x refl))
    (λ y differ. ap (λ b. if b then never else earliest y) (ne_eqb y x (λ same. differ (sym same)))) are)

earliest_if : (b : Bool) (one : Use) → (if b then when_quantified one else one).earliest ≡ (if b then never else one.earliest)
earliest_if true one = refl
earliest_if false one = refl

no_more : (n : ℕ) → nat_lt 0 n ≡ false → n ≡ 0
no_more n none = grind (arith, nat_tests, none)

-- The set is quantified.
pub all_stands : (formula : Formula) (old new : ScheduleJudge) (stage : Stage) (xs : List ℕ) (start : ℕ)
    → length formula.clauses ≤ 10000000 → IsAt formula old stage → Topped formula old stage start
    → list_any (is_out_of_range formula) xs ≡ false → list_any (is_used old.uses.items start) xs ≡ false
    → new.moves.items ≡ old.moves.items ++ ExistsAll xs ∷ [] → length new.uses.items ≡ length old.uses.items
    → ((x : ℕ) → use_at new.uses.items x ≡ use_behind xs old.uses.items x)
    → new.flags ≡ old.flags → new.starts ≡ old.starts → new.pushes ≡ old.pushes → (later : Stage) × IsAt formula new later
all_stands formula old new stage xs start few at on inside free moves count uses flags starts pushes =
    let earliest : ℕ → ℕ = λ y. (use_at old.uses.items y).earliest in
    let later : Stage = staged (quantified_by xs on.top ∷ on.rest) stage.pushed (trail_by xs on.top stage.trail) in
    let none : fault_of_all formula stage xs (on.top ∷ on.rest) ≡ None =
    tested formula old stage start at on xs inside ∙ ap (λ b. if b then Some VariableInUse else None) free in
    let step : after_all formula stage xs ≡ Some later =
    ap (λ s. after_all formula (staged s stage.pushed stage.trail) xs) on.is
    ∙ possible_set formula on.top on.rest stage.pushed stage.trail xs none in
    let bound : old.pushes ≤ never = omega (arith, few, at.pushes) in
    let are : AreStarts formula earliest (on.top ∷ on.rest) (start ∷ on.starts) old.pushes =
    subst (λ l. AreStarts formula earliest (on.top ∷ on.rest) l old.pushes) on.first
    (subst (λ s. AreStarts formula earliest s (reverse old.starts.items) old.pushes) on.is at.starts) in (
      later,
      record {
        possible = ap (after_moves formula no_stage) moves ∙ possible_behind formula old.moves.items stage later (ExistsAll xs) at.possible step;
        use_count = count ∙ at.use_count;
        flag_count = ap (λ v. length v.items) flags ∙ at.flag_count;
        flags = λ i from to. ap (λ v. slice_index_or v.items i false) flags ∙ at.flags i from to;
        pushes = rw pushes at.pushes;
        uses = λ y small. subst (λ p. IsUse formula stage.pushed p y (use_at new.uses.items y)) (sym pushes)
            (subst (λ u. IsUse formula stage.pushed old.pushes y u) (sym (uses y))
            (elim (is_among xs y) as (λ b. is_among xs y ≡ b
            → IsUse formula stage.pushed old.pushes y (if b then when_quantified (use_at old.uses.items y) else use_at old.uses.items y)) [
              | true ↦ λ among.
                  let unused = both_false (nat_lt (earliest y) start) (nat_lt 0 (use_at old.uses.items y).to_come)
                  (none_of (is_used old.uses.items start) xs y free among) in
                  record {
                    right = sym (no_more (use_at old.uses.items y).to_come unused.1) ∙ (at.uses y small).right;
                    seen = (at.uses y small).seen;
                    earliest = λ late. refl;
                  }
              | false ↦ λ _. at.uses y small
            ] refl));
        starts = subst (λ p. AreStarts formula (λ y. (use_at new.uses.items y).earliest) later.stack (reverse new.starts.items) p) (sym pushes)
            (subst (λ l. AreStarts formula (λ y. (use_at new.uses.items y).earliest) later.stack l old.pushes) (sym on.first
            ∙ ap (λ v. reverse v.items) (sym starts))
            (starts_all formula xs earliest (λ y. (use_at new.uses.items y).earliest) on.top on.rest start on.starts old.pushes bound
            (all_too (is_out_of_range formula) (λ y. nat_le y formula.vars) (λ y within. (within_of formula y within).small) xs inside)
            (none_too (is_used old.uses.items start) (λ y. nat_lt (earliest y) start)
            (λ y unused. (both_false (nat_lt (earliest y) start) (nat_lt 0 (use_at old.uses.items y).to_come) unused).0) xs free)
            (λ y. ap (λ (u : Use). u.earliest) (uses y) ∙ earliest_if (is_among xs y) (use_at old.uses.items y)) are));
      },
    )

-- all of them are below a bound
pub all_below : (formula : Formula) (xs : List ℕ) (bound : ℕ) → formula.vars < bound → list_any (is_out_of_range formula) xs ≡ false
    → list_all (λ x. nat_lt x bound) xs ≡ true
all_below formula xs bound few inside =
    all_too (is_out_of_range formula) (λ x. nat_lt x bound)
    (λ x within. lt-ltb x bound (omega (arith, few, leb-true x formula.vars (within_of formula x within).small))) xs inside

-- the fault as the tests found it
pub judged : (formula : Formula) (judge : ScheduleJudge) (stage : Stage) (xs : List ℕ) (uses : List Use) (start n : ℕ) (used : Bool)
    → IsAt formula judge stage → length judge.starts.items ≡ n + 1 → start ≡ slice_index_or judge.starts.items n start
    → list_any (is_out_of_range formula) xs ≡ false → uses ≡ judge.uses.items → list_any (is_used uses start) xs ≡ used
    → fault_of_move formula stage (ExistsAll xs) ≡ (if used then Some VariableInUse else None)
judged formula judge stage xs uses start n used at count first inside same is =
    all_fault formula judge stage start at (topped formula judge stage n start start at count first) xs inside
    ∙ ap (λ (b : Bool). if b then Some VariableInUse else None) (ap (λ (l : List Use). list_any (is_used l start) xs) (sym same) ∙ is)
