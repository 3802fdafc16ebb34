-- What is kept is of the next stage, once a move is made.
use Rattle.std.proofs.Common.{◌≡◌, ℕ, zero, suc, ◌+◌, ◌-◌, ◌<◌, ◌≤◌, Bool, true, false, ◌||◌, ◌&&◌, List, [], ◌∷◌, ◌++◌, length, take, set}
use Rattle.std.proofs.Common.{reverse, None, Some, Result, Err, inl, inr, refl, sym, ap, subst, ◌∙◌, arith, eq-eqb, ne_eqb, length-set}
use Rattle.std.specs.Prelude.{not, nat_lt, nat_le, min, if◌then◌else◌, slice_index_or, replicate}
use Rattle.std.specs.List.{list_any}
use Rattle.std.specs.Option.{option_and_then}
use Rattle.std.proofs.lemmas.Bool.{cases_eq, and_from, lt-ltb, le-leb}
use Rattle.std.proofs.lemmas.Bool.Decides.{nat_tests}
use Rattle.std.proofs.lemmas.List.{get_or-set_same, get_or-set_other, reverse-append, take_more, length-reverse}
use Rattle.cnf_base.specs.Formula.{Formula}
use Rattle.schedule_plan.specs.declared.plan.Move.{Move}
use Rattle.schedule_plan.specs.declared.plan.Move.TheVariants.{Push, And, Exists}
use Rattle.schedule_plan.specs.declared.schedule.uses.Use.{Use}
use Rattle.schedule_plan.specs.declared.schedule.judge.ScheduleJudge.{ScheduleJudge}
use Rattle.schedule_plan.specs.Plan.{Term, input, both, some_value, Stage, no_stage, is_pushed, holds_later, term_has, clause_has}
use Rattle.schedule_plan.specs.Plan.{clause_of_number, after_move, after_moves, after_and, after_exists, IsAdmissible}
use Rattle.schedule_plan.specs.ScheduleState.{AreStarts, IsUse, IsAt, never, use_at, no_use, changed, with_push, to_come, any_clause, holds}
use Rattle.schedule_plan.specs.declared.schedule.error.PlanKind.{PlanKind}
use Rattle.schedule_plan.specs.declared.schedule.error.PlanKind.TheVariants.{StackShort, VariableRange, VariableInUse, ClauseUnused}
use Rattle.schedule_plan.specs.declared.schedule.error.PlanKind.TheVariants.{TermsLeft}
use Rattle.schedule_plan.specs.ScheduleText.{fault_of_move, fault_of_exists, fault_at_end, end_fault_behind, all_pushed, unless, taken}
use Rattle.schedule_plan.proofs.Standing.{possible_behind, refused, accepted}
use Rattle.schedule_plan.proofs.ToCome.{to_come_push, to_come_later, to_come_all, each_pushed}
use Rattle.schedule_plan.proofs.Starts.{any_stacked, as_many, starts_push, starts_and, starts_exists}

take_whole : (xs : List ℕ) → take (length xs) xs ≡ xs
take_whole [] = refl
take_whole (x ∷ xs) = ap (λ l. x ∷ l) (take_whole xs)

-- the last of a list is the first of it backwards
pub last_first : (xs : List ℕ) (n d : ℕ) → length xs ≡ n + 1 → reverse xs ≡ slice_index_or xs n d ∷ reverse (take n xs)
last_first xs n d count =
    let whole : take (n + 1) xs ≡ xs = ap (λ k. take k xs) (sym count) ∙ take_whole xs in
    ap reverse (sym whole ∙ take_more xs n d (omega (arith, count))) ∙ reverse-append (take n xs) (slice_index_or xs n d ∷ [])

-- A clause is pushed.
abbrev next_use : ℕ → ℕ → Use → Use
next_use mark place u = record { to_come = u.to_come - 1; earliest = min u.earliest place; seen = mark }

unmarked : (mark place : ℕ) (has : Bool) (u : Use) → u.seen < mark → (if has then with_push mark place u else u)
    ≡ (if has then next_use mark place u else u)
unmarked mark place true u fresh = ap (λ b. if b then u else next_use mark place u)
    (ne_eqb u.seen mark (λ same. omega (arith, fresh, same)))
unmarked mark place false u fresh = refl

least : (e p : ℕ) → p + 1 ≤ min e p → ⊥
least e p late = omega (arith, late)

use_pushed : (formula : Formula) (pushed : List ℕ) (pushes i x : ℕ) (u : Use) (has : Bool) → clause_has x (clause_of_number formula i) ≡ has
    → 0 < i → i ≤ length formula.clauses
    → is_pushed pushed i ≡ false → IsUse formula pushed pushes x u
    → IsUse formula (i ∷ pushed) (pushes + 1) x (if has then next_use (length formula.clauses + 1 + pushes) pushes u else u)
use_pushed formula pushed pushes i x u true is positive small new was =
    let one : to_come (holds formula x) pushed (length formula.clauses) ≡ 1
    + to_come (holds formula x) (i ∷ pushed) (length formula.clauses) =
    to_come_push (holds formula x) pushed i (length formula.clauses) positive small new
    ∙ ap (λ (b : Bool). (if b then 1 else 0) + to_come (holds formula x) (i ∷ pushed) (length formula.clauses)) is in
    record {
      right = omega (arith, one, was.right);
      seen = omega arith;
      earliest = λ late. absurd (least u.earliest pushes late);
    }
use_pushed formula pushed pushes i x u false is positive small new was =
    let none : to_come (holds formula x) pushed (length formula.clauses) ≡ 0
    + to_come (holds formula x) (i ∷ pushed) (length formula.clauses) =
    to_come_push (holds formula x) pushed i (length formula.clauses) positive small new
    ∙ ap (λ (b : Bool). (if b then 1 else 0) + to_come (holds formula x) (i ∷ pushed) (length formula.clauses)) is in
    record {
      right = omega (arith, none, was.right);
      seen = omega (arith, was.seen);
      earliest = λ late. was.earliest (omega (arith, late));
    }

plus_one : (n : ℕ) → n + 1 ≡ suc n
plus_one n = omega arith

earliest_if : (has : Bool) (mark place : ℕ) (u : Use) → (if has then next_use mark place u else u).earliest
    ≡ (if has then min u.earliest place else u.earliest)
earliest_if true mark place u = refl
earliest_if false mark place u = refl

pub push_step : (formula : Formula) (stage : Stage) (i : ℕ) → 0 < i → i ≤ length formula.clauses → is_pushed stage.pushed i ≡ false
    → after_move formula stage (Push i) ≡ Some (record { stack = input i ∷ stage.stack; pushed = i ∷ stage.pushed; trail = stage.trail })
push_step formula stage i positive small fresh =
    ap (λ b. if b then Some (record { stack = input i ∷ stage.stack; pushed = i ∷ stage.pushed; trail = stage.trail }) else None)
    (and_from (nat_lt 0 i && nat_le i (length formula.clauses)) (not (is_pushed stage.pushed i))
    (and_from (nat_lt 0 i) (nat_le i (length formula.clauses)) (lt-ltb 0 i positive) (le-leb i (length formula.clauses) small))
    (ap not fresh))

pub exists_step : (formula : Formula) (stage : Stage) (x : ℕ) (top : Term) (rest : List Term) → 0 < x → x ≤ formula.vars
    → list_any (term_has formula x) rest ≡ false
    → holds_later formula stage.pushed x (length formula.clauses) ≡ false
    → after_exists formula stage x (top ∷ rest) ≡ Some (record {
      stack = some_value x top ∷ rest;
      pushed = stage.pushed;
      trail = (x, top)
          ∷ stage.trail;
    })
exists_step formula stage x top rest positive small others later =
    ap (λ b. if b then Some (record { stack = some_value x top ∷ rest; pushed = stage.pushed; trail = (x, top) ∷ stage.trail }) else None)
    (and_from (nat_lt 0 x && nat_le x formula.vars && not (list_any (term_has formula x) rest))
    (not (holds_later formula stage.pushed x (length formula.clauses)))
    (and_from (nat_lt 0 x && nat_le x formula.vars) (not (list_any (term_has formula x) rest))
    (and_from (nat_lt 0 x) (nat_le x formula.vars) (lt-ltb 0 x positive) (le-leb x formula.vars small)) (ap not others)) (ap not later))

pub push_at : (formula : Formula) (old new : ScheduleJudge) (stage : Stage) (i : ℕ) → length formula.clauses ≤ 10000000
    → IsAt formula old stage → 0
    < i → i ≤ length formula.clauses
    → is_pushed stage.pushed i ≡ false
    → after_move formula stage (Push i) ≡ Some (record { stack = input i ∷ stage.stack; pushed = i ∷ stage.pushed; trail = stage.trail })
    → new.moves.items ≡ old.moves.items ++ Push i ∷ [] → length new.uses.items ≡ length old.uses.items
    → ((x : ℕ) → use_at new.uses.items x ≡ changed (with_push (length formula.clauses + 1 + old.pushes) old.pushes)
    (clause_of_number formula i) old.uses.items x)
    → new.flags.items ≡ set old.flags.items i true → new.starts.items ≡ old.starts.items ++ old.pushes ∷ [] → new.pushes ≡ old.pushes + 1
    → IsAt formula new (record { stack = input i ∷ stage.stack; pushed = i ∷ stage.pushed; trail = stage.trail })
push_at formula old new stage i few at positive small fresh step moves count uses flags starts pushes =
    let later : (x : ℕ) → x ≤ formula.vars → use_at new.uses.items x
    ≡ (if clause_has x (clause_of_number formula i) then next_use (length formula.clauses + 1
    + old.pushes) old.pushes (use_at old.uses.items x) else use_at old.uses.items x) =
    λ x within. uses x ∙ unmarked (length formula.clauses + 1 + old.pushes) old.pushes (clause_has x (clause_of_number formula i))
    (use_at old.uses.items x)
    (omega (arith, (at.uses x within).seen)) in
    record {
      possible = ap (after_moves formula no_stage) moves ∙ possible_behind formula old.moves.items stage
          (record { stack = input i ∷ stage.stack; pushed = i ∷ stage.pushed; trail = stage.trail }) (Push i) at.possible step;
      use_count = count ∙ at.use_count;
      flag_count = ap length flags ∙ length-set old.flags.items i true ∙ at.flag_count;
      flags = λ j from to. ap (λ (l : List Bool). slice_index_or l j false) flags ∙ elim (cases_eq i j) [
        | inl same ↦ ap (λ k. slice_index_or (set old.flags.items i true) k false) (sym same)
            ∙ get_or-set_same old.flags.items i true false (omega (arith, at.flag_count, small))
            ∙ sym (ap (λ b. b || is_pushed stage.pushed j) (eq-eqb i j same))
        | inr differ ↦ get_or-set_other old.flags.items i j true false (λ same. differ (sym same)) ∙ at.flags j from to
            ∙ sym (ap (λ b. b || is_pushed stage.pushed j) (ne_eqb i j differ))
      ];
      pushes = omega (arith, pushes, at.pushes, to_come_push any_clause stage.pushed i (length formula.clauses) positive small fresh);
      uses = λ x within. subst (λ p. IsUse formula (i ∷ stage.pushed) p x (use_at new.uses.items x)) (sym pushes)
          (subst (λ u. IsUse formula (i ∷ stage.pushed) (old.pushes + 1) x u) (sym (later x within))
          (use_pushed formula stage.pushed old.pushes i x (use_at old.uses.items x)
          (clause_has x (clause_of_number formula i)) refl positive small fresh (at.uses x within)));
      starts = subst (λ p. AreStarts formula (λ x. (use_at new.uses.items x).earliest) (input i ∷ stage.stack) (reverse new.starts.items) p)
          (sym (pushes ∙ plus_one old.pushes))
          (subst (λ l. AreStarts formula (λ x. (use_at new.uses.items x).earliest) (input i ∷ stage.stack) l (suc old.pushes))
          (sym (ap reverse starts ∙ reverse-append old.starts.items (old.pushes ∷ [])))
          (starts_push formula (λ x. (use_at old.uses.items x).earliest) (λ x. (use_at new.uses.items x).earliest) stage.stack
          (reverse old.starts.items) old.pushes i
          (omega (arith, few, at.pushes)) (λ x within. (at.uses x within).earliest)
          (λ x within. ap (λ (u : Use). u.earliest) (later x within)
          ∙ earliest_if (clause_has x (clause_of_number formula i)) (length formula.clauses + 1
          + old.pushes) old.pushes (use_at old.uses.items x))
          at.starts));
    }

rev_count : (xs : List ℕ) → length (reverse xs) ≡ length xs
rev_count xs = length-reverse xs

-- The two top terms are conjoined.
record Conjoined (formula : Formula) (earliest : ℕ → ℕ) (stage : Stage) (starts : List ℕ) (end : ℕ) : Type 0 where
  later : Stage
  step : after_and stage stage.stack ≡ Some later
  pushed : later.pushed ≡ stage.pushed
  are : AreStarts formula earliest later.stack starts end

conjoined : (formula : Formula) (earliest : ℕ → ℕ) (stage : Stage) (stack : List Term) (start : ℕ) (starts : List ℕ) (end : ℕ) → stage.stack
    ≡ stack → 1 ≤ length starts
    → AreStarts formula earliest stack (start ∷ starts) end → Conjoined formula earliest stage starts end
conjoined formula earliest stage [] start starts end is two are = absurd are
conjoined formula earliest stage (top ∷ rest) start [] end is two are = absurd (omega (arith, two))
conjoined formula earliest stage (top ∷ []) start (next ∷ starts) end is two are = absurd are.2
conjoined formula earliest stage (top ∷ below ∷ rest) start (next ∷ starts) end is two are = record {
  later = record { stack = both below top ∷ rest; pushed = stage.pushed; trail = stage.trail };
  step = ap (after_and stage) is;
  pushed = refl;
  are = starts_and formula earliest top below rest start next starts end are;
}

pub and_at : (formula : Formula) (old new : ScheduleJudge) (stage : Stage) → IsAt formula old stage → 2 ≤ length old.starts.items
    → new.moves.items ≡ old.moves.items ++ And ∷ [] → new.uses ≡ old.uses → new.flags ≡ old.flags → new.starts.items
    ≡ take (length old.starts.items - 1) old.starts.items → new.pushes ≡ old.pushes
    → (later : Stage) × IsAt formula new later
and_at formula old new stage at two moves uses flags starts pushes =
    let count = length old.starts.items - 1 in
    let first : reverse old.starts.items ≡ slice_index_or old.starts.items count 0 ∷ reverse new.starts.items =
    last_first old.starts.items count 0 (omega (arith, two)) ∙ ap (λ l. slice_index_or old.starts.items count 0 ∷ reverse l) (sym starts) in
    let earliest : ℕ → ℕ = λ x. (use_at old.uses.items x).earliest in
    let are : AreStarts formula earliest stage.stack (slice_index_or old.starts.items count 0
    ∷ reverse new.starts.items) old.pushes = subst (λ l. AreStarts formula earliest stage.stack l old.pushes) first at.starts in
    let more : 1 ≤ length (reverse new.starts.items) = omega (arith, two, ap length first, rev_count old.starts.items) in
    let next = conjoined formula earliest stage stage.stack (slice_index_or old.starts.items count 0)
    (reverse new.starts.items) old.pushes refl more are in (
      next.later,
      record {
        possible = ap (after_moves formula no_stage) moves
            ∙ possible_behind formula old.moves.items stage next.later And at.possible next.step;
        use_count = ap (λ v. length v.items) uses ∙ at.use_count;
        flag_count = ap (λ v. length v.items) flags ∙ at.flag_count;
        flags = λ i from to. ap (λ v. slice_index_or v.items i false) flags ∙ at.flags i from to
            ∙ ap (λ l. is_pushed l i) (sym next.pushed);
        pushes = rw (pushes, next.pushed) at.pushes;
        uses = λ x within. rw (pushes, next.pushed, uses) (at.uses x within);
        starts = rw (pushes, uses) next.are;
      },
    )

-- A variable is quantified from the top term.
pub exists_at : (formula : Formula) (old new : ScheduleJudge) (stage : Stage) (x : ℕ) (top : Term) (rest : List Term)
    (start : ℕ) (starts : List ℕ) (seen : ℕ) → length formula.clauses ≤ 10000000 → IsAt formula old stage → stage.stack ≡ top ∷ rest → reverse old.starts.items ≡ start ∷ starts → x ≤ formula.vars
    → nat_lt (use_at old.uses.items x).earliest start ≡ false → (use_at old.uses.items x).to_come ≡ 0 → (use_at old.uses.items x).seen
    ≡ seen
    → after_exists formula stage x (top ∷ rest) ≡ Some (record {
      stack = some_value x top ∷ rest;
      pushed = stage.pushed;
      trail = (x, top)
          ∷ stage.trail;
    })
    → new.moves.items ≡ old.moves.items ++ Exists x ∷ [] → new.uses.items
    ≡ set old.uses.items x (record { to_come = 0; earliest = never; seen = seen })
    → new.flags ≡ old.flags → new.starts ≡ old.starts → new.pushes ≡ old.pushes
    → IsAt formula new (record { stack = some_value x top ∷ rest; pushed = stage.pushed; trail = (x, top) ∷ stage.trail })
exists_at formula old new stage x top rest start starts seen few at is first within free none seen_is step moves uses flags same_starts
    pushes =
    let quantified : Use = record { to_come = 0; earliest = never; seen = seen } in
    let earliest : ℕ → ℕ = λ y. (use_at old.uses.items y).earliest in
    let small : x < length old.uses.items = omega (arith, at.use_count, within) in
    let here : use_at new.uses.items x ≡ quantified = ap (λ l. use_at l x) uses
    ∙ get_or-set_same old.uses.items x quantified no_use small in
    let there : (y : ℕ) → (x ≡ y → ⊥) → use_at new.uses.items y ≡ use_at old.uses.items y =
    λ y differ. ap (λ l. use_at l y) uses ∙ get_or-set_other old.uses.items x y quantified no_use (λ same. differ (sym same)) in
    let bound : old.pushes ≤ never = omega (arith, few, at.pushes) in
    let are : AreStarts formula earliest (top ∷ rest) (start ∷ starts) old.pushes =
    subst (λ l. AreStarts formula earliest (top ∷ rest) l old.pushes) first
    (subst (λ s. AreStarts formula earliest s (reverse old.starts.items) old.pushes) is at.starts) in
    record {
      possible = ap (after_moves formula no_stage) moves
          ∙ possible_behind formula old.moves.items stage (record {
            stack = some_value x top ∷ rest;
            pushed = stage.pushed;
            trail = (x, top)
                ∷ stage.trail;
          }) (Exists x) at.possible
          (ap (after_exists formula stage x) is ∙ step);
      use_count = ap length uses ∙ length-set old.uses.items x quantified ∙ at.use_count;
      flag_count = ap (λ v. length v.items) flags ∙ at.flag_count;
      flags = λ i from to. ap (λ v. slice_index_or v.items i false) flags ∙ at.flags i from to;
      pushes = rw pushes at.pushes;
      uses = λ y small. subst (λ p. IsUse formula stage.pushed p y (use_at new.uses.items y)) (sym pushes) (elim (cases_eq x y) [
        | inl same ↦ subst (λ z. IsUse formula stage.pushed old.pushes z (use_at new.uses.items z)) same
            (subst (λ u. IsUse formula stage.pushed old.pushes x u) (sym here) (record {
              right = sym none ∙ (at.uses x within).right;
              seen = omega (arith, seen_is, (at.uses x within).seen);
              earliest = λ late. refl;
            }))
        | inr differ ↦ subst (λ u. IsUse formula stage.pushed old.pushes y u) (sym (there y differ)) (at.uses y small)
      ]);
      starts = subst (λ p. AreStarts formula (λ y. (use_at new.uses.items y).earliest) (some_value x top
          ∷ rest) (reverse new.starts.items) p) (sym pushes)
          (subst (λ l. AreStarts formula (λ y. (use_at new.uses.items y).earliest) (some_value x top ∷ rest) l old.pushes) (sym first
          ∙ ap (λ v. reverse v.items) (sym same_starts))
          (starts_exists formula earliest (λ y. (use_at new.uses.items y).earliest) x top rest start starts old.pushes bound within free
          (ap (λ (u : Use). u.earliest) here) (λ y differ. ap (λ (u : Use). u.earliest) (there y differ)) are));
    }

-- the top term and its first push
pub record Topped (formula : Formula) (judge : ScheduleJudge) (stage : Stage) (start : ℕ) : Type 0 where
  pub top : Term
  pub rest : List Term
  pub starts : List ℕ
  pub is : stage.stack ≡ top ∷ rest
  pub first : reverse judge.starts.items ≡ start ∷ starts
  pub below : AreStarts formula (λ x. (use_at judge.uses.items x).earliest) rest starts start

topped_by : (formula : Formula) (judge : ScheduleJudge) (stage : Stage) (stack : List Term) (start : ℕ) (starts : List ℕ)
    → stage.stack ≡ stack
    → reverse judge.starts.items ≡ start ∷ starts
    → AreStarts formula (λ x. (use_at judge.uses.items x).earliest) stack (start ∷ starts) judge.pushes → Topped formula judge stage start
topped_by formula judge stage [] start starts is first are = absurd are
topped_by formula judge stage (top ∷ rest) start starts is first are = record {
  top = top;
  rest = rest;
  starts = starts;
  is = is;
  first = first;
  below = are.2;
}

pub topped : (formula : Formula) (judge : ScheduleJudge) (stage : Stage) (n d start : ℕ) → IsAt formula judge stage
    → length judge.starts.items ≡ n
    + 1 → start ≡ slice_index_or judge.starts.items n d
    → Topped formula judge stage start
topped formula judge stage n d start at count is =
    let first : reverse judge.starts.items ≡ start ∷ reverse (take n judge.starts.items) =
    last_first judge.starts.items n d count ∙ ap (λ s. s ∷ reverse (take n judge.starts.items)) (sym is) in
    topped_by formula judge stage stage.stack start (reverse (take n judge.starts.items)) refl first
    (subst (λ l. AreStarts formula (λ x. (use_at judge.uses.items x).earliest) stage.stack l judge.pushes) first at.starts)

pub exists_fault : (formula : Formula) (judge : ScheduleJudge) (stage : Stage) (x start : ℕ) → IsAt formula judge stage
    → Topped formula judge stage start → 0 < x → x ≤ formula.vars
    → fault_of_move formula stage (Exists x) ≡ (if nat_lt (use_at judge.uses.items x).earliest start
    || nat_lt 0 (use_at judge.uses.items x).to_come then Some VariableInUse else None)
exists_fault formula judge stage x start at on positive small =
    let earliest : ℕ → ℕ = λ y. (use_at judge.uses.items y).earliest in
    let within : (nat_lt 0 x && nat_le x formula.vars) ≡ true = and_from (nat_lt 0 x) (nat_le x formula.vars) (lt-ltb 0 x positive)
    (le-leb x formula.vars small) in
    let others : list_any (term_has formula x) on.rest ≡ nat_lt (earliest x) start = sym
    (any_stacked formula earliest on.rest on.starts start x on.below small) in
    let later : holds_later formula stage.pushed x (length formula.clauses) ≡ nat_lt 0 (use_at judge.uses.items x).to_come =
    sym (to_come_later formula stage.pushed x (length formula.clauses)) ∙ ap (λ n. nat_lt 0 n) (sym (at.uses x small).right) in
    ap (fault_of_exists formula stage x) on.is
    ∙ ap (λ b. if not b then Some VariableRange else if list_any (term_has formula x) on.rest
    || holds_later formula stage.pushed x (length formula.clauses) then Some VariableInUse else None) within
    ∙ ap (λ b. if b || holds_later formula stage.pushed x (length formula.clauses) then Some VariableInUse else None) others
    ∙ ap (λ b. if nat_lt (earliest x) start || b then Some VariableInUse else None) later

pub exists_stands : (formula : Formula) (old new : ScheduleJudge) (stage : Stage) (x start seen : ℕ) → length formula.clauses ≤ 10000000
    → IsAt formula old stage → Topped formula old stage start
    → 0 < x → x ≤ formula.vars → nat_lt (use_at old.uses.items x).earliest start ≡ false → (use_at old.uses.items x).to_come ≡ 0
    → (use_at old.uses.items x).seen ≡ seen
    → new.moves.items ≡ old.moves.items ++ Exists x ∷ [] → new.uses.items
    ≡ set old.uses.items x (record { to_come = 0; earliest = never; seen = seen })
    → new.flags ≡ old.flags → new.starts ≡ old.starts → new.pushes ≡ old.pushes → (later : Stage) × IsAt formula new later
exists_stands formula old new stage x start seen few at on positive small free none seen_is moves uses flags starts pushes =
    let earliest : ℕ → ℕ = λ y. (use_at old.uses.items y).earliest in
    let others : list_any (term_has formula x) on.rest ≡ false = sym (any_stacked formula earliest on.rest on.starts start x on.below small)
    ∙ free in
    let later : holds_later formula stage.pushed x (length formula.clauses) ≡ false =
    sym (to_come_later formula stage.pushed x (length formula.clauses)) ∙ ap (λ n. nat_lt 0 n) (sym (at.uses x small).right ∙ none) in (
      record { stack = some_value x on.top ∷ on.rest; pushed = stage.pushed; trail = (x, on.top) ∷ stage.trail },
      exists_at formula old new stage x on.top on.rest start on.starts seen few at on.is on.first small free none seen_is
          (exists_step formula stage x on.top on.rest positive small others later) moves uses flags starts pushes,
    )

-- The end.
pub end_unused : (formula : Formula) (judge : ScheduleJudge) (stage : Stage) (result : Result (List Move) PlanKind)
    → IsAt formula judge stage
    → judge.pushes < length formula.clauses
    → unless (end_fault_behind formula judge.moves.items) result ≡ Err ClauseUnused
end_unused formula judge stage result at some =
    let left : not (all_pushed stage.pushed (length formula.clauses)) ≡ true =
    sym (to_come_all stage.pushed (length formula.clauses)) ∙ lt-ltb 0 (to_come any_clause stage.pushed (length formula.clauses))
    (omega (arith, some, at.pushes)) in
    ap (λ o. unless (option_and_then (fault_at_end formula) o) result) at.possible
    ∙ ap (λ b. unless (if b then Some ClauseUnused else if nat_lt 1 (length stage.stack) then Some TermsLeft else None) result) left

not_false : (b : Bool) → not b ≡ false → b ≡ true
not_false true e = refl
not_false false e = cc

end_pushed : (formula : Formula) (judge : ScheduleJudge) (stage : Stage) → IsAt formula judge stage → length formula.clauses ≤ judge.pushes
    → all_pushed stage.pushed (length formula.clauses) ≡ true
end_pushed formula judge stage at all =
    let none : to_come any_clause stage.pushed (length formula.clauses) ≡ 0 = omega (arith, all, at.pushes) in
    not_false (all_pushed stage.pushed (length formula.clauses)) (sym (to_come_all stage.pushed (length formula.clauses))
    ∙ ap (λ n. nat_lt 0 n) none)

pub term_count : (formula : Formula) (judge : ScheduleJudge) (stage : Stage) → IsAt formula judge stage → length stage.stack
    ≡ length judge.starts.items
term_count formula judge stage at =
    as_many formula (λ x. (use_at judge.uses.items x).earliest) stage.stack (reverse judge.starts.items) judge.pushes at.starts
    ∙ length-reverse judge.starts.items

pub end_fault : (formula : Formula) (judge : ScheduleJudge) (stage : Stage) (result : Result (List Move) PlanKind)
    → IsAt formula judge stage
    → length formula.clauses ≤ judge.pushes
    → unless (end_fault_behind formula judge.moves.items) result
    ≡ unless (if nat_lt 1 (length judge.starts.items) then Some TermsLeft else None) result
end_fault formula judge stage result at all =
    ap (λ o. unless (option_and_then (fault_at_end formula) o) result) at.possible
    ∙ ap (λ b. unless (if not b then Some ClauseUnused else if nat_lt 1 (length stage.stack) then Some TermsLeft else None) result)
    (end_pushed formula judge stage at all)
    ∙ ap (λ n. unless (if nat_lt 1 n then Some TermsLeft else None) result) (term_count formula judge stage at)

pub end_admissible : (formula : Formula) (judge : ScheduleJudge) (stage : Stage) → IsAt formula judge stage
    → length formula.clauses ≤ judge.pushes
    → length judge.starts.items ≤ 1
    → IsAdmissible formula judge.moves.items
end_admissible formula judge stage at all one = record {
  last = stage;
  possible = at.possible;
  all_pushed = λ i positive small. each_pushed stage.pushed (length formula.clauses) i
      (end_pushed formula judge stage at all) positive small;
  one_term = omega (arith, one, term_count formula judge stage at);
}

not_below : (n : ℕ) → 2 ≤ n → nat_lt n 2 ≡ false
not_below n two = grind (arith, nat_tests)

two_terms : (n : ℕ) → nat_lt (suc (suc n)) 2 ≡ false
two_terms n = not_below (suc (suc n)) (omega arith)

-- Conjoining several terms.
pub short_fault : (formula : Formula) (k : ℕ) (done : List Move) (stage : Stage) (stack : List Term) → after_moves formula no_stage done
    ≡ Some stage → stage.stack ≡ stack → length stack ≤ suc k
    → taken formula done (replicate (suc k) And) ≡ Err StackShort
short_fault formula k done stage [] possible is short =
    refused formula done stage And (replicate k And) StackShort possible
    (ap (λ s. if nat_lt (length s) 2 then Some StackShort else None) is)
short_fault formula k done stage (top ∷ []) possible is short =
    refused formula done stage And (replicate k And) StackShort possible
    (ap (λ s. if nat_lt (length s) 2 then Some StackShort else None) is)
short_fault formula zero done stage (top ∷ below ∷ rest) possible is short = absurd (omega (arith, short))
short_fault formula (suc k) done stage (top ∷ below ∷ rest) possible is short =
    let later : Stage = record { stack = both below top ∷ rest; pushed = stage.pushed; trail = stage.trail } in
    accepted formula done stage And (replicate (suc k) And) possible
    (ap (λ s. if nat_lt (length s) 2 then Some StackShort else None) is
    ∙ ap (λ b. if b then Some StackShort else None) (two_terms (length rest)))
    ∙ short_fault formula k (done ++ And ∷ []) later (both below top
    ∷ rest) (possible_behind formula done stage later And possible (ap (after_and stage) is)) refl (omega (arith, short))

pub and_free : (formula : Formula) (judge : ScheduleJudge) (stage : Stage) → IsAt formula judge stage → 2 ≤ length judge.starts.items
    → fault_of_move formula stage And ≡ None
and_free formula judge stage at two =
    ap (λ n. if nat_lt n 2 then Some StackShort else None) (term_count formula judge stage at)
    ∙ ap (λ b. if b then Some StackShort else None) (not_below (length judge.starts.items) two)
