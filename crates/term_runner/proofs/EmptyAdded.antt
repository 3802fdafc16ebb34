-- A live empty clause above the formula's was added by a step; and where no number was given there was no step.
use Rattle.std.proofs.Common.{◌≡◌, ◌⊎◌, ◌∙◌, ◌<◌, ◌≤◌, ◌==◌, ◌+◌, ℕ, Bool, true, false, cond, ◌&&◌, List, ℤ, [], ◌∷◌, length, Option, None}
use Rattle.std.proofs.Common.{Some, nat_cmp, is_some, refl, sym, ap, arith, inl, inr}
use Rattle.std.specs.Prelude.{if◌then◌else◌, nat_le, nat_lt}
use Rattle.std.specs.List.{list_any}
use Rattle.std.specs.Ordering.{eq_by_cmp}
use Rattle.std.proofs.lemmas.Bool.{and_parts, or_left, or_right}
use Rattle.std.proofs.lemmas.Cmp.{nat_cmp_total}
use Rattle.cnf_base.specs.declared.list.Group.{Group}
use Rattle.cnf_base.specs.declared.step.Step.{Step}
use Rattle.cnf_base.specs.declared.step.Step.TheVariants.{Add, Delete}
use Rattle.cnf_base.specs.ProofText.{Line, is_empty}
use Rattle.lrat_rules.specs.declared.outcome.Reason.{Reason}
use Rattle.lrat_rules.specs.State.{State, Live, clause_at, start, without_clauses}
use Rattle.lrat_rules.specs.Addition.{fault}
use Rattle.lrat_rules.specs.Derivation.{IsDerivation, are_added, delete_added, deletes_added, lines_from}
use Rattle.lrat_rules.specs.Run.{Reached, after_step, judge_step, run, step_adds_empty, step_fault}
use Rattle.clause_ledger.specs.Book.{after_steps}
use Rattle.std.specs.FinMap as finmap

same_inside : (x y : List ℤ) → Some x ≡ Some y → x ≡ y
same_inside x y e = cc

was_removed : (live : Live) (id other : ℕ) (clause : List ℤ) → clause_at (finmap.remove live id) other ≡ Some clause
    → clause_at live other ≡ Some clause
was_removed live id other clause at =
    let is : cond (eq_by_cmp nat_cmp other id) None (clause_at live other) ≡ Some clause = sym (finmap.get-remove nat_cmp_total live id other) ∙ at in
    elim (eq_by_cmp nat_cmp other id) as (λ b. cond b None (clause_at live other) ≡ Some clause → clause_at live other ≡ Some clause) [
      | true ↦ λ e. cc
      | false ↦ λ e. e
    ] is

was_deleted : (ids : List ℕ) (live : Live) (other : ℕ) (clause : List ℤ) → clause_at (without_clauses live ids) other ≡ Some clause
    → clause_at live other ≡ Some clause
was_deleted [] live other clause at = at
was_deleted (id ∷ ids) live other clause at = was_removed live id other clause (was_deleted ids (finmap.remove live id) other clause at)

-- an empty clause was there, or the step adds it
by_step : (step : Step) (state : State) (id : ℕ) → clause_at (after_step state step).live id ≡ Some []
    → (clause_at state.live id ≡ Some []) ⊎ (step_adds_empty step ≡ true)
by_step (Add new clause hints groups) state id at =
    let is : cond (eq_by_cmp nat_cmp id new) (Some clause) (clause_at state.live id) ≡ Some [] =
    sym (finmap.get-insert nat_cmp_total state.live new clause id) ∙ at in
    elim (eq_by_cmp nat_cmp id new) as (λ b. cond b (Some clause) (clause_at state.live id) ≡ Some []
    → (clause_at state.live id ≡ Some []) ⊎ (is_empty clause ≡ true)) [
      | true ↦ λ e. inr (ap is_empty (same_inside clause [] e))
      | false ↦ λ e. inl e
    ] is
by_step (Delete top ids) state id at = inl (was_deleted ids state.live id [] at)

by_steps : (steps : List Step) (state : State) (id : ℕ) → clause_at (after_steps state steps).live id ≡ Some []
    → (clause_at state.live id ≡ Some []) ⊎ (list_any step_adds_empty steps ≡ true)
by_steps [] state id at = inl at
by_steps (step ∷ steps) state id at = elim (by_steps steps (after_step state step) id at) [
  | inl there ↦ elim (by_step step state id there) [
    | inl was ↦ inl was
    | inr adds ↦ inr (or_left (step_adds_empty step) _ adds)
  ]
  | inr later ↦ inr (or_right (step_adds_empty step) _ later)
]

abbrev pub NoneAbove : Type 0
NoneAbove = (clauses : List (List ℤ)) (id : ℕ) → length clauses < id → clause_at (start clauses).live id ≡ None

pub adds_empty : NoneAbove → (clauses : List (List ℤ)) (steps : List Step) (state : State) (id : ℕ) → after_steps (start clauses) steps ≡ state
    → length clauses < id → clause_at state.live id ≡ Some [] → list_any step_adds_empty steps ≡ true
adds_empty none_above clauses steps state id leads above at =
    elim (by_steps steps (start clauses) id (ap (λ (s : State). clause_at s.live id) leads ∙ at)) [
      | inl was ↦ absurd (let e : None ≡ Some [] = sym (none_above clauses id above) ∙ was in cc)
      | inr adds ↦ adds
    ]

-- an addition takes a number above the greatest
above_top : (state : State) (id : ℕ) (clause : List ℤ) (hints : List ℕ) (groups : List Group) → fault state id clause hints groups ≡ None
    → state.top < id
above_top state id clause hints groups good = go _ _ (nat_le id state.top) refl good
  where
    go : (rest : Option Reason) (reason : Reason) (b : Bool) → nat_le id state.top ≡ b → (if b then Some reason else rest) ≡ None
        → state.top < id
    go rest reason true is e = cc
    go rest reason false is e = grind (arith, is)

same_reached : (x y : State) → Reached x ≡ Reached y → x ≡ y
same_reached x y e = cc

-- a good step, and the steps behind it
good_step : (state reached : State) (number : ℕ) (step : Step) (lines : List Line)
    → run state (record { line = number; step = Some step } ∷ lines) ≡ Reached reached
    → (step_fault state step ≡ None) × (run (after_step state step) lines ≡ Reached reached)
good_step state reached number step lines h = go (step_fault state step) refl h
  where
    go : (f : Option Reason) → step_fault state step ≡ f → judge_step state number (λ next. run next lines) step f ≡ Reached reached
        → (step_fault state step ≡ None) × (run (after_step state step) lines ≡ Reached reached)
    go None is e = (is, e)
    go (Some reason) is e = cc

-- no step takes the greatest number back
no_less : (steps : List Step) (line : ℕ) (state reached : State) → run state (lines_from line steps) ≡ Reached reached → state.top ≤ reached.top
no_less [] line state reached h = omega (arith, ap (λ (s : State). s.top) (same_reached state reached h))
no_less (Add id clause hints groups ∷ steps) line state reached h =
    let good = good_step state reached line (Add id clause hints groups) (lines_from (line + 1) steps) h in
    let above = above_top state id clause hints groups good.0 in
    let rest = no_less steps (line + 1) (after_step state (Add id clause hints groups)) reached good.1 in
    omega (arith, above, rest)
no_less (Delete id ids ∷ steps) line state reached h =
    let good = good_step state reached line (Delete id ids) (lines_from (line + 1) steps) h in
    no_less steps (line + 1) (after_step state (Delete id ids)) reached good.1

-- nothing that was added can be deleted at the start
none_deleted : NoneAbove → (clauses : List (List ℤ)) (id : ℕ) (ids : List ℕ)
    → deletes_added (length clauses) (start clauses) (Delete id ids) ≡ true → ⊥
none_deleted none_above clauses id [] is =
    let parts = and_parts (id == (start clauses).top && false) (are_added (length clauses) (start clauses).live []) is in
    let wrong : false ≡ true = (and_parts (id == (start clauses).top) false parts.0).1 in cc
none_deleted none_above clauses id (one ∷ ids) is =
    let live = (start clauses).live in
    let parts = and_parts (id == (start clauses).top && true) (are_added (length clauses) live (one ∷ ids)) is in
    let own = and_parts (nat_lt (length clauses) one && is_some (clause_at live one)) (are_added (length clauses) (finmap.remove live one) ids) parts.1 in
    let both = and_parts (nat_lt (length clauses) one) (is_some (clause_at live one)) own.0 in
    let above : length clauses < one = grind (arith, both.0) in
    let wrong : false ≡ true = sym (ap is_some (none_above clauses one above)) ∙ both.1 in cc

pub no_step : NoneAbove → (clauses : List (List ℤ)) (steps : List Step) (state : State) → IsDerivation clauses steps state
    → state.top ≡ length clauses → steps ≡ []
no_step none_above clauses [] state derived same = refl
no_step none_above clauses (Add id clause hints groups ∷ steps) state derived same =
    let good = good_step (start clauses) state 1 (Add id clause hints groups) (lines_from 2 steps) derived.reached in
    let above = above_top (start clauses) id clause hints groups good.0 in
    let rest = no_less steps 2 (after_step (start clauses) (Add id clause hints groups)) state good.1 in
    absurd (omega (arith, above, rest, same))
no_step none_above clauses (Delete id ids ∷ steps) state derived same =
    absurd (none_deleted none_above clauses id ids (and_parts (deletes_added (length clauses) (start clauses) (Delete id ids))
    (delete_added (length clauses) (after_step (start clauses) (Delete id ids)) steps) derived.deletions).0)
