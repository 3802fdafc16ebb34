-- Where moves lead: clauses pushed one after another, all stacked terms conjoined, variables quantified in a single term.
use Rattle.std.proofs.Common.{◌≡◌, ℕ, zero, suc, ◌+◌, ◌<◌, ◌≤◌, true, false, ◌&&◌, List, [], ◌∷◌, ◌++◌, length, None, Some, refl, ap, ◌∙◌}
use Rattle.std.proofs.Common.{arith, inl, inr, eq-eqb, ne_eqb}
use Rattle.std.specs.Prelude.{not, nat_lt, nat_le, ◌==◌, cond, map, replicate, if◌then◌else◌}
use Rattle.std.specs.Option.{option_and_then}
use Rattle.std.proofs.lemmas.Bool.{cases_eq, cases_Bool, lt-ltb, le-leb, and_from, and_left, and_right, or_left, or_right, or_from}
use Rattle.cnf_base.specs.Formula.{Formula}
use Rattle.schedule_plan.specs.declared.plan.Move.{Move}
use Rattle.schedule_plan.specs.declared.plan.Move.TheVariants.{Push, And, Exists}
use Rattle.schedule_plan.specs.Plan.{Term, input, both, some_value, clause_has, clause_of_number, Stage, after_moves, after_move}
use Rattle.schedule_plan.specs.Plan.{after_push, after_exists, is_pushed, holds_later}
use Rattle.workload.proofs.Standing.{standing}

-- The moves lead to a stage that has so many terms, and these clauses pushed beside those pushed before.
pub record LeadsTo (formula : Formula) (stage : Stage) (moves : List Move) (clauses : List ℕ) (terms : ℕ) : Type 0 where
  pub later : Stage
  pub possible : after_moves formula stage moves ≡ Some later
  pub stacked : length later.stack ≡ terms
  pub pushed : (i : ℕ) → standing i later.pushed ≡ standing i clauses + standing i stage.pushed

pub append : (formula : Formula) (stage : Stage) (some more : List Move) → after_moves formula stage (some ++ more)
    ≡ option_and_then (λ later. after_moves formula later more) (after_moves formula stage some)
append formula stage [] more = refl
append formula stage (move ∷ some) more =
    elim (after_move formula stage move) as (λ o. option_and_then (λ later. after_moves formula later (some ++ more)) o
    ≡ option_and_then (λ later. after_moves formula later more) (option_and_then (λ later. after_moves formula later some) o)) [
      | None ↦ refl
      | Some later ↦ append formula later some more
    ]

pub append_possible : (formula : Formula) (stage later last : Stage) (some more : List Move) → after_moves formula stage some ≡ Some later
    → after_moves formula later more ≡ Some last
    → after_moves formula stage (some ++ more) ≡ Some last
append_possible formula stage later last some more first second =
    append formula stage some more ∙ ap (option_and_then (λ (s : Stage). after_moves formula s more)) first ∙ second

pub is_pushed-standing : (i : ℕ) (js : List ℕ) → 0 < standing i js → is_pushed js i ≡ true
is_pushed-standing i [] there = absurd (omega (arith, there))
is_pushed-standing i (j ∷ js) there =
    elim (cases_eq j i) [
      | inl same ↦ or_left (j == i) (is_pushed js i) (eq-eqb j i same)
      | inr differ ↦
          let skipped : standing i (j ∷ js) ≡ standing i js = ap (λ b. cond b 1 0 + standing i js) (ne_eqb j i differ) ∙ omega arith in
          or_right (j == i) (is_pushed js i) (is_pushed-standing i js (omega (arith, there, skipped)))
    ]

not_pushed : (i : ℕ) (js : List ℕ) → standing i js ≡ 0 → is_pushed js i ≡ false
not_pushed i [] none = refl
not_pushed i (j ∷ js) none =
    elim (cases_eq j i) [
      | inl same ↦ absurd (let own : standing i (j ∷ js) ≡ 1 + standing i js = ap (λ b. cond b 1 0 + standing i js) (eq-eqb j i same) in
          omega (arith, none, own))
      | inr differ ↦
          let skipped : standing i (j ∷ js) ≡ standing i js = ap (λ b. cond b 1 0 + standing i js) (ne_eqb j i differ) ∙ omega arith in
          or_from (j == i) (is_pushed js i) (ne_eqb j i differ) (not_pushed i js (omega (arith, none, skipped)))
    ]

-- a clause of the formula that isn't pushed yet
abbrev pushed_one : Stage → ℕ → Stage
pushed_one stage i = record { stack = input i ∷ stage.stack; pushed = i ∷ stage.pushed; trail = stage.trail }

push_possible : (formula : Formula) (stage : Stage) (i : ℕ) → (0 < i) × (i ≤ length formula.clauses) → standing i stage.pushed ≡ 0
    → after_push formula stage i ≡ Some (pushed_one stage i)
push_possible formula stage i small new =
    let possible : (nat_lt 0 i && nat_le i (length formula.clauses) && not (is_pushed stage.pushed i)) ≡ true =
    and_from (nat_lt 0 i && nat_le i (length formula.clauses)) (not (is_pushed stage.pushed i))
    (and_from (nat_lt 0 i) (nat_le i (length formula.clauses)) (lt-ltb 0 i small.0) (le-leb i (length formula.clauses) small.1))
    (ap not (not_pushed i stage.pushed new)) in
    ap (λ b. if b then Some (pushed_one stage i) else None) possible

-- clauses of the formula, each once and none pushed yet
pub pushing : (formula : Formula) (stage : Stage) (clauses : List ℕ)
    → ((i : ℕ) → 0 < standing i clauses → (0 < i) × (i ≤ length formula.clauses))
    → ((i : ℕ) → standing i clauses + standing i stage.pushed ≤ 1)
    → LeadsTo formula stage (map Push clauses) clauses (length clauses + length stage.stack)
pushing formula stage [] within once = record { later = stage; possible = refl; stacked = omega arith; pushed = λ i. omega arith }
pushing formula stage (j ∷ js) within once =
    let own : standing j (j ∷ js) ≡ 1 + standing j js = ap (λ b. cond b 1 0 + standing j js) (eq-eqb j j refl) in
    let first : after_push formula stage j ≡ Some (pushed_one stage j) = push_possible formula stage j (within j (omega (arith, own)))
    (omega (arith, once j, own)) in
    let rest = pushing formula (pushed_one stage j) js (λ i there. within i (omega (arith, there))) (λ i. omega (arith, once i)) in
    record {
      later = rest.later;
      possible = ap (option_and_then (λ (s : Stage). after_moves formula s (map Push js))) first ∙ rest.possible;
      stacked = omega (arith, rest.stacked);
      pushed = λ i. omega (arith, rest.pushed i);
    }

-- all stacked terms
pub conjoining_all : (formula : Formula) (stage : Stage) (k : ℕ) → length stage.stack ≡ suc k → LeadsTo formula stage (replicate k And) [] 1
conjoining_all formula stage zero high = record { later = stage; possible = refl; stacked = high; pushed = λ i. omega arith }
conjoining_all formula stage (suc k) high =
    elim stage.stack as (λ stack. length stack ≡ suc (suc k) → LeadsTo formula
    (record { stack = stack; pushed = stage.pushed; trail = stage.trail }) (replicate (suc k) And) [] 1) [
      | [] ↦ λ h. absurd (omega (arith, h))
      | top ∷ [] ↦ λ h. absurd (omega (arith, h))
      | top ∷ below ∷ rest ↦ λ h.
          let next = conjoining_all formula (record { stack = both below top ∷ rest; pushed = stage.pushed; trail = stage.trail }) k
          (omega (arith, h)) in
          record { later = next.later; possible = next.possible; stacked = next.stacked; pushed = next.pushed }
    ] high

none_later : (formula : Formula) (pushed : List ℕ) (x n : ℕ)
    → ((i : ℕ) → 0 < i → i ≤ n → clause_has x (clause_of_number formula i) ≡ true → 0 < standing i pushed)
    → holds_later formula pushed x n ≡ false
none_later formula pushed x zero all = refl
none_later formula pushed x (suc n) all =
    or_from (not (is_pushed pushed (suc n)) && clause_has x (clause_of_number formula (suc n))) (holds_later formula pushed x n)
    (elim (cases_Bool (clause_has x (clause_of_number formula (suc n)))) [
      | inl has ↦ and_left (not (is_pushed pushed (suc n))) (clause_has x (clause_of_number formula (suc n)))
          (ap not (is_pushed-standing (suc n) pushed (all (suc n) (omega arith) (omega arith) has)))
      | inr lacks ↦ and_right (not (is_pushed pushed (suc n))) (clause_has x (clause_of_number formula (suc n))) lacks
    ])
    (none_later formula pushed x n (λ i positive small has. all i positive (omega (arith, small)) has))

-- a variable of the formula all of whose clauses are pushed, in the only term
abbrev quantified_one : Term → List ℕ → List (ℕ × Term) → ℕ → Stage
quantified_one term pushed trail x = record { stack = some_value x term ∷ []; pushed = pushed; trail = (x, term) ∷ trail }

exists_possible : (formula : Formula) (term : Term) (pushed : List ℕ) (trail : List (ℕ × Term)) (x : ℕ) → (0 < x) × (x ≤ formula.vars)
    → holds_later formula pushed x (length formula.clauses) ≡ false
    → after_exists formula (record { stack = term ∷ []; pushed = pushed; trail = trail }) x (term ∷ [])
    ≡ Some (quantified_one term pushed trail x)
exists_possible formula term pushed trail x small later =
    let possible : (nat_lt 0 x && nat_le x formula.vars && true && not (holds_later formula pushed x (length formula.clauses))) ≡ true =
    and_from (nat_lt 0 x && nat_le x formula.vars && true) (not (holds_later formula pushed x (length formula.clauses)))
    (and_from (nat_lt 0 x && nat_le x formula.vars) true (and_from (nat_lt 0 x) (nat_le x formula.vars) (lt-ltb 0 x small.0)
    (le-leb x formula.vars small.1)) refl)
    (ap not later) in
    ap (λ b. if b then Some (quantified_one term pushed trail x) else None) possible

quantifying_in : (formula : Formula) (term : Term) (pushed : List ℕ) (trail : List (ℕ × Term)) (xs : List ℕ)
    → ((x : ℕ) → 0 < standing x xs → (0 < x) × (x ≤ formula.vars))
    → ((x i : ℕ) → 0 < standing x xs → 0 < i → i ≤ length formula.clauses → clause_has x (clause_of_number formula i) ≡ true → 0
    < standing i pushed)
    → LeadsTo formula (record { stack = term ∷ []; pushed = pushed; trail = trail }) (map Exists xs) [] 1
quantifying_in formula term pushed trail [] within all =
    record {
      later = record { stack = term ∷ []; pushed = pushed; trail = trail };
      possible = refl;
      stacked = refl;
      pushed = λ i. omega arith;
    }
quantifying_in formula term pushed trail (y ∷ ys) within all =
    let own : standing y (y ∷ ys) ≡ 1 + standing y ys = ap (λ b. cond b 1 0 + standing y ys) (eq-eqb y y refl) in
    let later : holds_later formula pushed y (length formula.clauses)
    ≡ false = none_later formula pushed y (length formula.clauses) (λ i. all y i (omega (arith, own))) in
    let rest = quantifying_in formula (some_value y term) pushed ((y, term)
    ∷ trail) ys (λ x there. within x (omega (arith, there))) (λ x i there. all x i (omega (arith, there))) in
    record {
      later = rest.later;
      possible = ap (option_and_then (λ (s : Stage). after_moves formula s (map Exists ys)))
          (exists_possible formula term pushed trail y (within y (omega (arith, own))) later) ∙ rest.possible;
      stacked = rest.stacked;
      pushed = rest.pushed;
    }

-- variables of the formula all of whose clauses are pushed, where a single term is stacked
pub quantifying_all : (formula : Formula) (stage : Stage) (xs : List ℕ) → length stage.stack ≡ 1
    → ((x : ℕ) → 0 < standing x xs → (0 < x) × (x ≤ formula.vars))
    → ((x i : ℕ) → 0 < standing x xs → 0 < i → i ≤ length formula.clauses → clause_has x (clause_of_number formula i) ≡ true → 0
    < standing i stage.pushed)
    → LeadsTo formula stage (map Exists xs) [] 1
quantifying_all formula stage xs high within all =
    elim stage.stack as (λ stack. length stack ≡ 1 → LeadsTo formula (record { stack = stack; pushed = stage.pushed; trail = stage.trail })
    (map Exists xs) [] 1) [
      | [] ↦ λ h. absurd (omega (arith, h))
      | term ∷ [] ↦ λ h. quantifying_in formula term stage.pushed stage.trail xs within all
      | top ∷ below ∷ rest ↦ λ h. absurd (omega (arith, h))
    ] high
