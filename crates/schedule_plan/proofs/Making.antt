-- The moves of a closed term, none of whose clauses is pushed yet, are possible, and put it on the stack.
use Rattle.std.proofs.Common.{◌≡◌, ℕ, zero, suc, ◌+◌, ◌<◌, ◌≤◌, true, false, ◌&&◌, cond, List, [], ◌∷◌, ◌++◌, length, None, Some, refl, ap}
use Rattle.std.proofs.Common.{◌∙◌, arith, inl, inr, eq-eqb}
use Rattle.std.specs.Prelude.{not, nat_lt, nat_le, ◌==◌, if◌then◌else◌}
use Rattle.std.specs.List.{list_any}
use Rattle.std.specs.Option.{option_and_then}
use Rattle.std.proofs.lemmas.Bool.{cases_eq, cases_Bool, lt-ltb, le-leb, ne_eqb, and_from, and_left, and_right, or_left, or_right, or_from}
use Rattle.std.proofs.lemmas.Bool.{or_cases, false_from_ne_true, both_ways}
use Rattle.cnf_base.specs.Formula.{Formula}
use Rattle.schedule_plan.specs.declared.plan.Move.TheVariants.{And, Exists}
use Rattle.schedule_plan.specs.Plan.{Term, input, both, some_value, term_has, clause_has, clause_of_number, Stage, after_moves, after_push}
use Rattle.schedule_plan.specs.Plan.{after_exists, is_pushed, holds_later}
use Rattle.schedule_plan.specs.Bucket.{moves_of}
use Rattle.schedule_plan.proofs.Admissible.{append}
use Rattle.schedule_plan.proofs.Terms.{times, counted, IsClosed, variable_of_input}

-- how often a number stands in a list
abbrev pub standing : ℕ → List ℕ → ℕ
standing i [] = 0
standing i (j ∷ js) = cond (j == i) 1 0 + standing i js

-- the clauses pushed, and the trail, once a term is made
abbrev pub pushed_after : Term → List ℕ → List ℕ
pushed_after (input i) pushed = i ∷ pushed
pushed_after (both one other) pushed = pushed_after other (pushed_after one pushed)
pushed_after (some_value x term) pushed = pushed_after term pushed

abbrev pub trail_after : Term → List (ℕ × Term) → List (ℕ × Term)
trail_after (input i) trail = trail
trail_after (both one other) trail = trail_after other (trail_after one trail)
trail_after (some_value x term) trail = (x, term) ∷ trail_after term trail

abbrev pub with_term : Stage → Term → Stage
with_term stage term = record { stack = term ∷ stage.stack; pushed = pushed_after term stage.pushed; trail = trail_after term stage.trail }

-- The pushed clauses are the formula's, and those in the stacked terms are pushed.
pub record IsSound (formula : Formula) (stage : Stage) : Type 0 where
  pub within : (i : ℕ) → 0 < standing i stage.pushed → (0 < i) × (i ≤ length formula.clauses)
  pub stacked : (i : ℕ) → counted i stage.stack ≤ standing i stage.pushed

-- each clause is pushed or stands in the term once at most
abbrev pub AreNew : Term → List ℕ → Type 0
AreNew term pushed = (i : ℕ) → times i term + standing i pushed ≤ 1

pub is_pushed-standing : (i : ℕ) (js : List ℕ) → 0 < standing i js → is_pushed js i ≡ true
is_pushed-standing i [] there = absurd (omega (arith, there))
is_pushed-standing i (j ∷ js) there =
    elim (cases_eq j i) [
      | inl same ↦ or_left (j == i) (is_pushed js i) (eq-eqb j i same)
      | inr differ ↦
          let skipped : standing i (j ∷ js) ≡ standing i js = ap (λ b. cond b 1 0 + standing i js) (ne_eqb j i differ) ∙ omega arith in
          or_right (j == i) (is_pushed js i) (is_pushed-standing i js (omega (arith, there, skipped)))
    ]

not_pushed : (i : ℕ) (js : List ℕ) → standing i js ≡ 0 → is_pushed js i ≡ false
not_pushed i [] none = refl
not_pushed i (j ∷ js) none =
    elim (cases_eq j i) [
      | inl same ↦ absurd (let own : standing i (j ∷ js) ≡ 1 + standing i js = ap (λ b. cond b 1 0 + standing i js) (eq-eqb j i same) in
          omega (arith, none, own))
      | inr differ ↦
          let skipped : standing i (j ∷ js) ≡ standing i js = ap (λ b. cond b 1 0 + standing i js) (ne_eqb j i differ) ∙ omega arith in
          or_from (j == i) (is_pushed js i) (ne_eqb j i differ) (not_pushed i js (omega (arith, none, skipped)))
    ]

pub standing_after : (i : ℕ) (term : Term) (pushed : List ℕ) → standing i (pushed_after term pushed) ≡ times i term + standing i pushed
standing_after i (input j) pushed = omega arith
standing_after i (both one other) pushed =
    omega (arith, standing_after i other (pushed_after one pushed), standing_after i one pushed)
standing_after i (some_value x term) pushed = standing_after i term pushed

-- a closed term's clauses are the formula's
pub inputs_within : (formula : Formula) (term : Term) → IsClosed formula term → (i : ℕ) → 0 < times i term → (0 < i)
    × (i ≤ length formula.clauses)
inputs_within formula (input j) closed i there =
    elim (cases_eq j i) [
      | inl same ↦ (omega (arith, closed.0, same), omega (arith, closed.1, same))
      | inr differ ↦ absurd (let skipped : times i (input j) ≡ 0 = ap (λ b. cond b 1 0) (ne_eqb j i differ) in
          omega (arith, there, skipped))
    ]
inputs_within formula (both one other) closed i there =
    elim (cases_eq (times i one) 0) [
      | inl none ↦ inputs_within formula other closed.1 i (omega (arith, there, none))
      | inr some ↦ inputs_within formula one closed.0 i (omega (arith, some))
    ]
inputs_within formula (some_value x term) closed i there = inputs_within formula term closed.3 i there

held_by_some : (formula : Formula) (x : ℕ) (terms : List Term) → list_any (term_has formula x) terms ≡ true
    → (i : ℕ) × (0 < counted i terms) × (clause_has x (clause_of_number formula i) ≡ true)
held_by_some formula x [] has = absurd (both_ways false refl has)
held_by_some formula x (term ∷ terms) has =
    elim (or_cases (term_has formula x term) (list_any (term_has formula x) terms) has) [
      | inl first ↦ let found = variable_of_input formula x term first in (found.0, omega (arith, found.1), found.2)
      | inr later ↦ let found = held_by_some formula x terms later in (found.0, omega (arith, found.1), found.2)
    ]

none_later : (formula : Formula) (pushed : List ℕ) (x n : ℕ)
    → ((i : ℕ) → 0 < i → i ≤ n → clause_has x (clause_of_number formula i) ≡ true → 0 < standing i pushed)
    → holds_later formula pushed x n ≡ false
none_later formula pushed x zero all = refl
none_later formula pushed x (suc n) all =
    or_from (not (is_pushed pushed (suc n)) && clause_has x (clause_of_number formula (suc n))) (holds_later formula pushed x n)
    (elim (cases_Bool (clause_has x (clause_of_number formula (suc n)))) [
      | inl has ↦ and_left (not (is_pushed pushed (suc n))) (clause_has x (clause_of_number formula (suc n)))
          (ap not (is_pushed-standing (suc n) pushed (all (suc n) (omega arith) (omega arith) has)))
      | inr lacks ↦ and_right (not (is_pushed pushed (suc n))) (clause_has x (clause_of_number formula (suc n))) lacks
    ])
    (none_later formula pushed x n (λ i positive small has. all i positive (omega (arith, small)) has))

IsSound-with_term : (formula : Formula) (stage : Stage) (term : Term) → IsSound formula stage → IsClosed formula term
    → IsSound formula (with_term stage term)
IsSound-with_term formula stage term sound closed = record {
  within = λ i there.
      elim (cases_eq (times i term) 0) [
        | inl none ↦ sound.within i (omega (arith, there, none, standing_after i term stage.pushed))
        | inr some ↦ inputs_within formula term closed i (omega (arith, some))
      ];
  stacked = λ i. omega (arith, standing_after i term stage.pushed, sound.stacked i);
}

push_possible : (formula : Formula) (stage : Stage) (i : ℕ) → (0 < i) × (i ≤ length formula.clauses) → AreNew (input i) stage.pushed
    → after_push formula stage i ≡ Some (with_term stage (input i))
push_possible formula stage i small new =
    let own : times i (input i) ≡ 1 = ap (λ b. cond b 1 0) (eq-eqb i i refl) in
    let possible : (nat_lt 0 i && nat_le i (length formula.clauses) && not (is_pushed stage.pushed i)) ≡ true =
    and_from (nat_lt 0 i && nat_le i (length formula.clauses)) (not (is_pushed stage.pushed i))
    (and_from (nat_lt 0 i) (nat_le i (length formula.clauses)) (lt-ltb 0 i small.0) (le-leb i (length formula.clauses) small.1))
    (ap not (not_pushed i stage.pushed (omega (arith, new i, own)))) in
    ap (λ b. if b then Some (with_term stage (input i)) else None) possible

-- No other stacked term holds the variable: its clauses that hold it would be in this term, and new.
none_stacked : (formula : Formula) (stage : Stage) (x : ℕ) (term : Term) → IsSound formula stage → IsClosed formula (some_value x term)
    → AreNew term stage.pushed
    → list_any (term_has formula x) stage.stack ≡ false
none_stacked formula stage x term sound closed new = false_from_ne_true (list_any (term_has formula x) stage.stack) (λ has.
    let found = held_by_some formula x stage.stack has in
    let pushed : 0 < standing found.0 stage.pushed = omega (arith, found.1, sound.stacked found.0) in
    let small = sound.within found.0 pushed in
    omega (arith, pushed, closed.2 found.0 small.0 small.1 found.2, new found.0))

exists_possible : (formula : Formula) (stage : Stage) (x : ℕ) (term : Term) → IsSound formula stage → IsClosed formula (some_value x term)
    → AreNew term stage.pushed
    → after_exists formula (with_term stage term) x (term ∷ stage.stack) ≡ Some (with_term stage (some_value x term))
exists_possible formula stage x term sound closed new =
    let later : holds_later formula (pushed_after term stage.pushed) x (length formula.clauses) ≡ false =
    none_later formula (pushed_after term stage.pushed) x (length formula.clauses)
    (λ i positive small has. omega (arith, closed.2 i positive small has, standing_after i term stage.pushed)) in
    let possible : (nat_lt 0 x && nat_le x formula.vars && not (list_any (term_has formula x) stage.stack)
    && not (holds_later formula (pushed_after term stage.pushed) x (length formula.clauses))) ≡ true =
    and_from (nat_lt 0 x && nat_le x formula.vars && not (list_any (term_has formula x) stage.stack))
    (not (holds_later formula (pushed_after term stage.pushed) x (length formula.clauses)))
    (and_from (nat_lt 0 x && nat_le x formula.vars) (not (list_any (term_has formula x) stage.stack))
    (and_from (nat_lt 0 x) (nat_le x formula.vars) (lt-ltb 0 x closed.0) (le-leb x formula.vars closed.1))
    (ap not (none_stacked formula stage x term sound closed new)))
    (ap not later) in
    ap (λ b. if b then Some (with_term stage (some_value x term)) else None) possible

pub makes_term : (formula : Formula) (stage : Stage) (term : Term) → IsSound formula stage → IsClosed formula term
    → AreNew term stage.pushed
    → after_moves formula stage (moves_of term) ≡ Some (with_term stage term)
makes_term formula stage (input i) sound closed new = ap (option_and_then (λ later. Some later)) (push_possible formula stage i closed new)
makes_term formula stage (both one other) sound closed new =
    append formula stage (moves_of one ++ moves_of other) (And ∷ [])
    ∙ ap (option_and_then (λ later. after_moves formula later (And ∷ [])))
    (append formula stage (moves_of one) (moves_of other)
    ∙ ap (option_and_then (λ later. after_moves formula later (moves_of other)))
    (makes_term formula stage one sound closed.0 (λ i. omega (arith, new i)))
    ∙ makes_term formula (with_term stage one) other (IsSound-with_term formula stage one sound closed.0) closed.1
    (λ i. omega (arith, new i, standing_after i one stage.pushed)))
makes_term formula stage (some_value x term) sound closed new =
    append formula stage (moves_of term) (Exists x ∷ [])
    ∙ ap (option_and_then (λ later. after_moves formula later (Exists x ∷ []))) (makes_term formula stage term sound closed.3 new)
    ∙ ap (option_and_then (λ later. Some later)) (exists_possible formula stage x term sound closed new)
