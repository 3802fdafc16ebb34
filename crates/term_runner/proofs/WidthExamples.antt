-- The width of a small plan, by the definition alone: of a clause of one literal one part is in hand, its own function.
use Rattle.std.proofs.Common.{◌≡◌, ℕ, zero, suc, ◌<◌, Bool, true, false, ◌||◌, ◌-◌, [], ◌∷◌, length, take, None, Some, Contains, refl, sym}
use Rattle.std.proofs.Common.{ap, ◌∙◌, subst, arith, inl, inr}
use Rattle.std.specs.Prelude.{if◌then◌else◌}
use Rattle.std.proofs.lemmas.Bool.{lt-ltb}
use Rattle.node_table.specs.Value.{Levels, IsSubfunction, fixed_to}
use Rattle.schedule_plan.specs.declared.plan.Move.{Move}
use Rattle.schedule_plan.specs.declared.plan.Move.TheVariants.{Push}
use Rattle.schedule_plan.specs.Plan.{Stage, Term, after_move, conjoin, input, no_stage}
use Rattle.term_runner.specs.Examples.{one_clause, one_variable}
use Rattle.term_runner.specs.Width.{HasWidth, IsWider, IsInHand, IsMove, IsPartBehind, IsPartInHand}
use Rattle.bdd_terms.specs.Parts.{IsEssential, part_at, term_function}
use Rattle.schedule_plan.specs.SetMove.{in_order}

or_false : (b : Bool) → (b || false) ≡ b
or_false true = refl
or_false false = refl

function_is : (a : Levels) → term_function one_clause one_variable (input 1) a ≡ a 0
unfolding one_clause
function_is a = or_false (a 0)

inside : {X : Type 0} (x y : X) → Some x ≡ Some y → x ≡ y
inside x y e = cc

-- a part of it that isn't constant is itself
part_is : (part : Levels → Bool) → IsSubfunction (term_function one_clause one_variable (input 1)) part → IsEssential part → (a : Levels)
    → part a ≡ a 0
part_is part is essential = go is.level is.fixed is.same
  where
    go : (level : ℕ) (fixed : Levels) → ((a : Levels) → part a ≡ term_function one_clause one_variable (input 1) (fixed_to level fixed a))
        → (a : Levels) → part a ≡ a 0
    go zero fixed same a = same a ∙ function_is (fixed_to zero fixed a)
    go (suc level) fixed same a =
        absurd (essential (fixed 0) (λ b. same b ∙ function_is (fixed_to (suc level) fixed b)
        ∙ ap (λ t. if t then fixed 0 else b 0) (lt-ltb 0 (suc level) (omega arith))))

only : (term : Term) → Contains (input 1 ∷ []) term → input 1 ≡ term
only term (zero, small, at) = at
only term (suc k, small, at) = absurd (omega (arith, small))

-- no other term is in hand
behind_push : (before after : Stage) (step : Move) → no_stage ≡ before → Push 1 ≡ step → after_move one_clause before step ≡ Some after
    → (term : Term) → IsInHand false before after term → input 1 ≡ term
unfolding one_clause
behind_push before after step start first leads term there =
    let moved : after_move one_clause no_stage (Push 1) ≡ Some after = (λ k. after_move one_clause (start k) (first k)) ∙ leads in
    let result = inside _ after moved in
    elim there [
      | inl stacked ↦ let none : Contains [] term = subst (λ (s : Stage). Contains s.stack term) (sym start) stacked in
          absurd (omega (arith, none.1))
      | inr is ↦ only term (subst (λ (s : Stage). Contains (take 1 s.stack) term) (sym result) is)
    ]

-- nor does the move put one on the trail
none_behind : (before after : Stage) (step : Move) → no_stage ≡ before → Push 1 ≡ step → after_move one_clause before step ≡ Some after
    → (part : Levels → Bool) → IsPartBehind one_clause one_variable before after part → ⊥
unfolding one_clause
none_behind before after step start first leads part is =
    let moved : after_move one_clause no_stage (Push 1) ≡ Some after = (λ k. after_move one_clause (start k) (first k)) ∙ leads in
    let result = inside _ after moved in
    let there = subst (λ (s : Stage). Contains (take (length s.trail - length before.trail) s.trail) is.kept) (sym result) is.fresh in
    let none : Contains [] is.kept = subst (λ (s : Stage). Contains (take (0 - length s.trail) []) is.kept) (sym start) there in
    omega (arith, none.1)

-- a part in hand is one of the clause
in_hand_is : (count : ℕ) (before after : Stage) → IsMove one_clause (in_order one_variable (conjoin 1)) count before after
    → (part : Levels → Bool) → IsPartInHand false one_clause one_variable before after part
    → IsSubfunction (term_function one_clause one_variable (input 1)) part
in_hand_is zero before after move part is = elim is [
  | inl own ↦
      subst (λ (t : Term). IsSubfunction (term_function one_clause one_variable t) part)
      (sym (behind_push before after move.step (inside no_stage before move.reached) (inside (Push 1) move.step move.is) move.leads own.term
      own.in_hand)) own.is_part
  | inr behind ↦
      absurd (none_behind before after move.step (inside no_stage before move.reached) (inside (Push 1) move.step move.is) move.leads part
      behind)
]
in_hand_is (suc count) before after move part is = absurd (let e : None ≡ Some move.step = move.is in cc)

pub one_at_most : HasWidth one_clause one_variable (conjoin 1) 1
one_at_most wider =
    let many = wider.more in
    let same : (place : ℕ) → place < 2 → (a : Levels) → part_at many.parts place a ≡ a 0 =
    λ place small.
    let here : place < length many.parts = omega (arith, small, many.more) in
    part_is (part_at many.parts place)
    (in_hand_is wider.count wider.before wider.after wider.move (part_at many.parts place) (many.are place here))
    (many.essential place here) in
    many.differ 0 1 (omega arith) (omega (arith, many.more)) (λ a. same 0 (omega arith) a ∙ sym (same 1 (omega arith) a))

-- and its own function is in hand
pub one_at_least : ((function : Levels → Bool) → IsSubfunction function function) → IsWider one_clause one_variable (conjoin 1) 0
unfolding one_clause
one_at_least itself =
    let after : Stage = record { stack = input 1 ∷ []; pushed = 1 ∷ []; trail = [] } in
    let function : Levels → Bool = term_function one_clause one_variable (input 1) in
    record {
      count = 0;
      before = no_stage;
      after = after;
      move = record { step = Push 1; is = refl; reached = refl; leads = refl };
      more = record {
        parts = function ∷ [];
        more = omega arith;
        are = λ place small. elim place as (λ n. n < 1 → IsPartInHand false one_clause one_variable no_stage after (part_at (function ∷ []) n)) [
          | zero ↦ λ _. inl (record { term = input 1; in_hand = inr (zero, omega arith, refl); is_part = itself function })
          | suc n ↦ λ less. absurd (omega (arith, less))
        ] small;
        essential = λ place small. elim place as (λ n. n < 1 → IsEssential (part_at (function ∷ []) n)) [
          | zero ↦ λ _ b same. let e : true ≡ false = sym (function_is (λ _. true)) ∙ same (λ _. true) ∙ sym (same (λ _. false))
              ∙ function_is (λ _. false) in cc
          | suc n ↦ λ less. absurd (omega (arith, less))
        ] small;
        differ = λ place other less small. absurd (omega (arith, less, small));
      };
    }
