-- The plan that conjoins the clauses one by one is admissible.
use Rattle.std.proofs.Common.{◌≡◌, ℕ, zero, suc, ◌<◌, ◌≤◌, true, false, ◌&&◌, ◌||◌, List, [], ◌∷◌, ◌++◌, length, None, Some, refl, ap, ◌∙◌}
use Rattle.std.proofs.Common.{arith, inl, inr, eq-eqb, ne_eqb}
use Rattle.std.specs.Prelude.{not, nat_lt, nat_le, if◌then◌else◌}
use Rattle.std.specs.Option.{option_and_then}
use Rattle.std.proofs.lemmas.Bool.{cases_eq, lt-ltb, le-leb, and_from}
use Rattle.cnf_base.specs.Formula.{Formula}
use Rattle.schedule_plan.specs.declared.plan.Move.{Move}
use Rattle.schedule_plan.specs.declared.plan.Move.TheVariants.{Push, And}
use Rattle.schedule_plan.specs.Plan.{Term, input, both, Stage, IsAdmissible, after_moves, after_move, after_push, conjoin, is_pushed}
use Rattle.schedule_plan.specs.Plan.{no_stage}

-- the numbers up to one, the greatest first, and the conjunction of their clauses
abbrev down : ℕ → List ℕ
down zero = []
down (suc n) = suc n ∷ down n

abbrev all_up_to : ℕ → Term
all_up_to zero = input 1
all_up_to (suc n) = both (all_up_to n) (input (suc (suc n)))

abbrev stage_of : ℕ → Stage
stage_of zero = no_stage
stage_of (suc n) = record { stack = all_up_to n ∷ []; pushed = down (suc n); trail = [] }

above : (n i : ℕ) → n < i → is_pushed (down n) i ≡ false
above zero i late = refl
above (suc n) i late = (λ k. ne_eqb (suc n) i (λ same. omega (arith, same, late)) k || above n i (omega (arith, late)) k)

within : (n i : ℕ) → 0 < i → i ≤ n → is_pushed (down n) i ≡ true
within zero i positive small = absurd (omega (arith, positive, small))
within (suc n) i positive small =
    elim (cases_eq (suc n) i) [
      | inl same ↦ ap (λ b. b || is_pushed (down n) i) (eq-eqb (suc n) i same)
      | inr differ ↦ (λ k. ne_eqb (suc n) i differ k || within n i positive (omega (arith, small, differ)) k)
    ]

pub append : (formula : Formula) (stage : Stage) (some more : List Move) → after_moves formula stage (some ++ more)
    ≡ option_and_then (λ later. after_moves formula later more) (after_moves formula stage some)
append formula stage [] more = refl
append formula stage (move ∷ some) more =
    elim (after_move formula stage move) as (λ o. option_and_then (λ later. after_moves formula later (some ++ more)) o
    ≡ option_and_then (λ later. after_moves formula later more) (option_and_then (λ later. after_moves formula later some) o)) [
      | None ↦ refl
      | Some later ↦ append formula later some more
    ]

-- the next clause can be pushed
pushes : (formula : Formula) (n : ℕ) (stack : List Term) → suc n ≤ length formula.clauses
    → after_push formula (record { stack = stack; pushed = down n; trail = [] }) (suc n)
    ≡ Some (record { stack = input (suc n) ∷ stack; pushed = down (suc n); trail = [] })
pushes formula n stack small =
    let possible : (nat_lt 0 (suc n) && nat_le (suc n) (length formula.clauses) && not (is_pushed (down n) (suc n))) ≡ true =
    and_from (nat_lt 0 (suc n) && nat_le (suc n) (length formula.clauses)) (not (is_pushed (down n) (suc n)))
    (and_from (nat_lt 0 (suc n)) (nat_le (suc n) (length formula.clauses)) (lt-ltb 0 (suc n) (omega arith))
    (le-leb (suc n) (length formula.clauses) small))
    (ap not (above n (suc n) (omega arith))) in
    ap (λ b. if b then Some (record { stack = input (suc n) ∷ stack; pushed = down (suc n); trail = [] }) else None) possible

reaches : (formula : Formula) (n : ℕ) → n ≤ length formula.clauses → after_moves formula no_stage (conjoin n) ≡ Some (stage_of n)
reaches formula zero small = refl
reaches formula (suc zero) small = ap (option_and_then (λ later. Some later)) (pushes formula 0 [] small)
reaches formula (suc (suc n)) small =
    append formula no_stage (conjoin (suc n)) (Push (suc (suc n)) ∷ And ∷ [])
    ∙ ap (option_and_then (λ later. after_moves formula later (Push (suc (suc n)) ∷ And ∷ [])))
    (reaches formula (suc n) (omega (arith, small)))
    ∙ ap (option_and_then (λ later. after_moves formula later (And ∷ []))) (pushes formula (suc n) (all_up_to n ∷ []) small)

few : (n : ℕ) → length (stage_of n).stack ≤ 1
few zero = omega arith
few (suc n) = omega arith

pushed_all : (n i : ℕ) → 0 < i → i ≤ n → is_pushed (stage_of n).pushed i ≡ true
pushed_all zero i positive small = absurd (omega (arith, positive, small))
pushed_all (suc n) i positive small = within (suc n) i positive small

pub conjoin_is_admissible : (formula : Formula) → IsAdmissible formula (conjoin (length formula.clauses))
conjoin_is_admissible formula = record {
  last = stage_of (length formula.clauses);
  possible = reaches formula (length formula.clauses) (omega arith);
  all_pushed = pushed_all (length formula.clauses);
  one_term = few (length formula.clauses);
}
