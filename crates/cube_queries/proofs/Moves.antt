-- The plan that conjoins the clauses one by one, move by move: what it has in hand, and where more is in hand than a number it is wider.
use Rattle.std.proofs.Common.{◌≡◌, ◌∙◌, ℕ, zero, suc, ◌<◌, ◌≤◌, ◌+◌, ◌++◌, ◌&&◌, ◌||◌, Bool, true, false, not, ℤ, List, [], ◌∷◌}
use Rattle.std.proofs.Common.{◌-◌, length, take, Contains, None, Some, refl, sym, ap, subst, arith, inl, inr, ne_eqb}
use Rattle.std.specs.Prelude.{nat_lt, nat_le, if◌then◌else◌}
use Rattle.std.specs.List.{list_all, slice_get}
use Rattle.std.specs.Option.{option_and_then}
use Rattle.std.proofs.lemmas.Bool.{and_from, cases_eq, lt-ltb, le-leb}
use Rattle.std.proofs.lemmas.List.{length-append, map-append}
use Rattle.std.proofs.Math.Seq.{take-append-add}
use Rattle.cnf_base.specs.Formula.{Formula}
use Rattle.cnf_base.specs.Truth.{Assignment, clause_holds}
use Rattle.node_table.specs.Value.{IsSubfunction, Levels, fixed_to}
use Rattle.clause_terms.specs.Term.{by_variable}
use Rattle.schedule_plan.specs.declared.plan.Move.{Move}
use Rattle.schedule_plan.specs.declared.plan.Move.TheVariants.{Push, And}
use Rattle.schedule_plan.specs.Plan.{Term, input, both, Stage, after_moves, after_move, after_push, clause_of_number, conjoin, is_pushed, no_stage}
use Rattle.schedule_plan.specs.Plan.{term_holds}
use Rattle.schedule_plan.specs.SetMove.{in_order, move_in_order}
use Rattle.term_runner.specs.Width.{IsInHand, IsMove, IsWider}
use Rattle.bdd_terms.specs.Parts.{part_at, term_function}
use Rattle.cube_queries.specs.Width.{HaveMore}
use Rattle.cube_queries.proofs.Formulas.{all_taken, one_more}
use Rattle.cube_queries.proofs.Parts.{among_cases}

-- the numbers up to one, the greatest first, and the conjunction of their clauses
abbrev pub down : ℕ → List ℕ
down zero = []
down (suc n) = suc n ∷ down n

abbrev pub all_up_to : ℕ → Term
all_up_to zero = input 1
all_up_to (suc n) = both (all_up_to n) (input (suc (suc n)))

abbrev pub stage_of : ℕ → Stage
stage_of zero = no_stage
stage_of (suc n) = record { stack = all_up_to n ∷ []; pushed = down (suc n); trail = [] }

-- with the next clause on the stack
abbrev pub pushed_at : ℕ → Stage
pushed_at n = record { stack = input (suc (suc n)) ∷ all_up_to n ∷ []; pushed = down (suc (suc n)); trail = [] }

above : (n i : ℕ) → n < i → is_pushed (down n) i ≡ false
above zero i late = refl
above (suc n) i late = (λ k. ne_eqb (suc n) i (λ same. omega (arith, same, late)) k || above n i (omega (arith, late)) k)

append : (formula : Formula) (stage : Stage) (some more : List Move) → after_moves formula stage (some ++ more)
    ≡ option_and_then (λ later. after_moves formula later more) (after_moves formula stage some)
append formula stage [] more = refl
append formula stage (move ∷ some) more =
    elim (after_move formula stage move) as (λ o. option_and_then (λ later. after_moves formula later (some ++ more)) o
    ≡ option_and_then (λ later. after_moves formula later more) (option_and_then (λ later. after_moves formula later some) o)) [
      | None ↦ refl
      | Some later ↦ append formula later some more
    ]

-- the next clause can be pushed
pushes : (formula : Formula) (n : ℕ) (stack : List Term) → suc n ≤ length formula.clauses
    → after_push formula (record { stack = stack; pushed = down n; trail = [] }) (suc n)
    ≡ Some (record { stack = input (suc n) ∷ stack; pushed = down (suc n); trail = [] })
pushes formula n stack small =
    let possible : (nat_lt 0 (suc n) && nat_le (suc n) (length formula.clauses) && not (is_pushed (down n) (suc n))) ≡ true =
    and_from (nat_lt 0 (suc n) && nat_le (suc n) (length formula.clauses)) (not (is_pushed (down n) (suc n)))
    (and_from (nat_lt 0 (suc n)) (nat_le (suc n) (length formula.clauses)) (lt-ltb 0 (suc n) (omega arith))
    (le-leb (suc n) (length formula.clauses) small))
    (ap not (above n (suc n) (omega arith))) in
    ap (λ b. if b then Some (record { stack = input (suc n) ∷ stack; pushed = down (suc n); trail = [] }) else None) possible

reaches : (formula : Formula) (n : ℕ) → n ≤ length formula.clauses → after_moves formula no_stage (conjoin n) ≡ Some (stage_of n)
reaches formula zero small = refl
reaches formula (suc zero) small = ap (option_and_then (λ later. Some later)) (pushes formula 0 [] small)
reaches formula (suc (suc n)) small =
    append formula no_stage (conjoin (suc n)) (Push (suc (suc n)) ∷ And ∷ [])
    ∙ ap (option_and_then (λ later. after_moves formula later (Push (suc (suc n)) ∷ And ∷ [])))
    (reaches formula (suc n) (omega (arith, small)))
    ∙ ap (option_and_then (λ later. after_moves formula later (And ∷ []))) (pushes formula (suc n) (all_up_to n ∷ []) small)

-- how many moves there are
pub moves_more : (n : ℕ) → length (conjoin (suc (suc n))) ≡ length (conjoin (suc n)) + 2
moves_more n = length-append (conjoin (suc n)) (Push (suc (suc n)) ∷ And ∷ [])

one_rise : (n : ℕ) → length (conjoin n) ≤ length (conjoin (suc n))
one_rise zero = omega arith
one_rise (suc n) = omega (arith, moves_more n)

pub moves_rise : (n m : ℕ) → n ≤ m → length (conjoin n) ≤ length (conjoin m)
moves_rise n zero small =
    let same : n ≡ 0 = omega (arith, small) in subst (λ (k : ℕ). length (conjoin k) ≤ length (conjoin 0)) (sym same) (omega arith)
moves_rise n (suc m) small = elim (cases_eq n (suc m)) [
  | inl same ↦ subst (λ (k : ℕ). length (conjoin n) ≤ length (conjoin k)) same (omega arith)
  | inr differ ↦ let less = moves_rise n m (omega (arith, small, differ)) in omega (arith, less, one_rise m)
]

-- no move of it quantifies a set
plain : (order : List ℕ) (n : ℕ) → in_order order (conjoin n) ≡ conjoin n
plain order zero = refl
plain order (suc zero) = refl
plain order (suc (suc n)) =
    map-append (move_in_order order) (conjoin (suc n)) (Push (suc (suc n)) ∷ And ∷ [])
    ∙ ap (λ (l : List Move). l ++ Push (suc (suc n)) ∷ And ∷ []) (plain order (suc n))

-- the plan begins with that of fewer clauses
record Begins (front whole : List Move) : Type 0 where
  rest : List Move
  parts : whole ≡ front ++ rest

append_further : (xs ys zs : List Move) → (xs ++ ys) ++ zs ≡ xs ++ (ys ++ zs)
append_further [] ys zs = refl
append_further (x ∷ xs) ys zs = ap (λ (l : List Move). x ∷ l) (append_further xs ys zs)

none_more : (xs : List Move) → xs ≡ xs ++ []
none_more [] = refl
none_more (x ∷ xs) = ap (λ (l : List Move). x ∷ l) (none_more xs)

begins : (n m : ℕ) → n ≤ m → Begins (conjoin (suc n)) (conjoin (suc m))
begins n zero small =
    let same : n ≡ 0 = omega (arith, small) in
    record { rest = []; parts = ap (λ (k : ℕ). conjoin (suc k)) (sym same) ∙ none_more (conjoin (suc n)) }
begins n (suc m) small = elim (cases_eq n (suc m)) [
  | inl same ↦ record { rest = []; parts = ap (λ (k : ℕ). conjoin (suc k)) (sym same) ∙ none_more (conjoin (suc n)) }
  | inr differ ↦
      let fewer = begins n m (omega (arith, small, differ)) in
      record {
        rest = fewer.rest ++ Push (suc (suc m)) ∷ And ∷ [];
        parts = ap (λ (l : List Move). l ++ Push (suc (suc m)) ∷ And ∷ []) fewer.parts
            ∙ append_further (conjoin (suc n)) fewer.rest (Push (suc (suc m)) ∷ And ∷ []);
      }
]

get_second : (xs : List Move) (y z : Move) (rest : List Move) → slice_get (xs ++ y ∷ z ∷ rest) (suc (length xs)) ≡ Some z
get_second [] y z rest = refl
get_second (x ∷ xs) y z rest = get_second xs y z rest

get_behind : (xs : List Move) (y z : Move) (rest : List Move) → slice_get (xs ++ y ∷ z ∷ rest) (length xs + 1) ≡ Some z
get_behind xs y z rest =
    let same : length xs + 1 ≡ suc (length xs) = omega arith in
    ap (slice_get (xs ++ y ∷ z ∷ rest)) same ∙ get_second xs y z rest

-- a part in hand, as one of functions
part_in_hand : (formula : Formula) (order : List ℕ) (before after : Stage) (functions : List (Levels → Bool))
    → ((f : Levels → Bool) → Contains functions f → (term : Term) × IsInHand false before after term × (f ≡ term_function formula order term))
    → (number : ℕ) → HaveMore functions number → (moves : List Move) (count : ℕ) → IsMove formula (in_order order moves) count before after
    → IsWider formula order moves number
part_in_hand formula order before after functions terms number have moves count move = record {
  count = count;
  before = before;
  after = after;
  move = move;
  more = record {
    parts = have.parts;
    more = have.more;
    are = λ place small.
        let is = have.are place small in
        let term = terms is.function is.among in
        inl (record {
          term = term.0;
          in_hand = term.1;
          is_part = subst (λ (f : Levels → Bool). IsSubfunction f (part_at have.parts place)) term.2 is.is_part;
        });
    essential = have.essential;
    differ = have.differ;
  };
}

-- where the first clause has more parts
pub wider_first : (formula : Formula) (order : List ℕ) → 0 < length formula.clauses → (functions : List (Levels → Bool))
    → ((f : Levels → Bool) → Contains functions f → f ≡ term_function formula order (input 1)) → (number : ℕ) → HaveMore functions number
    → IsWider formula order (conjoin (length formula.clauses)) number
wider_first formula order some functions are number have = by_length (length formula.clauses) refl where
  by_length : (n : ℕ) → n ≡ length formula.clauses → IsWider formula order (conjoin n) number
  by_length zero is = absurd (omega (arith, is, some))
  by_length (suc n) is =
      let whole = begins 0 n (omega arith) in
      let parts : conjoin (suc n) ≡ Push 1 ∷ whole.rest = whole.parts in
      part_in_hand formula order no_stage (stage_of 1) functions
      (λ f there. (input 1, inr (0, omega arith, refl), are f there)) number have (conjoin (suc n)) 0 (record {
        step = Push 1;
        is = ap (λ (l : List Move). slice_get l 0) (plain order (suc n) ∙ parts);
        reached = refl;
        leads = pushes formula 0 [] (omega (arith, is));
      })

-- where the conjunction of one more clause with those before has more, or one of both
pub wider_next : (formula : Formula) (order : List ℕ) (n : ℕ) → suc (suc n) ≤ length formula.clauses → (functions : List (Levels → Bool))
    → ((f : Levels → Bool) → Contains functions f → (term : Term) × IsInHand false (pushed_at n) (stage_of (suc (suc n))) term
    × (f ≡ term_function formula order term))
    → (number : ℕ) → HaveMore functions number → IsWider formula order (conjoin (length formula.clauses)) number
wider_next formula order n small functions terms number have = by_length (length formula.clauses) refl where
  front : List Move
  front = conjoin (suc n)

  by_length : (m : ℕ) → m ≡ length formula.clauses → IsWider formula order (conjoin m) number
  by_length zero is = absurd (omega (arith, is, small))
  by_length (suc zero) is = absurd (omega (arith, is, small))
  by_length (suc (suc m)) is =
      let whole = begins (suc n) (suc m) (omega (arith, is, small)) in
      let parts : conjoin (suc (suc m)) ≡ front ++ Push (suc (suc n)) ∷ And ∷ whole.rest =
      whole.parts ∙ append_further front (Push (suc (suc n)) ∷ And ∷ []) whole.rest in
      let all : in_order order (conjoin (suc (suc m))) ≡ front ++ Push (suc (suc n)) ∷ And ∷ whole.rest =
      plain order (suc (suc m)) ∙ parts in
      part_in_hand formula order (pushed_at n) (stage_of (suc (suc n))) functions terms number have (conjoin (suc (suc m)))
      (length front + 1) (record {
        step = And;
        is = ap (λ (l : List Move). slice_get l (length front + 1)) all
            ∙ get_behind front (Push (suc (suc n))) And whole.rest;
        reached = ap (λ (l : List Move). after_moves formula no_stage (take (length front + 1) l)) all
            ∙ ap (after_moves formula no_stage) (take-append-add front (Push (suc (suc n)) ∷ And ∷ whole.rest) 1)
            ∙ append formula no_stage front (Push (suc (suc n)) ∷ [])
            ∙ ap (option_and_then (λ later. after_moves formula later (Push (suc (suc n)) ∷ []))) (reaches formula (suc n) (omega (arith, small)))
            ∙ ap (option_and_then (λ later. Some later)) (pushes formula (suc n) (all_up_to n ∷ []) small);
        leads = refl;
      })

-- what the terms in hand there are
pub both_there : (n : ℕ) → IsInHand false (pushed_at n) (stage_of (suc (suc n))) (both (all_up_to n) (input (suc (suc n))))
both_there n = inr (0, omega arith, refl)

pub clause_there : (n : ℕ) → IsInHand false (pushed_at n) (stage_of (suc (suc n))) (input (suc (suc n)))
clause_there n = inl (0, omega arith, refl)

pub front_there : (n : ℕ) → IsInHand false (pushed_at n) (stage_of (suc (suc n))) (all_up_to n)
front_there n = inl (1, omega arith, refl)

-- the conjunction holds where its clauses do
pub front_holds : (formula : Formula) (n : ℕ) → n < length formula.clauses → (a : Assignment)
    → list_all (clause_holds a) (take (suc n) formula.clauses) ≡ term_holds formula a (all_up_to n)
front_holds formula zero small a = one_more formula.clauses a 1 (omega arith) small
front_holds formula (suc n) small a =
    one_more formula.clauses a (suc (suc n)) (omega arith) small
    ∙ (let back : suc (suc n) - 1 ≡ suc n = omega arith in
    ap (λ (k : ℕ). list_all (clause_holds a) (take k formula.clauses) && clause_holds a (clause_of_number formula (suc (suc n)))) back)
    ∙ ap (λ (b : Bool). b && clause_holds a (clause_of_number formula (suc (suc n)))) (front_holds formula n (omega (arith, small)) a)

-- whether all clauses hold, by levels
abbrev pub formula_function : Formula → List ℕ → Levels → Bool
formula_function formula order a = list_all (clause_holds (by_variable order a)) formula.clauses

-- Where the formula's function has more parts, the plan is wider: it is in hand at the last move.
module _ (formula : Formula) (order : List ℕ) (number : ℕ) (have : HaveMore (formula_function formula order ∷ []) number) where
  only : (f : Levels → Bool) → Contains (formula_function formula order ∷ []) f → f ≡ formula_function formula order
  only f there = elim (among_cases (formula_function formula order) f [] there) [
    | inl same ↦ sym same
    | inr none ↦ absurd (omega (arith, none.1))
  ]

  last_is : (n : ℕ) → suc n ≡ length formula.clauses → formula_function formula order ≡ term_function formula order (all_up_to n)
  last_is n last = λ i a. (ap (list_all (clause_holds (by_variable order a)))
      (sym (all_taken formula.clauses) ∙ ap (λ (k : ℕ). take k formula.clauses) (sym last))
      ∙ front_holds formula n (omega (arith, last)) (by_variable order a)) i

  -- a formula without clauses always holds
  none_matters : length formula.clauses ≡ 0 → ⊥
  none_matters none =
      let first : 0 < length have.parts = omega (arith, have.more) in
      let part = have.are 0 first in
      have.essential 0 first true (λ a.
      part.is_part.same a ∙ (λ i. only part.function part.among i (fixed_to part.is_part.level part.is_part.fixed a))
      ∙ always formula.clauses none (by_variable order (fixed_to part.is_part.level part.is_part.fixed a)))
    where
      always : (clauses : List (List ℤ)) → length clauses ≡ 0 → (a : Assignment) → list_all (clause_holds a) clauses ≡ true
      always [] same a = refl
      always (clause ∷ clauses) same a = absurd (omega (arith, same))

  pub wider_whole : IsWider formula order (conjoin (length formula.clauses)) number
  wider_whole = by_length (length formula.clauses) refl
    where
      by_length : (n : ℕ) → n ≡ length formula.clauses → IsWider formula order (conjoin (length formula.clauses)) number
      by_length zero is = absurd (none_matters (sym is))
      by_length (suc zero) is = wider_first formula order (omega (arith, is)) (formula_function formula order ∷ [])
          (λ f there. only f there ∙ last_is 0 is) number have
      by_length (suc (suc n)) is = wider_next formula order n (omega (arith, is)) (formula_function formula order ∷ [])
          (λ f there. (both (all_up_to n) (input (suc (suc n))), both_there n, only f there ∙ last_is (suc n) is)) number have
