-- Sets of variables that one move quantifies from the top term. Their order and repetition decide nothing but the order of the trail.
-- (Bryant, Heule: Generating Extended Resolution Proofs with a BDD-Based SAT Solver, 2021, section 5.)
use Rattle.std.specs.Prelude.{◌≡◌, ◌⊎◌, ◌<◌, ◌-◌, ℕ, Bool, true, false, List, [], ◌∷◌, ◌++◌, Contains, None, Some, length, map, reverse, take}
use Rattle.std.specs.List.{filter, list_any}
use Rattle.cnf_base.specs.Formula.{Formula}
use Rattle.cnf_base.specs.Order.{IsOrder}
use Rattle.schedule_plan.specs.declared.plan.Move.{Move}
use Rattle.schedule_plan.specs.declared.plan.Move.TheVariants.{Push, And, Exists, ExistsAll}
use Rattle.schedule_plan.specs.declared.schedule.error.PlanKind.{PlanKind}
use Rattle.schedule_plan.specs.Plan.{IsAdmissible, Stage, Term, after_all, some_value}
use Rattle.schedule_plan.specs.ScheduleText.{fault_of_all}
use Rattle.schedule_plan.specs.ScheduleState.{is_among}

-- the top term with each of them quantified in turn, and the trail then
abbrev pub quantified_by : List ℕ → Term → Term
quantified_by [] term = term
quantified_by (x ∷ xs) term = quantified_by xs (some_value x term)

abbrev pub trail_by : List ℕ → Term → List (ℕ × Term) → List (ℕ × Term)
trail_by [] term trail = trail
trail_by (x ∷ xs) term trail = trail_by xs (some_value x term) ((x, term) ∷ trail)

abbrev pub staged : List Term → List ℕ → List (ℕ × Term) → Stage
staged stack pushed trail = record { stack = stack; pushed = pushed; trail = trail }

-- the variables of a set from the last one in the order to the first, each once
abbrev pub falling : List ℕ → List ℕ → List ℕ
falling order xs = filter (is_among xs) (reverse order)

-- a plan with the variables of each set so
abbrev pub move_in_order : List ℕ → Move → Move
move_in_order order (Push i) = Push i
move_in_order order And = And
move_in_order order (Exists x) = Exists x
move_in_order order (ExistsAll xs) = ExistsAll (falling order xs)

abbrev pub in_order : List ℕ → List Move → List Move
in_order order moves = map (move_in_order order) moves

-- What a move gives: its result, and the terms that it puts on the trail.
abbrev pub given : Stage → Stage → List Term
given before after = take 1 after.stack ++ map (λ kept. kept.1) (take (length after.trail - length before.trail) after.trail)

abbrev pub IsGiven : Stage → Stage → Term → Type 0
IsGiven before after term = Contains (given before after) term

-- the same variables
abbrev pub SameSet : List ℕ → List ℕ → Type 0
SameSet xs ys = (x : ℕ) → is_among xs x ≡ is_among ys x

-- two moves are the same, but for the order and the repetition of a set's variables
pub record AreSets (one other : Move) : Type 0 where
  pub xs : List ℕ
  pub ys : List ℕ
  pub first : one ≡ ExistsAll xs
  pub second : other ≡ ExistsAll ys
  pub same : SameSet xs ys

abbrev pub IsAlike : Move → Move → Type 0
IsAlike one other = (one ≡ other) ⊎ AreSets one other

abbrev pub AreAlike : List Move → List Move → Type 0
AreAlike [] [] = Unit {0}
AreAlike [] (other ∷ others) = ⊥
AreAlike (move ∷ moves) [] = ⊥
AreAlike (move ∷ moves) (other ∷ others) = IsAlike move other × AreAlike moves others

-- no set is quantified at once
abbrev pub is_set : Move → Bool
is_set (Push i) = false
is_set And = false
is_set (Exists x) = false
is_set (ExistsAll xs) = true

-- A set is possible exactly where it has no fault: in each order, and however often a variable is repeated. So a plan is admissible in
-- one order of its sets exactly where it is in another, and in that of the variables; without sets that is the plan itself.
pub record SetMoves : Type 0 where
  pub possible : (formula : Formula) (top : Term) (rest : List Term) (pushed : List ℕ) (trail : List (ℕ × Term)) (xs : List ℕ)
      → fault_of_all formula (staged (top ∷ rest) pushed trail) xs (top ∷ rest) ≡ None
      → after_all formula (staged (top ∷ rest) pushed trail) xs ≡ Some (staged (quantified_by xs top ∷ rest) pushed (trail_by xs top trail))
  pub refused : (formula : Formula) (stage : Stage) (xs : List ℕ) (kind : PlanKind) → 0 < length xs
      → fault_of_all formula stage xs stage.stack ≡ Some kind → after_all formula stage xs ≡ None
  pub alike : (formula : Formula) (moves others : List Move) → AreAlike moves others → IsAdmissible formula moves
      → IsAdmissible formula others
  pub ordered : (formula : Formula) (order : List ℕ) (moves : List Move) → IsOrder order → length order ≡ formula.vars
      → IsAdmissible formula moves → AreAlike moves (in_order order moves)
  pub without_sets : (order : List ℕ) (moves : List Move) → list_any is_set moves ≡ false → in_order order moves ≡ moves
