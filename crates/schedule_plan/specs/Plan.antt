-- Plans: what is done with the clauses of a formula, one move after another. A term is a clause, the conjunction of
-- two terms, or a term from which a variable is quantified. (Bryant, Heule: Generating Extended Resolution Proofs with
-- a BDD-Based SAT Solver, 2021, section 5.)
use Rattle.std.specs.Prelude.{◌≡◌, ℕ, zero, suc, ◌<◌, ◌≤◌, ◌-◌, Bool, true, false, not, ◌&&◌, ◌||◌, ℤ, nat_abs, List, [], ◌∷◌, ◌++◌, length}
use Rattle.std.specs.Prelude.{Option, None, Some, nat_le, nat_lt, ◌==◌, if◌then◌else◌, slice_index_or}
use Rattle.std.specs.List.{list_any}
use Rattle.std.specs.Option.{option_and_then}
use Rattle.cnf_base.specs.Truth.{Assignment, clause_holds, with_value}
use Rattle.cnf_base.specs.Formula.{Formula}
use Rattle.schedule_plan.specs.declared.plan.Move.{Move}
use Rattle.schedule_plan.specs.declared.plan.Move.TheVariants.{Push, And, Exists, ExistsAll}

pub data Term : Type 0 where
  input : ℕ → Term
  both : Term → Term → Term
  some_value : ℕ → Term → Term

-- the clause of a number, from 1
abbrev pub clause_of_number : Formula → ℕ → List ℤ
clause_of_number formula i = slice_index_or formula.clauses (i - 1) []

-- a quantified term is true where some value of the variable makes it true
abbrev pub term_holds : Formula → Assignment → Term → Bool
term_holds formula a (input i) = clause_holds a (clause_of_number formula i)
term_holds formula a (both one other) = term_holds formula a one && term_holds formula a other
term_holds formula a (some_value x term) = term_holds formula (with_value a x true) term || term_holds formula (with_value a x false) term

-- the variables that a term holds, as it is written
abbrev pub clause_has : ℕ → List ℤ → Bool
clause_has x clause = list_any (λ literal. nat_abs literal == x) clause

abbrev pub term_has : Formula → ℕ → Term → Bool
term_has formula x (input i) = clause_has x (clause_of_number formula i)
term_has formula x (both one other) = term_has formula x one || term_has formula x other
term_has formula x (some_value y term) = term_has formula x term && not (x == y)

-- The stacked terms, the last one first, the clauses pushed so far, and the trail: each quantified variable with the
-- term before, the last one first.
pub record Stage : Type 0 where
  pub stack : List Term
  pub pushed : List ℕ
  pub trail : List (ℕ × Term)

abbrev pub is_pushed : List ℕ → ℕ → Bool
is_pushed pushed i = list_any (λ j. j == i) pushed

-- the clauses with these numbers that aren't pushed yet and hold the variable
abbrev pub holds_later : Formula → List ℕ → ℕ → ℕ → Bool
holds_later formula pushed x zero = false
holds_later formula pushed x (suc n) = (not (is_pushed pushed (suc n)) && clause_has x (clause_of_number formula (suc n)))
    || holds_later formula pushed x n

abbrev pub after_push : Formula → Stage → ℕ → Option Stage
after_push formula stage i =
    if nat_lt 0 i && nat_le i (length formula.clauses) && not (is_pushed stage.pushed i)
    then Some (record { stack = input i ∷ stage.stack; pushed = i ∷ stage.pushed; trail = stage.trail }) else None

abbrev pub after_and : Stage → List Term → Option Stage
after_and stage [] = None
after_and stage (top ∷ []) = None
after_and stage (top ∷ below ∷ rest) = Some (record { stack = both below top ∷ rest; pushed = stage.pushed; trail = stage.trail })

abbrev pub after_exists : Formula → Stage → ℕ → List Term → Option Stage
after_exists formula stage x [] = None
after_exists formula stage x (top ∷ rest) =
    if nat_lt 0 x && nat_le x formula.vars && not (list_any (term_has formula x) rest)
    && not (holds_later formula stage.pushed x (length formula.clauses))
    then Some (record { stack = some_value x top ∷ rest; pushed = stage.pushed; trail = (x, top) ∷ stage.trail }) else None

-- each variable of a set in turn
abbrev pub after_all : Formula → Stage → List ℕ → Option Stage
after_all formula stage [] = Some stage
after_all formula stage (x ∷ xs) = option_and_then (λ later. after_all formula later xs) (after_exists formula stage x stage.stack)

-- A move is possible, or not: a clause is one of the formula's and is pushed once, there are terms enough, and a
-- variable is quantified only where no other stacked term and no clause to come holds it.
abbrev pub after_move : Formula → Stage → Move → Option Stage
after_move formula stage (Push i) = after_push formula stage i
after_move formula stage And = after_and stage stage.stack
after_move formula stage (Exists x) = after_exists formula stage x stage.stack
after_move formula stage (ExistsAll xs) = after_all formula stage xs

abbrev pub after_moves : Formula → Stage → List Move → Option Stage
after_moves formula stage [] = Some stage
after_moves formula stage (move ∷ moves) = option_and_then (λ later. after_moves formula later moves) (after_move formula stage move)

abbrev pub no_stage : Stage
no_stage = record { stack = []; pushed = []; trail = [] }

-- all moves are possible, each clause was pushed, and one term is left at most
pub record IsAdmissible (formula : Formula) (moves : List Move) : Type 0 where
  pub last : Stage
  pub possible : after_moves formula no_stage moves ≡ Some last
  pub all_pushed : (i : ℕ) → 0 < i → i ≤ length formula.clauses → is_pushed last.pushed i ≡ true
  pub one_term : length last.stack ≤ 1

-- all clauses, one by one
abbrev pub conjoin : ℕ → List Move
conjoin zero = []
conjoin (suc zero) = Push 1 ∷ []
conjoin (suc (suc n)) = conjoin (suc n) ++ Push (suc (suc n)) ∷ And ∷ []
