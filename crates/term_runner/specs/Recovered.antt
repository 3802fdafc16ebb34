-- The assignment that is recovered after a plan: of those that satisfy the plan's last term the least, the variables
-- compared in the order and false before true; and then values for the quantified variables, from the last one back.
-- (Bryant, Heule: Generating Extended Resolution Proofs with a BDD-Based SAT Solver, 2021, section 5.)
use Rattle.std.specs.Prelude.{◌≡◌, ◌<◌, ℕ, Bool, true, false, not, ◌&&◌, List, [], ◌∷◌, length, Some, slice_index_or}
use Rattle.cnf_base.specs.Truth.{Assignment, Satisfies, assignment_of, with_value}
use Rattle.cnf_base.specs.Formula.{Formula}
use Rattle.schedule_plan.specs.declared.plan.Move.{Move}
use Rattle.schedule_plan.specs.Plan.{Term, Stage, term_holds, after_moves, no_stage}
use Rattle.schedule_plan.specs.SetMove.{in_order}

-- It makes the function true. Each other one that does has true where it has, at the first place where they differ.
pub record IsLeastIn (order : List ℕ) (holds : Assignment → Bool) (a : Assignment) : Type 0 where
  pub satisfies : holds a ≡ true
  pub least : (other : Assignment) → holds other ≡ true → (place : ℕ) → place < length order
      → ((earlier : ℕ) → earlier < place → other (slice_index_or order earlier 0) ≡ a (slice_index_or order earlier 0))
      → a (slice_index_or order place 0) ≡ true → other (slice_index_or order place 0) ≡ true

-- the stacked terms are true together; without terms that is so
abbrev pub stack_holds : Formula → Assignment → List Term → Bool
stack_holds formula a [] = true
stack_holds formula a (term ∷ terms) = term_holds formula a term && stack_holds formula a terms

-- The value of a quantified variable, set back: false where the term that it was quantified from is true with it false.
abbrev pub set_back : Formula → Assignment → ℕ × Term → Assignment
set_back formula a (x, term) = with_value a x (not (term_holds formula (with_value a x false) term))

-- those of a trail, the last quantified variable first
abbrev pub set_all_back : Formula → Assignment → List (ℕ × Term) → Assignment
set_all_back formula a [] = a
set_all_back formula a (kept ∷ trail) = set_all_back formula (set_back formula a kept) trail

-- One value for each variable: those of the least assignment that satisfies the plan's last term, and behind it the
-- quantified variables, set back one after another; those of a set were quantified in the reversed order. These values satisfy the
-- formula.
pub record IsRecovered (formula : Formula) (order : List ℕ) (moves : List Move) (values : List Bool) : Type 0 where
  pub one_each : length values ≡ formula.vars
  pub last : Stage
  pub reached : after_moves formula no_stage (in_order order moves) ≡ Some last
  pub first : Assignment
  pub least : IsLeastIn order (λ a. stack_holds formula a last.stack) first
  pub recovered : (variable : ℕ) → 0 < variable → assignment_of values variable ≡ set_all_back formula first last.trail variable
  pub satisfied : Satisfies (assignment_of values) formula.clauses
