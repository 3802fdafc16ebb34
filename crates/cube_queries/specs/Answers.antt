-- What is answered of cubes over a formula. (Cubes: Heule, Kullmann, Wieringa, Biere: Cube and Conquer, HVC 2011.)
use Rattle.std.specs.Prelude.{◌≡◌, ◌<◌, ◌&&◌, ℕ, Bool, true, ℤ, List, [], ◌∷◌, length, Some, IsTrue, ⊤}
use Rattle.std.specs.List.{list_all}
use Rattle.cnf_base.specs.declared.step.Step.{Step}
use Rattle.cnf_base.specs.Cube.{cube_holds, forbidding}
use Rattle.cnf_base.specs.Formula.{Formula}
use Rattle.cnf_base.specs.Truth.{Assignment, Satisfies, assignment_of, clause_holds}
use Rattle.lrat_rules.specs.Conservative.{IsAddedBy, are_conservative}
use Rattle.lrat_rules.specs.Derivation.{IsDerivation, text_of}
use Rattle.lrat_rules.specs.State.{State, Live, clause_at, start}
use Rattle.term_runner.specs.Recovered.{IsLeastIn}
use Rattle.cube_queries.specs.declared.answer.Answer.{Answer}
use Rattle.cube_queries.specs.declared.answer.Answer.TheVariants.{Unsat, Sat}

-- the clauses and the literals of the cube hold together
abbrev pub both_hold : List (List ℤ) → List ℤ → Assignment → Bool
both_hold clauses cube a = cube_holds a cube && list_all (clause_holds a) clauses

-- One value for each variable: those of the least assignment that satisfies the formula and the cube, the variables compared in the
-- order and false before true. They satisfy both.
pub record IsLeastModel (formula : Formula) (order : List ℕ) (cube : List ℤ) (values : List Bool) : Type 0 where
  pub one_each : length values ≡ formula.vars
  pub first : Assignment
  pub least : IsLeastIn order (both_hold formula.clauses cube) first
  pub recovered : (variable : ℕ) → 0 < variable → assignment_of values variable ≡ first variable
  pub satisfies : Satisfies (assignment_of values) formula.clauses
  pub holds : cube_holds (assignment_of values) cube ≡ true

-- No assignment satisfies the formula and the cube, or these values are those of the least one that does.
abbrev pub IsTrueOf : Formula → List ℕ → List ℤ → Answer → Type 0
IsTrueOf formula order cube Unsat = (a : Assignment) → Satisfies a formula.clauses → cube_holds a cube ≡ true → ⊥
IsTrueOf formula order cube (Sat values) = IsLeastModel formula order cube values

-- the clause is live, under some number
abbrev pub IsLive : Live → List ℤ → Type 0
IsLive live clause = (id : ℕ) × (clause_at live id ≡ Some clause)

-- What is answered of a cube is true, and where it is Unsat one of these steps adds the clause that forbids the cube, which is live.
abbrev pub IsAnswer : Formula → List ℕ → List Step → Live → List ℤ → Answer → Type 0
IsAnswer formula order steps live cube answer =
    IsTrueOf formula order cube answer × (answer ≡ Unsat → IsAddedBy steps (forbidding cube) × IsLive live (forbidding cube))

-- there is one for each cube, in turn
abbrev pub AreAll : (List ℤ → Answer → Type 0) → List (List ℤ) → List Answer → Type 0
AreAll is [] [] = ⊤
AreAll is (cube ∷ cubes) (answer ∷ answers) = is cube answer × AreAll is cubes answers
AreAll is [] (answer ∷ answers) = ⊥
AreAll is (cube ∷ cubes) [] = ⊥

abbrev pub AreTrue : Formula → List ℕ → List (List ℤ) → List Answer → Type 0
AreTrue formula order cubes answers = AreAll (IsTrueOf formula order) cubes answers

abbrev pub AreAnswers : Formula → List ℕ → List Step → Live → List (List ℤ) → List Answer → Type 0
AreAnswers formula order steps live cubes answers = AreAll (IsAnswer formula order steps live) cubes answers

-- The bytes are exactly the lines of good steps from the formula, and each of them is conservative; so each clause over the formula's
-- variables that they add follows from it. They show these answers: no clause that forbids a cube is deleted.
pub record AreShown (formula : Formula) (order : List ℕ) (cubes : List (List ℤ)) (answers : List Answer) (bytes : List ℕ) : Type 0 where
  pub steps : List Step
  pub state : State
  pub derived : IsDerivation formula.clauses steps state
  pub conserves : IsTrue (are_conservative formula.vars (start formula.clauses) steps)
  pub text : bytes ≡ text_of steps
  pub shown : AreAnswers formula order steps state.live cubes answers
