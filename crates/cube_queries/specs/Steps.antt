-- Steps of a session of cubes: calls of a runner.
use Rattle.std.specs.Prelude.{◌≡◌, ◌≢◌, ◌⊎◌, ◌≤◌, ◌+◌, ◌*◌, ◌&&◌, ℕ, Bool, false, List, [], ◌∷◌, Result, Err, IfOk, IsErr}
use Rattle.std.specs.Prelude.{Option, Some, ℤ, length}
use Rattle.std.specs.List.{list_all}
use Rattle.cnf_base.specs.Formula.{Formula}
use Rattle.cnf_base.specs.Truth.{Assignment, clause_holds}
use Rattle.node_table.specs.declared.error.TableError.{TableError}
use Rattle.node_table.specs.declared.error.TableError.TheVariants.{IdLimit, NodeLimit}
use Rattle.node_table.specs.declared.node.Node.TheVariants.{False}
use Rattle.node_table.specs.Diagram.{levels}
use Rattle.node_table.specs.Progress.{Leaves, error_of}
use Rattle.node_table.specs.Table.{UnlessTorn}
use Rattle.node_table.specs.Tied.{KeepsClauses}
use Rattle.node_table.specs.Value.{Levels}
use Rattle.clause_terms.specs.Term.{by_variable}
use Rattle.schedule_plan.specs.Plan.{input as input_term, term_holds}
use Rattle.bdd_terms.specs.declared.held.HeldTerm.{HeldTerm}
use Rattle.bdd_terms.specs.declared.runner.Runner.{Runner}
use Rattle.bdd_terms.specs.declared.term.Term.{Term}
use Rattle.bdd_terms.specs.Price.{IsMovePrice}
use Rattle.bdd_terms.specs.Runner.{IsListed, IsRunner, holds_in}
pub use Rattle.bdd_terms.specs.Takes.{KeepsTerms, function_in, functions_out}
use Rattle.term_runner.specs.Width.{HasWidth, IsWider}
use Rattle.cube_queries.specs.declared.answer.Answer.{Answer}
use Rattle.cube_queries.specs.Answers.{AreAnswers, IsAnswer}
use Rattle.cube_queries.specs.Width.{HaveMore, numbers_of_cubes, plan_of}

-- What a step leaves, however it ends: the formula, the limits, the order and the sink stay, and the proof goes on.
pub record Goes {S : Type 0} (old new : Runner S) (error : Option TableError) : Type 0 where
  pub formula : new.formula ≡ old.formula
  pub limits : new.limits ≡ old.limits
  pub order : new.terms.table.graph.order ≡ old.terms.table.graph.order
  pub origin : new.terms.table.book.origin ≡ old.terms.table.book.origin
  pub leaves : Leaves old.terms.table new.terms.table error

-- A step gives a term that holds where this does, behind those that are out. It refutes the formula only where that term is False.
pub record Takes {S : Type 0} (holds : Assignment → Bool) (old new : Runner S) (result : Result Term TableError) : Type 0 where
  pub goes_on : UnlessTorn result (IsRunner new)
  pub value : IfOk result (λ term. (a : Assignment) → holds_in new term.held a ≡ holds a)
  pub listed : IfOk result (λ term. IsListed old.terms.out.items new.terms.out.items term.held)
  pub refused : UnlessTorn result (IsErr result → new.terms.out.items ≡ old.terms.out.items)
  pub unrefuted : UnlessTorn result (old.refuted ≡ false → IfOk result (λ term. term.held.node ≢ False) → new.refuted ≡ false)
  pub keeps : UnlessTorn result (KeepsTerms old new)
  pub goes : Goes old new (error_of result)

-- Nodes that no term reaches are given back, or that failed. The terms stay.
pub record GivesBack {S T : Type 0} (old new : Runner S) (result : Result T TableError) : Type 0 where
  pub goes_on : UnlessTorn result (IsRunner new)
  pub out : new.terms.out.items ≡ old.terms.out.items
  pub keeps : UnlessTorn result (KeepsTerms old new)
  pub no_limit : result ≢ Err NodeLimit
  pub no_numbers : result ≢ Err IdLimit
  pub top : new.terms.table.book.state.top ≡ old.terms.table.book.state.top
  pub goes : Goes old new (error_of result)

-- A step gives a term that holds where this does, behind these, which alone are out yet. It refutes the formula only where that is False.
pub record TakesOver {S : Type 0} (before : List HeldTerm) (holds : Assignment → Bool) (old new : Runner S)
    (result : Result Term TableError)
    : Type 0 where
  pub goes_on : UnlessTorn result (IsRunner new)
  pub value : IfOk result (λ term. (a : Assignment) → holds_in new term.held a ≡ holds a)
  pub listed : IfOk result (λ term. IsListed before new.terms.out.items term.held)
  pub refused : UnlessTorn result (IsErr result → new.terms.out.items ≡ before)
  pub unrefuted : UnlessTorn result (old.refuted ≡ false → IfOk result (λ term. term.held.node ≢ False) → new.refuted ≡ false)
  pub goes : Goes old new (error_of result)

-- no other one is out
abbrev pub TakesAlone : {S : Type 0} → (Assignment → Bool) → Runner S → Runner S → Result Term TableError → Type 0
TakesAlone holds old new result = TakesOver [] holds old new result

-- where the formula's clauses hold
abbrev pub formula_holds : Formula → Assignment → Bool
formula_holds formula a = list_all (clause_holds a) formula.clauses

-- no number is left
abbrev pub IsSpent : {S : Type 0} → Runner S → Type 0
IsSpent runner = runner.terms.table.book.limit ≤ runner.terms.table.book.state.top

-- A step answers a cube, beside a term that stays. No clause is deleted, no limit of nodes is met, and that of numbers only where none is
-- left.
pub record Replies {S : Type 0} (cube : List ℤ) (old new : Runner S) (result : Result Answer TableError) : Type 0 where
  pub goes_on : UnlessTorn result (IsRunner new)
  pub out : new.terms.out.items ≡ old.terms.out.items
  pub keeps : UnlessTorn result (KeepsTerms old new)
  pub clauses : KeepsClauses old.terms.table.book.state.live new.terms.table.book.state.live
  pub no_limit : result ≢ Err NodeLimit
  pub spent : result ≡ Err IdLimit → IsSpent new
  pub answer : IfOk result (IsAnswer new.formula.now new.terms.table.graph.order new.terms.table.book.steps new.terms.table.book.state.live
      cube)
  pub goes : Goes old new (error_of result)

-- Cubes are answered, one by one. Where the limit of nodes is met nothing is refuted, and where that of numbers is, unless none is left.
pub record RepliesAll {S : Type 0} (cubes : List (List ℤ)) (old new : Runner S) (result : Result (List Answer) TableError) : Type 0 where
  pub goes_on : UnlessTorn result (IsRunner new)
  pub answers : IfOk result (AreAnswers new.formula.now new.terms.table.graph.order new.terms.table.book.steps
      new.terms.table.book.state.live cubes)
  pub unrefuted : result ≡ Err NodeLimit → old.refuted ≡ false → new.refuted ≡ false
  pub behind : result ≡ Err IdLimit → old.refuted ≡ false → (new.refuted ≡ false) ⊎ IsSpent new
  pub goes : Goes old new (error_of result)

-- a clause's function by levels
abbrev pub clause_in : {S : Type 0} → Runner S → ℕ → Levels → Bool
clause_in runner number a = term_holds runner.formula.now (by_variable runner.terms.table.graph.order a) (input_term number)

-- in hand as a clause's term is conjoined with the one that is out
abbrev pub functions_with : {S : Type 0} → Runner S → HeldTerm → ℕ → List (Levels → Bool)
functions_with runner held number = (λ a. function_in runner held a && clause_in runner number a) ∷ clause_in runner number
    ∷ function_in runner held ∷ []

-- What so many moves cost, however they end, with these functions in hand: at the limit of nodes more parts of them differ than nodes are
-- allowed; and where they have few, no more numbers are taken than at a move's price each.
pub record Costs {S : Type 0} (moves : ℕ) (functions : List (Levels → Bool)) (old new : Runner S) (error : Option TableError) : Type 0 where
  pub short : error ≡ Some NodeLimit → HaveMore functions old.limits.max_nodes
  pub paid : (width price : ℕ) → (HaveMore functions width → ⊥)
      → IsMovePrice (levels old.terms.table.graph) old.limits.cache width price
      → new.terms.table.book.state.top ≤ old.terms.table.book.state.top + moves * price

-- What it costs to conjoin all clauses: as the plan does.
pub record CostsPlan {S : Type 0} (old new : Runner S) (error : Option TableError) : Type 0 where
  pub short : error ≡ Some NodeLimit
      → IsWider old.formula.now old.terms.table.graph.order (plan_of old.formula.now) old.limits.max_nodes
  pub paid : (width price : ℕ)
      → HasWidth old.formula.now old.terms.table.graph.order (plan_of old.formula.now) width
      → IsMovePrice (levels old.terms.table.graph) old.limits.cache width price
      → new.terms.table.book.state.top ≤ old.terms.table.book.state.top + length (plan_of old.formula.now) * price

-- What it costs to answer cubes: a number each, those of the formula's nodes once, and no node.
pub record CostsCubes {S : Type 0} (cubes : List (List ℤ)) (old new : Runner S) : Type 0 where
  pub paid : (width : ℕ) → HasWidth old.formula.now old.terms.table.graph.order (plan_of old.formula.now) width
      → new.terms.table.book.state.top ≤ old.terms.table.book.state.top + numbers_of_cubes width cubes

-- and both
pub record CostsAll {S : Type 0} (cubes : List (List ℤ)) (old new : Runner S) (error : Option TableError) : Type 0 where
  pub short : error ≡ Some NodeLimit
      → IsWider old.formula.now old.terms.table.graph.order (plan_of old.formula.now) old.limits.max_nodes
  pub paid : (width price : ℕ) → HasWidth old.formula.now old.terms.table.graph.order (plan_of old.formula.now) width
      → IsMovePrice (levels old.terms.table.graph) old.limits.cache width price
      → new.terms.table.book.state.top ≤ old.terms.table.book.state.top + length (plan_of old.formula.now) * price
      + numbers_of_cubes width cubes
