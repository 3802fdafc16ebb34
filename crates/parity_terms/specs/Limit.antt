-- What an elimination has in hand where it meets the limit of nodes.
use Rattle.std.specs.Prelude.{◌≡◌, ◌≤◌, ◌<◌, ◌+◌, ◌*◌, ◌++◌, ◌==◌, ◌-◌, ℕ, ℤ, Bool, not, List, [], ◌∷◌, Contains, Result, Err, length}
use Rattle.std.specs.Prelude.{nat_abs, slice_index_or}
use Rattle.std.specs.Prelude.{nat_eq}
use Rattle.std.specs.List.{filter, list_any, position_or_len}
use Rattle.cnf_base.specs.Truth.{Assignment}
use Rattle.node_table.specs.declared.error.TableError.{TableError}
use Rattle.node_table.specs.declared.error.TableError.TheVariants.{NodeLimit}
use Rattle.node_table.specs.Diagram.{Graph, levels}
use Rattle.node_table.specs.Value.{Levels}
use Rattle.clause_terms.specs.Term.{by_variable}
use Rattle.quantify.specs.SomeValues.{function_of}
use Rattle.bdd_terms.specs.declared.held.HeldTerm.{HeldTerm}
use Rattle.bdd_terms.specs.declared.runner.Runner.{Runner}
use Rattle.bdd_terms.specs.declared.term.Term.{Term}
use Rattle.bdd_terms.specs.Caches.{HaveSize}
use Rattle.bdd_terms.specs.Counting.{IsPartOfOne}
use Rattle.bdd_terms.specs.Price.{IsMovePrice}
use Rattle.bdd_terms.specs.Parts.{AreMore, HasAtMost}
use Rattle.parity_terms.specs.declared.row.Row.{Row}
use Rattle.parity_terms.specs.Numbered.{AreNumbered}

-- the functions of terms, by levels
abbrev pub functions_of : Graph → List HeldTerm → List (Levels → Bool)
functions_of graph [] = []
functions_of graph (held ∷ terms) = function_of graph held.node ∷ functions_of graph terms

-- a function of assignments, by levels
abbrev pub by_levels : Graph → (Assignment → Bool) → Levels → Bool
by_levels graph holds a = holds (by_variable graph.order a)

-- At the limit of nodes, though what no term reaches was given back before, these functions have more essential parts than there may be
-- nodes: those of the terms in hand, and the one that is asked for.
abbrev pub IsShort : {S T : Type 0} → List (Levels → Bool) → Runner S → Result T TableError → Type 0
IsShort functions old result = result ≡ Err NodeLimit → AreMore (IsPartOfOne functions) old.limits.max_nodes

-- the variables of equations, each once
abbrev pub all_variables : List (List ℕ × Bool) → List ℕ
all_variables [] = []
all_variables (equation ∷ more) =
    filter (λ variable. not (list_any (nat_eq variable) (all_variables more))) equation.0 ++ all_variables more

-- As many nodes are enough for an elimination: those of the rows, two for each variable; of a sum, and of the conjunction that it comes
-- from, six; and those of the clauses of one equation.
abbrev pub nodes_needed : List (List ℕ × Bool) → ℕ
nodes_needed equations = 2 * (length equations * length (all_variables equations)) + 6 * length (all_variables equations) + 600

-- A step gives no more numbers than a move's price, where each of these functions has few enough parts: those of the terms in hand, and the
-- one that is asked for.
abbrev pub CostsMove : {S : Type 0} → List (Levels → Bool) → Runner S → Runner S → Type 0
CostsMove functions old new = (size width price : ℕ) → HaveSize old.terms.caches size
    → IsMovePrice (levels old.terms.table.graph) size width price
    → ((function : Levels → Bool) → Contains functions function → HasAtMost function width)
    → new.terms.table.book.state.top ≤ old.terms.table.book.state.top + price

-- the level of a variable
abbrev pub level_in : List ℕ → ℕ → ℕ
level_in order variable = position_or_len (λ x. x == variable) order

-- the levels of these variables are some of these
abbrev pub AreAmong : List ℕ → List ℕ → List ℕ → Type 0
AreAmong order levels variables = (variable : ℕ) → Contains variables variable → Contains levels (level_in order variable)

-- so are those of a clause
abbrev pub IsClauseAmong : List ℕ → List ℕ → List ℤ → Type 0
IsClauseAmong order levels clause = (literal : ℤ) → Contains clause literal → Contains levels (level_in order (nat_abs literal))

-- the clauses of some numbers are over few levels
abbrev pub AreClausesAmong : List ℕ → List ℕ → List (List ℤ) → List ℕ → Type 0
AreClausesAmong order few clauses numbers = (number : ℕ) → Contains numbers number
    → IsClauseAmong order few (slice_index_or clauses (number - 1) [])

-- The limit of nodes comes only where it is below the number of parts of the terms in hand and so many more.
abbrev pub NeedsNodes : {S T : Type 0} → ℕ → List HeldTerm → Runner S → Result T TableError → Type 0
NeedsNodes more terms old result = (count : ℕ) → AreNumbered (IsPartOfOne (functions_of old.terms.table.graph terms)) count
    → result ≡ Err NodeLimit → old.limits.max_nodes < count + more

-- No more numbers are given than at so many moves' prices, for a width that no term in hand exceeds, and that is this one at least.
abbrev pub CostsMoves : {S : Type 0} → ℕ → ℕ → List HeldTerm → Runner S → Runner S → Type 0
CostsMoves moves least terms old new = (size width price : ℕ) → HaveSize old.terms.caches size
    → IsMovePrice (levels old.terms.table.graph) size width price
    → ((function : Levels → Bool) → Contains (functions_of old.terms.table.graph terms) function → HasAtMost function width) → least ≤ width
    → new.terms.table.book.state.top ≤ old.terms.table.book.state.top + moves * price

-- these variables are some of all
abbrev pub AreOf : List ℕ → List ℕ → Type 0
AreOf all variables = (variable : ℕ) → Contains variables variable → Contains all variable

-- the function that is asked for, and those of the terms in hand
abbrev pub in_hand : {S : Type 0} → Runner S → (Assignment → Bool) → List HeldTerm → List (Levels → Bool)
in_hand runner holds terms = by_levels runner.terms.table.graph holds ∷ functions_of runner.terms.table.graph terms

-- A step's bounds, which gives a term that holds where this does, with others in hand: when it meets the limit of nodes, and what it costs.
pub record IsBounded {S : Type 0} (terms : List HeldTerm) (holds : Assignment → Bool) (old new : Runner S) (result : Result Term TableError)
    : Type 0 where
  pub short : IsShort (in_hand old holds terms) old result
  pub costs : CostsMove (in_hand old holds terms) old new

-- Steps' bounds, with terms in hand: how many more parts there may be than theirs, and how many moves the steps cost for which width.
pub record AreBounded {S T : Type 0} (more moves least : ℕ) (terms : List HeldTerm) (old new : Runner S) (result : Result T TableError)
    : Type 0 where
  pub needs : NeedsNodes more terms old result
  pub costs : CostsMoves moves least terms old new

-- What an elimination costs in numbers, over so many clauses, equations and variables: two moves for each clause, and for each variable of
-- each equation, for a width that a step may need.
abbrev pub step_width : ℕ → ℕ
step_width variables = 4 * variables + 255

abbrev pub CostsElimination : {S : Type 0} → ℕ → ℕ → ℕ → Runner S → Runner S → Type 0
CostsElimination clauses equations variables old new = (size width price : ℕ) → HaveSize old.terms.caches size
    → IsMovePrice (levels old.terms.table.graph) size width price → step_width variables ≤ width
    → new.terms.table.book.state.top ≤ old.terms.table.book.state.top + (2 * clauses + 2 * (equations * variables)) * price

-- each row is over these variables
abbrev pub AreRowsOf : List ℕ → List Row → Type 0
AreRowsOf all rows = (k : ℕ) (d : Row) → k < length rows → AreOf all (slice_index_or rows k d).variables.items
