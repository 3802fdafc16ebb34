-- Rows of an elimination: equations with a term each, no two of which begin with one variable; and what the equations taken so far leave.
-- (Gauss's elimination over the field of two elements.)
use Rattle.std.specs.Prelude.{◌≡◌, ◌≢◌, ◌<◌, ◌+◌, ◌++◌, ℕ, Bool, true, false, List, [], ◌∷◌, Option, None, Some, Result, Ok, Err, IfOk}
use Rattle.std.specs.Prelude.{IfSome, MatchOption}
use Rattle.std.specs.Prelude.{length, map, slice_index_or}
use Rattle.std.specs.List.{All}
use Rattle.cnf_base.specs.Truth.{Assignment}
use Rattle.node_table.specs.declared.error.TableError.{TableError}
use Rattle.node_table.specs.declared.node.Node.TheVariants.{False}
use Rattle.node_table.specs.Progress.{Leaves, error_of}
use Rattle.node_table.specs.Table.{UnlessTorn}
use Rattle.parity_equations.specs.Conflict.{AreInConflict, AreRows, AreSpanned, Vector, vector}
use Rattle.parity_nodes.specs.Sums.{exclusive_or, sum_is}
use Rattle.bdd_terms.specs.declared.held.HeldTerm.{HeldTerm}
use Rattle.bdd_terms.specs.declared.runner.Runner.{Runner}
use Rattle.bdd_terms.specs.Runner.{IsGood, IsRunner, holds_in}
use Rattle.parity_terms.specs.declared.row.Row.{Row}
use Rattle.parity_terms.specs.Order.{AreInOrder, HaveSameFirst}
use Rattle.parity_terms.specs.Owned.{Owns}
use Rattle.parity_terms.specs.Steps.{Keeps}

-- the term of a row
abbrev pub held_of : Row → HeldTerm
held_of row = row.term.held

-- its equation as a vector
abbrev pub vector_of : Row → Vector
vector_of row = vector (row.variables.items, row.bit)

-- An equation with its term, which holds where the sum of the variables is the bit, and isn't False.
pub record IsRow {S : Type 0} (runner : Runner S) (places : List ℕ) (row : Row) : Type 0 where
  pub in_order : AreInOrder places 0 row.variables.items
  pub good : IsGood runner (held_of row)
  pub not_false : (held_of row).node ≢ False
  pub value : (a : Assignment) → holds_in runner (held_of row) a ≡ sum_is row.bit row.variables.items a

-- no row begins with an equation's first variable
abbrev pub NoneHasFirst : List Row → Row → Type 0
NoneHasFirst rows current =
    (k : ℕ) → k < length rows → HaveSameFirst (slice_index_or rows k current).variables.items current.variables.items → ⊥

-- what is owned behind a sum
abbrev pub with_sum : List HeldTerm → Result (Option Row) TableError → List HeldTerm
with_sum terms (Ok None) = terms
with_sum terms (Ok (Some next)) = held_of next ∷ terms
with_sum terms (Err error) = terms

-- The sum of an equation and a row that begins with the same variable, in place of the equation: it begins later. There is none where the
-- empty clause came.
pub record Sums {S : Type 0} (terms : List HeldTerm) (places : List ℕ) (row current : Row) (old new : Runner S)
    (result : Result (Option Row) TableError) : Type 0 where
  pub goes_on : UnlessTorn result (IsRunner new)
  pub owns : UnlessTorn result (Owns (with_sum terms result) new.terms.out.items)
  pub keeps : UnlessTorn result (Keeps terms old new)
  pub found : IfOk result (λ found. MatchOption found (new.refuted ≡ true) (λ next. IsRow new places next × (new.refuted ≡ false)))
  pub sum : IfOk result (λ found. IfSome found (λ next. (place : ℕ) → vector_of next place
      ≡ exclusive_or (vector_of row place) (vector_of current place)))
  pub later : IfOk result (λ found. IfSome found (λ next. (first : ℕ) → AreInOrder places first row.variables.items
      → AreInOrder places first current.variables.items → AreInOrder places (first + 1) next.variables.items))
  pub leaves : Leaves old.terms.table new.terms.table (error_of result)

-- the variable at a place of the order
abbrev pub place_in : List ℕ → ℕ → ℕ
place_in order place = slice_index_or order place 1

-- The rows that are left of equations: each equation is the sum of some of them, and no two begin with one variable.
pub record AreReduced {S : Type 0} (runner : Runner S) (places : List ℕ) (rows : List Row) (equations : List (List ℕ × Bool)) : Type 0 where
  pub each : All (IsRow runner places) rows
  pub firsts : List ℕ
  pub echelon : AreRows (place_in runner.terms.table.graph.order) (map vector_of rows) firsts
  pub spanned : AreSpanned (map vector_of rows) (map vector equations)

-- An equation taken: the answer says whether the empty clause came. If not, the rows are those that are left with it.
pub record TakesEquation {S : Type 0} (places : List ℕ) (equation : List ℕ × Bool) (rows after : List Row) (old new : Runner S)
    (result : Result Bool TableError) : Type 0 where
  pub goes_on : UnlessTorn result (IsRunner new)
  pub owns : UnlessTorn result (Owns (map held_of after) new.terms.out.items)
  pub keeps : UnlessTorn result (Keeps (map held_of rows) old new)
  pub refuted : IfOk result (λ refuted. new.refuted ≡ refuted)
  pub reduced : (equations : List (List ℕ × Bool)) → AreReduced old places rows equations
      → IfOk result (λ refuted. refuted ≡ false → AreReduced new places after (equations ++ equation ∷ []))
  pub leaves : Leaves old.terms.table new.terms.table (error_of result)

-- All equations taken, until the empty clause comes. Where it doesn't come they aren't in conflict.
pub record Eliminates {S : Type 0} (equations : List (List ℕ × Bool)) (rows : List Row) (old new : Runner S)
    (result : Result Bool TableError) : Type 0 where
  pub goes_on : UnlessTorn result (IsRunner new)
  pub owns : UnlessTorn result (Owns (map held_of rows) new.terms.out.items)
  pub same : UnlessTorn result (Keeps [] old new)
  pub refuted : IfOk result (λ refuted. new.refuted ≡ refuted)
  pub independent : IfOk result (λ refuted. refuted ≡ false → AreInConflict equations → ⊥)
  pub leaves : Leaves old.terms.table new.terms.table (error_of result)
