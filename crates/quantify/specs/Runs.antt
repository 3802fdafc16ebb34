-- Calls that look for the node of a function and add no clause, however they end: as one relation, from which the calls
-- around them go on. Beside it the node of both sides.
use Rattle.std.specs.Prelude.{◌≡◌, ℕ, Bool, List, Result, Err, IfOk, if◌then◌else◌}
use Rattle.node_table.specs.declared.error.TableError.{TableError}
use Rattle.node_table.specs.declared.error.TableError.TheVariants.{NodeLimit}
use Rattle.node_table.specs.declared.node.Node.{Node}
use Rattle.node_table.specs.Value.{Levels, value_of}
use Rattle.node_table.specs.Table.{TableState, AddsNone, HasChildren, UnlessTorn}
use Rattle.node_table.specs.Made.{LacksPart, MakesOnly, ReachesNew}
use Rattle.node_table.specs.Progress.{Steps, error_of}
use Rattle.operations.specs.Entries.{Entry, Fits}

-- A call for this function began with this table and these entries, and ended with those and this result. No clause was added
-- but for definitions, none was retired, and each node that was made is a part of the function.
pub record Runs {S : Type 0} (old : TableState S) (before : List Entry) (function : Levels → Bool) (new : TableState S) (after : List Entry)
    (result : Result Node TableError) : Type 0 where
  pub steps : Steps old new 0 (error_of result)
  pub retired : new.retired ≡ old.retired
  pub none_added : UnlessTorn result (AddsNone old new)
  pub fits : UnlessTorn result (Fits new after)
  pub made : MakesOnly old.graph new.graph function
  pub lacks : result ≡ Err NodeLimit → LacksPart new.graph function

-- at this level, the function of these children
abbrev pub HasSides : (Levels → Node → Bool) → ℕ → Node → Node → (Levels → Bool) → Type 0
HasSides value level high low function = (a : Levels) → (if a level then value a high else value a low) ≡ function a

-- The step to the node of both sides: for each function that it is the node of, whatever entries fit.
pub record Joins {S : Type 0} (old : TableState S) (level : ℕ) (high low : Node) (new : TableState S) (result : Result Node TableError) : Type 0 where
  pub runs : (listed : List Entry) (function : Levels → Bool) → Fits old listed → HasSides (value_of old.graph) level high low function
      → Runs old listed function new listed result
  pub children : IfOk result (λ w. HasChildren new.graph level high low w)
  pub value : (function : Levels → Bool) → HasSides (value_of old.graph) level high low function
      → IfOk result (λ w. (a : Levels) → value_of new.graph a w ≡ function a)
  pub reachable : IfOk result (λ w. ReachesNew old.graph new.graph w)
