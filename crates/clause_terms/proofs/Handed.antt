-- The steps of a call after which there is no memory, and a refusal that adds no clause.
use Rattle.std.proofs.Common.{◌≢◌, ℕ, Some, None, Result, Ok, Err, subst}
use Rattle.std.specs.Prelude.{IfErr}
use Rattle.node_table.specs.declared.error.TableError.{TableError}
use Rattle.node_table.specs.declared.error.TableError.TheVariants.{OutOfMemory, WriteFault}
use Rattle.node_table.specs.Table.{TableState, AddsNone, IsAddedTo, IsSame}
use Rattle.node_table.specs.Progress.{Steps}

-- a refusal that changes nothing adds no clause
pub adds_none : {S T : Type 0} (old new : TableState S) (result : Result T TableError)
    → IfErr result (λ e. e ≢ WriteFault → IsSame old new) → IfErr result (λ e. e ≢ WriteFault → AddsNone old new)
adds_none old new (Ok answer) refused = tt
adds_none {S = S} old new (Err error) refused = λ whole id own. let same : IsAddedTo new id → IsAddedTo old id =
    λ added. (subst (λ (t : TableState S). IsAddedTo t id) (refused whole) added) in same own

-- what succeeded stays where memory runs out behind it
pub steps_kept : {S : Type 0} {old new : TableState S} {count : ℕ}
    → Steps old new count None → Steps old new count (Some OutOfMemory)
steps_kept steps = record { leaves = steps.leaves; extends = steps.extends; adds = steps.adds; no_empty = steps.no_empty }
