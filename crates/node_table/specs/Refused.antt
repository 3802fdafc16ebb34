-- Laws of a call of a table that is refused: want of memory is no other refusal, and a limit leaves the nodes as they were.
use Rattle.std.proofs.Common.{◌≡◌, ◌≢◌, ℕ, Some, Result, Ok, Err, ap, sym, subst}
use Rattle.std.specs.Prelude.{IfErr, IsErrAnd}
use Rattle.node_table.specs.declared.error.TableError.{TableError}
use Rattle.node_table.specs.declared.error.TableError.TheVariants.{NodeLimit, IdLimit, OutOfMemory, WriteFault}
use Rattle.node_table.specs.HandedOn.{came_from}
use Rattle.node_table.specs.Progress.{Steps, error_of}
use Rattle.node_table.specs.Table.{TableState, IsSame, IsUsedUp}

-- the limit of nodes is no failed write
pub no_nodes_left : ◌≡◌ {A = TableError} NodeLimit WriteFault → ⊥
no_nodes_left is = cc

no_memory_no_nodes : ◌≡◌ {A = TableError} OutOfMemory NodeLimit → ⊥
no_memory_no_nodes is = cc

module _ {T : Type 0} (result : Result T TableError) (memory : IsErrAnd result (λ e. e ≡ OutOfMemory)) where
  pub memory_not_nodes : result ≡ Err NodeLimit → ⊥
  memory_not_nodes is = no_memory_no_nodes (came_from result OutOfMemory NodeLimit memory is)

no_ids_no_fault : ◌≡◌ {A = TableError} IdLimit WriteFault → ⊥
no_ids_no_fault is = cc

-- a refusal for want of numbers leaves none
pub used_up : {S : Type 0} (old new : TableState S) {T : Type 0} (result : Result T TableError)
    → IfErr result (λ e. e ≢ WriteFault → IsSame old new) → (result ≡ Err IdLimit → IsUsedUp old) → result ≡ Err IdLimit
    → IsUsedUp new
used_up {S} old new {T} result refused met is =
    subst (λ (t : TableState S). IsUsedUp t)
    (sym (subst (λ (r : Result T TableError). IfErr r (λ e. e ≢ WriteFault → IsSame old new)) is refused no_ids_no_fault)) (met is)

-- the steps of a call whose error is handed on
pub steps_handed_on : {S T : Type 0} {old new : TableState S} {count : ℕ}
    (result : Result T TableError) (came : TableError)
    → IsErrAnd result (λ e. e ≡ came) → Steps old new count (Some came)
    → Steps old new count (error_of result)
steps_handed_on (Ok answer) came is steps = absurd is
steps_handed_on {old = old} {new = new} {count = count} (Err error) came is steps =
    subst (λ (e : TableError). Steps old new count (Some e)) (sym is) steps

pub same_nodes : {S : Type 0} (old new : TableState S) {T : Type 0} (result : Result T TableError)
    → IfErr result (λ e. e ≢ WriteFault → IsSame old new) → result ≡ Err NodeLimit
    → new.graph ≡ old.graph
same_nodes {S} old new {T} result refused is =
    ap (λ (t : TableState S). t.graph) (subst (λ (r : Result T TableError). IfErr r (λ e. e ≢ WriteFault
    → IsSame old new)) is refused no_nodes_left)
