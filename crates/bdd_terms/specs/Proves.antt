-- What a call leaves that answers the unit of a node: the clause of its literal alone, the empty one where it is False, none where it is
-- True.
use Rattle.std.specs.Prelude.{◌≡◌, ◌≢◌, ◌⊎◌, ◌<◌, ℕ, [], ◌∷◌, Result, Err, IfErr, IfOk}
use Rattle.node_table.specs.declared.error.TableError.{TableError}
use Rattle.node_table.specs.declared.error.TableError.TheVariants.{NodeLimit, WriteFault}
use Rattle.node_table.specs.declared.node.Justification.{Justification}
use Rattle.node_table.specs.declared.node.Justification.TheVariants.{Clause}
use Rattle.node_table.specs.declared.node.Node.{Node}
use Rattle.node_table.specs.declared.node.Node.TheVariants.{False}
use Rattle.node_table.specs.Defined.{atom_of}
use Rattle.node_table.specs.Justification.{IsJustified}
use Rattle.node_table.specs.Progress.{Steps, StepsOrRefutes, error_of}
use Rattle.node_table.specs.Table.{AddsNoEmpty, AddsNone, IsAddedTo, TableState}

-- The unit proves the node. It is all that is added, and a refusal adds nothing; the empty clause comes only where the node is False.
-- Nodes stay, and no clause is retired.
pub record Proves {S : Type 0} (old new : TableState S) (w : Node) (result : Result Justification TableError) : Type 0 where
  pub unit : IfOk result (λ unit. IsJustified new.book.state.live (atom_of old.graph w ∷ []) unit)
  pub alone : IfOk result (λ unit. (id : ℕ) → IsAddedTo new id → IsAddedTo old id ⊎ (unit ≡ Clause id))
  pub none_added : IfErr result (λ e. e ≢ WriteFault → AddsNone old new)
  pub steps : StepsOrRefutes old new 1 (error_of result)
  pub some : w ≢ False → Steps old new 1 (error_of result)
  pub refused : IfErr result (λ e. e ≢ WriteFault → AddsNoEmpty old new)
  pub nodes : new.graph ≡ old.graph
  pub retired : new.retired ≡ old.retired
  pub no_node_limit : result ≢ Err NodeLimit

-- It is no clause that was there before: the call added it, as the last one.
pub record ProvesAnew {S : Type 0} (old new : TableState S) (w : Node) (result : Result Justification TableError) : Type 0 where
  pub proves : Proves old new w result
  pub last : IfOk result (λ unit. (id : ℕ) → unit ≡ Clause id → (id ≡ new.book.state.top) × (old.book.state.top < id))
  pub added : IfOk result (λ unit. (id : ℕ) → unit ≡ Clause id → IsAddedTo new id)
