-- A term that a call finds: its function, its unit, and what the call leaves.
use Rattle.std.specs.Prelude.{◌≡◌, ◌≢◌, ◌+◌, ◌*◌, ℕ, Bool, List, [], ◌∷◌, Result, Err, IfOk, IsTrue, ⊤}
use Rattle.cnf_base.specs.Truth.{Assignment}
use Rattle.node_table.specs.declared.error.TableError.{TableError}
use Rattle.node_table.specs.declared.error.TableError.TheVariants.{NodeLimit, WriteFault}
use Rattle.node_table.specs.declared.node.Node.TheVariants.{False}
use Rattle.node_table.specs.declared.node.Justification.TheVariants.{Clause}
use Rattle.node_table.specs.Defined.{atom_of}
use Rattle.node_table.specs.Diagram.{Graph, is_node, levels}
use Rattle.node_table.specs.Justification.{IsJustified}
use Rattle.node_table.specs.Progress.{StepsOrRefutes, error_of}
use Rattle.node_table.specs.Table.{TableState, AddsAtMost, AddsNoEmpty, UnlessTorn}
use Rattle.node_table.specs.Value.{Levels, value_of}
use Rattle.operations.specs.Budget.{most_additions}
use Rattle.operations.specs.Entries.{Entry, Fits, IsAccounted}
use Rattle.quantify.specs.RunsFor.{Kind, LacksOneOf, MakesOnlyOf}
use Rattle.lrat_rules.specs.State.{Live}
use Rattle.clause_terms.specs.Term.{IsTerm}
use Rattle.bdd_terms.specs.declared.caches.Caches.{Caches}
use Rattle.bdd_terms.specs.declared.held.HeldTerm.{HeldTerm}
use Rattle.bdd_terms.specs.Caches.{HaveRoom, all_entries, sizes}
use Rattle.bdd_terms.specs.Units.{GivesUnit, HasUnits}
use Rattle.bdd_terms.specs.Parts.{HasAtMost}

-- a term's node stands, and its unit says that it holds
pub record IsProved (graph : Graph) (live : Live) (held : HeldTerm) : Type 0 where
  pub stands : IsTrue (is_node graph held.node)
  pub unit : IsJustified live (atom_of graph held.node ∷ []) held.unit

-- A term as a call takes it: its node isn't False, and its unit is neither retired nor named by an entry.
pub record IsOperand {S : Type 0} (table : TableState S) (entries : List Entry) (held : HeldTerm) : Type 0 where
  pub stands : IsTrue (is_node table.graph held.node)
  pub not_false : held.node ≢ False
  pub unit : IsJustified table.book.state.live (atom_of table.graph held.node ∷ []) held.unit
  pub own : (id : ℕ) → held.unit ≡ Clause id → IsAccounted table entries id → ⊥

-- each operand has so many parts at most
abbrev pub AreFew : Graph → List HeldTerm → ℕ → Type 0
AreFew graph [] width = ⊤
AreFew graph (held ∷ operands) width = HasAtMost (λ a. value_of graph a held.node) width × AreFew graph operands width

-- A call that finds a term of this function, by levels and by assignments, from these operands. Its unit is one of theirs, or was
-- added by the call, which loses no clause. However it ends, the nodes that it makes are of functions of this kind, and the clauses
-- beside them so many at most, or two for each pair of parts where the caches have room for all. An empty clause comes only where
-- the term is False, or a write failed. At the limit of nodes some function of the kind is that of none, and no unit is lost.
pub record Finds {S : Type 0} (kind : Kind) (function : Levels → Bool) (holds : Assignment → Bool) (operands : List HeldTerm)
    (old new : TableState S) (before after : Caches) (result : Result HeldTerm TableError) : Type 0 where
  pub term : IfOk result (λ held. IsTerm new.graph new.book.state.live holds held.node held.unit)
  pub gives : IfOk result (λ held. GivesUnit old new (all_entries before) (all_entries after) operands held.unit)
  pub steps : StepsOrRefutes old new (most_additions (levels old.graph) + 1) (error_of result)
  pub no_empty : result ≢ Err WriteFault → IfOk result (λ held. held.node ≢ False) → AddsNoEmpty old new
  pub fits : UnlessTorn result (Fits new (all_entries after))
  pub again : result ≡ Err NodeLimit → (stack : List HeldTerm) → HasUnits old (all_entries before) stack
      → HasUnits new (all_entries after) stack
  pub made : MakesOnlyOf old.graph new.graph kind
  pub lacks : result ≡ Err NodeLimit → LacksOneOf new.graph kind
  pub pairs : (width : ℕ) → HaveRoom before width → AreFew old.graph operands width → HasAtMost function width
      → AddsAtMost (2 * (width * width) + 1) old new
  pub sizes : sizes after ≡ sizes before
