-- A table as its callers see it, and what its calls do.
use Rattle.std.specs.Prelude.{◌≡◌, ◌≢◌, ℕ, ◌<◌, ◌≤◌, ◌+◌, ◌++◌, pos, true, false, List, [], ◌∷◌, Some, Result, Err, IsTrue, refl}
use Rattle.std.specs.Coded.{Coded, code_by, coded×, coded_ℕ, coded_list}
use Rattle.std.specs.FinMap as map
use Rattle.cnf_base.specs.declared.step.Step.{Step}
use Rattle.lrat_rules.specs.State.{State, Live, clause_at, without_clauses}
use Rattle.clause_ledger.specs.Book.{AreTold, Book, book_code}
use Rattle.node_table.specs.declared.node.Node.{Node}
use Rattle.node_table.specs.declared.node.Node.TheVariants.{Inner}
use Rattle.node_table.specs.declared.node.NodeKey.{NodeKey}
use Rattle.node_table.specs.declared.node.Branch.{Branch}
use Rattle.node_table.specs.declared.error.TableError.{TableError}
use Rattle.node_table.specs.declared.error.TableError.TheVariants.{WriteFault}
pub use Rattle.node_table.specs.Diagram.{IsMissing, IsWanted}
use Rattle.node_table.specs.Diagram.{Graph, graph_code, IsNew, KeepsNodes, is_node, levels, level_of, high_at, low_at, variable_at}
use Rattle.node_table.specs.Defined.{Definition, IsDefinedInPart, IsUnused, atom_of, definition_count, definition_steps, definitions}
use Rattle.node_table.specs.Defined.{with_definitions}
use Rattle.node_table.specs.Tied.{IsTied, IsAdded, IsOwned, AreRetired, AreUpTo, GivesNumbers, HoldFormula, KeepsClauses}

-- how many inner nodes are live
abbrev pub live_nodes : Graph → ℕ
live_nodes graph = map.len graph.nodes

-- how many clauses define the nodes of these entries, and those of a graph
abbrev pub clauses_among : List (ℕ × Branch) → ℕ
clauses_among [] = 0
clauses_among (entry ∷ more) = definition_count entry.1.high entry.1.low + clauses_among more

abbrev pub defining_clauses : Graph → ℕ
defining_clauses graph = clauses_among (map.entries graph.nodes)

-- its nodes, its ledger, the greatest number of inner nodes, how many clauses the formula has, and the retired clauses,
-- which are to be deleted
pub record TableState (S : Type 0) : Type 0 where
  pub graph : Graph
  pub book : Book S
  pub max_nodes : ℕ
  pub inputs : ℕ
  pub retired : List ℕ

abbrev pub table_code : {S : Type 0} → Coded S → Coded (TableState S)
table_code {S} code =
    code_by (Graph × (Book S × (ℕ × (ℕ × List ℕ)))) (coded× graph_code
    (coded× (book_code code) (coded× coded_ℕ (coded× coded_ℕ (coded_list coded_ℕ)))))
    (λ t. (t.graph, (t.book, (t.max_nodes, (t.inputs, t.retired)))))
    (λ p. record { graph = p.0; book = p.1.0; max_nodes = p.1.1.0; inputs = p.1.1.1.0; retired = p.1.1.1.1 }) (λ _. refl)

-- a table without nodes over a ledger
abbrev pub opened : {S : Type 0} → List ℕ → Book S → ℕ → TableState S
opened order book max_nodes = record {
  graph = record { order = order; nodes = map.empty };
  book = book;
  max_nodes = max_nodes;
  inputs = book.state.top;
  retired = [];
}

-- a clause of a table that was added beside the formula's and the definitions of nodes
abbrev pub IsAddedTo : {S : Type 0} → TableState S → ℕ → Type 0
IsAddedTo table id = IsAdded table.graph table.book.state.live table.inputs id

-- no clause was added beside the definitions of nodes
abbrev pub AddsNone : {S : Type 0} → TableState S → TableState S → Type 0
AddsNone old new = (id : ℕ) → IsAddedTo new id → IsAddedTo old id

-- the greatest variable that a proof may use: one for each node that is allowed, above the formula's
abbrev pub last_variable : {S : Type 0} → TableState S → ℕ
last_variable table = levels table.graph + table.max_nodes

-- Sound: in step with its proof, its nodes tied to live clauses and within its variables, the formula's clauses over its own,
-- and what is retired may be deleted.
pub record IsSound {S : Type 0} (table : TableState S) : Type 0 where
  pub in_step : IsTrue table.book.in_step
  pub tied : IsTied table.graph table.book.state
  pub variables : AreUpTo (last_variable table) table.graph
  pub inputs : table.inputs ≤ table.book.state.top
  pub formula : HoldFormula table.graph table.book.state.live table.inputs
  pub retired : AreRetired table.graph table.book.state.live table.inputs table.retired

-- Nodes and live clauses stay, new clauses come under the next numbers, and retired ones stay retired.
pub record Extends {S : Type 0} (old new : TableState S) : Type 0 where
  pub inputs : new.inputs ≡ old.inputs
  pub nodes : KeepsNodes old.graph new.graph
  pub clauses : KeepsClauses old.book.state.live new.book.state.live
  pub numbers : GivesNumbers old.book.state new.book.state
  pub more : List ℕ
  pub retired : new.retired ≡ old.retired ++ more

-- An empty clause that is live was so before.
pub record AddsNoEmpty {S : Type 0} (old new : TableState S) : Type 0 where
  pub each : (id : ℕ) → clause_at new.book.state.live id ≡ Some [] → clause_at old.book.state.live id ≡ Some []

-- Beside those of the clauses that define new nodes, at most so many numbers were given.
abbrev pub AddsAtMost : {S : Type 0} → ℕ → TableState S → TableState S → Type 0
AddsAtMost justified old new = new.book.state.top + defining_clauses old.graph
    ≤ old.book.state.top + defining_clauses new.graph + justified

-- a node whose cofactors at this level are these children
pub record HasChildren (graph : Graph) (level : ℕ) (high low node : Node) : Type 0 where
  pub stands : IsTrue (is_node graph node)
  pub not_above : level ≤ level_of graph node
  pub high_child : high_at graph level node ≡ high
  pub low_child : low_at graph level node ≡ low

-- a variable that may become a new node's: it is above the formula's, and in no live clause
pub record IsFree (graph : Graph) (live : Live) (variable : ℕ) : Type 0 where
  pub above : levels graph < variable
  pub unused : IsUnused live variable

-- and no lesser one may
pub record IsLeastFree (graph : Graph) (live : Live) (variable : ℕ) : Type 0 where
  pub free : IsFree graph live variable
  pub least : (other : ℕ) → levels graph < other → other < variable → IsOwned graph other

-- the new node of this extension variable, and its defining clauses
abbrev pub new_branch : State → ℕ → Node → Node → ℕ → Branch
new_branch state level high low variable = record { level = level; variable = variable; high = high; low = low; first = state.top + 1 }

abbrev pub node_definitions : Graph → State → ℕ → Node → Node → ℕ → List Definition
node_definitions graph state level high low variable =
    definitions (pos variable) (pos (variable_at graph level)) (atom_of graph high) (atom_of graph low) (state.top + 1)

-- The node was made with the least free variable, under a new key, and its definitions stand under the next numbers.
pub record IsMade {S : Type 0} (old new : TableState S) (level : ℕ) (high low : Node) (variable : ℕ) (node : Node) : Type 0 where
  pub free : IsLeastFree old.graph old.book.state.live variable
  pub key : NodeKey
  pub named : node ≡ Inner key
  pub joined : IsNew old.graph new.graph key.index (new_branch old.book.state level high low variable)
  pub defined : new.book.state ≡ with_definitions old.book.state (node_definitions old.graph old.book.state level high low variable)
  pub told : AreTold true old.book new.book
      (definition_steps old.book.state (node_definitions old.graph old.book.state level high low variable))

-- A write failed while the node with the least free variable was made: some of its definitions were told.
pub record IsMadeInPart {S : Type 0} (old new : TableState S) (level : ℕ) (high low : Node) (variable : ℕ) : Type 0 where
  pub free : IsLeastFree old.graph old.book.state.live variable
  pub more : List Step
  pub told : AreTold false old.book new.book more
  pub part : IsDefinedInPart old.book.state new.book.state (node_definitions old.graph old.book.state level high low variable) more

-- no clause number is left
abbrev pub IsUsedUp : {S : Type 0} → TableState S → Type 0
IsUsedUp table = table.book.limit ≤ table.book.state.top

-- its state without the retired clauses
abbrev pub without_retired : {S : Type 0} → TableState S → State
without_retired table = record { live = without_clauses table.book.state.live table.retired; top = table.book.state.top }

-- nothing changed but for the room that is reserved
abbrev pub IsSame : {S : Type 0} → TableState S → TableState S → Type 0
IsSame old new = new ≡ record old { book = record old.book { spare = new.book.spare } }

-- what holds unless a write failed
abbrev pub UnlessTorn : {T : Type 0} → Result T TableError → Type 0 → Type 0
UnlessTorn result P = result ≢ Err WriteFault → P
