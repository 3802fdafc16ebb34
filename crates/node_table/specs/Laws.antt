-- The laws of diagrams and of tables, each as one record: functions without work ensure them, and lemmas above take them.
use Rattle.std.specs.Prelude.{◌≡◌, ◌≤◌, ◌<◌, ◌+◌, ◌*◌, ℕ, Bool, true, false, List, Option, None, Some, IsTrue, if◌then◌else◌}
use Rattle.lrat_rules.specs.State.{Live}
use Rattle.hint_chain.specs.declared.atom.Atom.{Atom}
use Rattle.node_table.specs.declared.error.TableError.{TableError}
use Rattle.node_table.specs.declared.error.TableError.TheVariants.{OutOfMemory}
use Rattle.node_table.specs.declared.node.Node.{Node}
use Rattle.node_table.specs.declared.node.Justification.{Justification}
use Rattle.node_table.specs.Diagram.{Graph, IsReduced, IsBelow, KeepsNodes, is_node, levels, level_of, high_at, low_at}
use Rattle.node_table.specs.Value.{Levels, value_of, fixed_to, IsSubfunction}
use Rattle.node_table.specs.Defined.{atom_of}
use Rattle.node_table.specs.Tied.{KeepsClauses}
use Rattle.node_table.specs.Justification.{IsJustified}
use Rattle.node_table.specs.Table.{TableState, AddsNoEmpty, IsSound, IsAddedTo, Extends, IsWanted, defining_clauses, live_nodes}
use Rattle.node_table.specs.Progress.{Continues, Leaves, Steps, StepsOrRefutes}
use Rattle.node_table.specs.Made.{KeepsFrom, MakesOnly, Reaches, ReachesNew}

-- two nodes of equal value under every assignment are the same node (Bryant 1986, theorem 1)
abbrev pub Canonical : Type 0
Canonical = (graph : Graph) → IsReduced graph → (u v : Node) → IsTrue (is_node graph u) → IsTrue (is_node graph v)
    → ((a : Levels) → value_of graph a u ≡ value_of graph a v) → u ≡ v

-- a node that is missing has the function of no other one (Bryant 1986, theorem 1)
abbrev pub Missing : Type 0
Missing = (graph : Graph) → IsReduced graph → (level : ℕ) (high low : Node) → level < levels graph → IsBelow graph level high
    → IsBelow graph level low
    → IsWanted graph level high low → (node : Node) → IsTrue (is_node graph node)
    → ((a : Levels) → value_of graph a node ≡ (if a level then value_of graph a high else value_of graph a low)) → ⊥

-- What a graph that grows says of the nodes that it had, and more live clauses of what they justified.
pub record Growth : Type 0 where
  pub stands : (old new : Graph) → KeepsNodes old new → (node : Node) → IsTrue (is_node old node) → IsTrue (is_node new node)
  pub level : (old new : Graph) → KeepsNodes old new → (node : Node) → IsTrue (is_node old node) → level_of new node ≡ level_of old node
  pub high : (old new : Graph) → KeepsNodes old new → (level : ℕ) (node : Node) → IsTrue (is_node old node) → high_at new level node
      ≡ high_at old level node
  pub low : (old new : Graph) → KeepsNodes old new → (level : ℕ) (node : Node) → IsTrue (is_node old node) → low_at new level node
      ≡ low_at old level node
  pub value : (old new : Graph) → IsReduced old → KeepsNodes old new → (a : Levels) (node : Node) → IsTrue (is_node old node)
      → value_of new a node ≡ value_of old a node
  pub atom : (old new : Graph) → KeepsNodes old new → (node : Node) → IsTrue (is_node old node) → atom_of new node ≡ atom_of old node
  pub justified : (old new : Live) → KeepsClauses old new → (atoms : List Atom) (just : Justification) → IsJustified old atoms just
      → IsJustified new atoms just
  pub further : (old mid new : Graph) → KeepsNodes old mid → KeepsNodes mid new → KeepsNodes old new
  -- a node has four defining clauses at most
  pub definitions : (old new : Graph) → KeepsNodes old new → defining_clauses new + 4 * live_nodes old
      ≤ defining_clauses old + 4 * live_nodes new

-- What a graph that keeps what is reachable from a node says of this node. A graph that keeps all keeps that.
pub record Kept : Type 0 where
  pub all : (old new : Graph) → KeepsNodes old new → (node : Node) → KeepsFrom old new node
  pub further : (old mid new : Graph) (node : Node) → IsReduced old → IsTrue (is_node old node) → KeepsFrom old mid node
      → KeepsFrom mid new node → KeepsFrom old new node
  pub stands : (old new : Graph) (node : Node) → KeepsFrom old new node → IsTrue (is_node old node) → IsTrue (is_node new node)
  pub level : (old new : Graph) (node : Node) → KeepsFrom old new node → IsTrue (is_node old node) → level_of new node ≡ level_of old node
  pub value : (old new : Graph) (node : Node) → IsReduced old → KeepsFrom old new node → (a : Levels) → IsTrue (is_node old node)
      → value_of new a node ≡ value_of old a node
  pub atom : (old new : Graph) (node : Node) → KeepsFrom old new node → IsTrue (is_node old node) → atom_of new node ≡ atom_of old node

-- A node by its cofactors at a level, whether or not it is of it. Its value doesn't depend on the levels above it, nor on what is
-- no level.
pub record Cofactors : Type 0 where
  pub value : (graph : Graph) → IsReduced graph → (a : Levels) (level : ℕ) (node : Node) → IsTrue (is_node graph node)
      → value_of graph a node
      ≡ (if a level then value_of graph a (high_at graph level node) else value_of graph a (low_at graph level node))
  pub high : (graph : Graph) → IsReduced graph → (level : ℕ) (node : Node) → IsTrue (is_node graph node) → level ≤ level_of graph node
      → level < levels graph → IsBelow graph level (high_at graph level node)
  pub low : (graph : Graph) → IsReduced graph → (level : ℕ) (node : Node) → IsTrue (is_node graph node) → level ≤ level_of graph node
      → level < levels graph → IsBelow graph level (low_at graph level node)
  pub below : (graph : Graph) → IsReduced graph → (a b : Levels) (node : Node) → IsTrue (is_node graph node)
      → ((i : ℕ) → level_of graph node ≤ i → a i ≡ b i) → value_of graph a node ≡ value_of graph b node
  pub inside : (graph : Graph) → IsReduced graph → (a b : Levels) (node : Node) → IsTrue (is_node graph node)
      → ((i : ℕ) → i < levels graph → a i ≡ b i) → value_of graph a node ≡ value_of graph b node

-- A function with its first levels fixed, and the nodes that calls make for it: none, those of one call after another,
-- and those for a part of the function. A node's cofactor is the node with the levels down to this one fixed.
pub record Subfunctions : Type 0 where
  pub same : (f : Levels → Bool) → IsSubfunction f f
  pub further : (f g h : Levels → Bool) → IsSubfunction f g → IsSubfunction g h → IsSubfunction f h
  pub high_value : (graph : Graph) → IsReduced graph → (level : ℕ) (node : Node) → IsTrue (is_node graph node) → level ≤ level_of graph node
      → level < levels graph
      → (a : Levels) → value_of graph a (high_at graph level node) ≡ value_of graph (fixed_to (level + 1) (λ i. true) a) node
  pub low_value : (graph : Graph) → IsReduced graph → (level : ℕ) (node : Node) → IsTrue (is_node graph node) → level ≤ level_of graph node
      → level < levels graph
      → (a : Levels) → value_of graph a (low_at graph level node) ≡ value_of graph (fixed_to (level + 1) (λ i. false) a) node
  pub high : (graph : Graph) → IsReduced graph → (level : ℕ) (node : Node) → IsTrue (is_node graph node) → level ≤ level_of graph node
      → level < levels graph
      → IsSubfunction (λ a. value_of graph a node) (λ a. value_of graph a (high_at graph level node))
  pub low : (graph : Graph) → IsReduced graph → (level : ℕ) (node : Node) → IsTrue (is_node graph node) → level ≤ level_of graph node
      → level < levels graph
      → IsSubfunction (λ a. value_of graph a node) (λ a. value_of graph a (low_at graph level node))
  pub none_made : (graph : Graph) (f : Levels → Bool) → MakesOnly graph graph f
  pub made_further : (old mid new : Graph) → IsReduced mid → KeepsNodes mid new → (f : Levels → Bool) → MakesOnly old mid f
      → MakesOnly mid new f → MakesOnly old new f
  pub made_for_part : (old new : Graph) (f g : Levels → Bool) → IsSubfunction f g → MakesOnly old new g → MakesOnly old new f

-- Reachable nodes, and those that calls make: two calls, and a third one whose result reaches those of both.
pub record Reachability : Type 0 where
  pub itself : (graph : Graph) (node : Node) → Reaches graph node node
  pub further : (graph : Graph) (u v w : Node) → Reaches graph u v → Reaches graph v w → Reaches graph u w
  pub high : (graph : Graph) (level : ℕ) (node : Node) → Reaches graph node (high_at graph level node)
  pub low : (graph : Graph) (level : ℕ) (node : Node) → Reaches graph node (low_at graph level node)
  pub kept : (old new : Graph) → IsReduced old → KeepsNodes old new → (node other : Node) → IsTrue (is_node old node)
      → Reaches old node other → Reaches new node other
  pub kept_back : (old new : Graph) → IsReduced old → KeepsNodes old new → (node other : Node) → IsTrue (is_node old node)
      → Reaches new node other → Reaches old node other
  pub none_made : (graph : Graph) (root : Node) → ReachesNew graph graph root
  pub joined : (old one two new : Graph) → IsReduced one → IsReduced two → KeepsNodes one two → KeepsNodes two new → (high low root : Node)
      → IsTrue (is_node one high) → IsTrue (is_node two low) → ReachesNew old one high → ReachesNew one two low → ReachesNew two new root
      → Reaches new root high → Reaches new root low → ReachesNew old new root

-- The steps of an operation: none, with or without memory; those of one call after another; and with room for more. Clauses
-- that were added beside definitions stay so, and those that come to be so are new.
pub record StepByStep (S : Type 0) : Type 0 where
  pub none : (table : TableState S) → IsSound table → Steps table table 0 None
  pub no_memory : (table : TableState S) → IsSound table → Steps table table 0
      (Some OutOfMemory)
  pub further : (old mid new : TableState S) (few more : ℕ) (error : Option TableError)
      → Steps old mid few None
      → Steps mid new more error → Steps old new (few + more) error
  pub at_most : (old new : TableState S) (few more : ℕ) (error : Option TableError) → few ≤ more
      → Steps old new few error → Steps old new more error
  pub refute : (old mid new : TableState S) (few more : ℕ) (error : Option TableError)
      → Steps old mid few None
      → StepsOrRefutes mid new more error → StepsOrRefutes old new (few + more) error
  pub anyhow : (old new : TableState S) (count : ℕ) (error : Option TableError)
      → Steps old new count error → StepsOrRefutes old new count error
  pub no_empty : (old new : TableState S) (count : ℕ) (error : Option TableError)
      → StepsOrRefutes old new count error → AddsNoEmpty old new → Steps old new count error
  pub go_on : (old mid new : TableState S) → Continues old mid
      → Continues mid new
      → Continues old new
  pub leave : (old mid new : TableState S) (error : Option TableError) → Continues old mid
      → Leaves mid new error → Leaves old new error
  pub extend : (old mid new : TableState S) → Extends old mid → Extends mid new → Extends old new
  pub added : (old new : TableState S) → IsSound old → IsSound new → Extends old new → (id : ℕ) → IsAddedTo old id → IsAddedTo new id
  pub was_added : (old new : TableState S) → Extends old new → (id : ℕ) → id ≤ old.book.state.top → IsAddedTo new id → IsAddedTo old id
