-- How reachable nodes are marked: node by node, the children of each but once.
use Rattle.std.specs.Prelude.{◌<◌, ◌++◌, ℕ, Bool, true, false, List, [], ◌∷◌, Option, None, Some, slice_index_or, slice_set, if◌then◌else◌}
use Rattle.node_table.specs.declared.node.Node.{Node}
use Rattle.node_table.specs.declared.node.Node.TheVariants.{False, True, Inner}
use Rattle.node_table.specs.declared.node.Branch.{Branch}

-- the marks so far, by keys, and the keys of the marked nodes whose children are still to be marked
pub record Marking : Type 0 where
  pub marks : List Bool
  pub waiting : List ℕ

abbrev pub marking : List Bool → List ℕ → Marking
marking marks waiting = record { marks = marks; waiting = waiting }

-- a constant, or a node whose key has a mark
abbrev pub HasMark : ℕ → Node → Type 0
HasMark count False = Unit {0}
HasMark count True = Unit {0}
HasMark count (Inner key) = key.index < count

-- both children have a mark
abbrev pub HaveMarks : ℕ → Option Branch → Type 0
HaveMarks count None = Unit {0}
HaveMarks count (Some branch) = HasMark count branch.high × HasMark count branch.low

-- the inner node of this key is marked, and its children are to be
abbrev pub with_mark : ℕ → Marking → Marking
with_mark key old = record { marks = slice_set old.marks key true; waiting = old.waiting ++ key ∷ [] }

-- where it isn't marked already
abbrev pub with_key : ℕ → Marking → Marking
with_key key old = if slice_index_or old.marks key false then old else with_mark key old

-- a constant has no mark
abbrev pub with_node : Node → Marking → Marking
with_node False old = old
with_node True old = old
with_node (Inner key) old = with_key key.index old

-- the children of a node are marked
abbrev pub with_children : Option Branch → Marking → Marking
with_children None old = old
with_children (Some branch) old = with_node branch.low (with_node branch.high old)
