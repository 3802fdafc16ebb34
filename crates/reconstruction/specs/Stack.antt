-- The reconstruction stack: quantified variables, the first one first, each with the term that it was quantified from. Of
-- the stored ones, which come first, that is a cell, of the recent ones a node. (Järvisalo, Biere: Reconstructing Solutions
-- after Blocked Clause Elimination, 2010.)
use Rattle.std.specs.Prelude.{◌≡◌, ◌<◌, ◌+◌, ◌++◌, ℕ, List, [], length, map, Contains, IsTrue}
use Rattle.std.specs.List.{AllZip}
use Rattle.cnf_base.specs.Truth.{Assignment}
use Rattle.node_table.specs.Diagram.{Graph}
use Rattle.node_table.specs.Value.{by_level, value_of}
use Rattle.reconstruction.specs.declared.cells.Cell.{Cell}
use Rattle.reconstruction.specs.declared.entries.Entry.{Entry}
use Rattle.reconstruction.specs.declared.entries.Kept.{Kept}
use Rattle.reconstruction.specs.Cells.{cell_value}
use Rattle.reconstruction.specs.Copies.{AreSound, Copies, KeepsCopies, copy_of, has_copy}

-- `copies` has the key of each node's copy, by the keys of nodes.
pub record Stack : Type 0 where
  pub recent : List Kept
  pub stored : List Entry
  pub cells : List Cell
  pub copies : List ℕ

-- no variable, no cell
abbrev pub empty_stack : Stack
empty_stack = record { recent = []; stored = []; cells = []; copies = [] }

-- each stored entry is of a cell that there is
abbrev pub AreWithin : List Cell → List Entry → Type 0
AreWithin cells stored = (entry : Entry) → Contains stored entry → entry.key < length cells + 2

pub record IsStack (cells : List Cell) (stored : List Entry) (copies : List ℕ) : Type 0 where
  pub sound : AreSound cells copies
  pub within : AreWithin cells stored

-- the same variable, and a cell that says what the node says
pub record IsStored (graph : Graph) (cells : List Cell) (kept : Kept) (entry : Entry) : Type 0 where
  pub variable : entry.variable ≡ kept.variable
  pub later : entry.later ≡ kept.later
  pub value : (a : Assignment) → cell_value cells a entry.key ≡ value_of graph (by_level graph.order a) kept.node

abbrev pub AreStored : Graph → List Cell → List Kept → List Entry → Type 0
AreStored graph cells recent entries = AllZip (IsStored graph cells) recent entries

-- stored entries say what they said
abbrev pub SayTheSame : List Cell → List Cell → List Entry → Type 0
SayTheSame before cells stored = (entry : Entry) → Contains stored entry → (a : Assignment)
    → cell_value cells a entry.key ≡ cell_value before a entry.key

-- Entries of these nodes stand behind those that were stored, and none is recent.
pub record Stores (graph : Graph) (old new : Stack) : Type 0 where
  pub entries : List Entry
  pub stored : new.stored ≡ old.stored ++ entries
  pub are : AreStored graph new.cells old.recent entries
  pub none_recent : new.recent ≡ []

-- Nodes were copied, and no entry changed.
pub record CopiesRecent (graph : Graph) (old new : Stack) : Type 0 where
  pub copied : Copies graph old.cells old.copies new.cells new.copies
  pub same : new ≡ record old { cells = new.cells; copies = new.copies }
  pub says : SayTheSame old.cells new.cells old.stored
  pub kept : KeepsCopies old.copies new.copies

-- each recent node has a copy
abbrev pub HaveCopies : Stack → Type 0
HaveCopies stack = (kept : Kept) → Contains stack.recent kept → IsTrue (has_copy stack.copies kept.node)

-- the variable with the copy of its node
abbrev pub entry_of : List ℕ → Kept → Entry
entry_of copies kept = record { variable = kept.variable; later = kept.later; key = copy_of copies kept.node }

-- the recent entries stand behind the stored ones
abbrev pub stored_over : Stack → Stack
stored_over stack = record stack { recent = []; stored = stack.stored ++ map (entry_of stack.copies) stack.recent }
