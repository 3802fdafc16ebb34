-- How calls end: a table is sound unless a write failed, a part that is missing is one of the whole function, and the result
-- reaches what both sides made.
use Rattle.std.proofs.Common.{◌≡◌, ℕ, true, Bool, Option, None, Some, refl, subst}
use Rattle.node_table.specs.declared.error.TableError.{TableError}
use Rattle.node_table.specs.declared.error.TableError.TheVariants.{NodeLimit, IdLimit, OutOfMemory, WriteFault}
use Rattle.node_table.specs.declared.node.Node.{Node}
use Rattle.node_table.specs.Diagram.{Graph, IsReduced, KeepsNodes, is_node}
use Rattle.node_table.specs.Laws.{Reachability, Subfunctions}
use Rattle.node_table.specs.Made.{LacksPart, Reaches, ReachesNew}
use Rattle.node_table.specs.Progress.{Leaves}
use Rattle.node_table.specs.Table.{TableState, HasChildren, IsSound}
use Rattle.node_table.specs.Value.{Levels, IsSubfunction}
use Rattle.operations.specs.Accounts.{IsWhole}

-- a table is sound, unless a write failed
pub sound_left : {S : Type 0} (old new : TableState S) (error : Option TableError)
    → Leaves old new error → IsWhole error → IsSound new
sound_left old new None leaves whole = leaves.sound
sound_left old new (Some NodeLimit) leaves whole = leaves.0.sound
sound_left old new (Some IdLimit) leaves whole = leaves.0.sound
sound_left old new (Some OutOfMemory) leaves whole = leaves.sound
sound_left old new (Some WriteFault) leaves whole = absurd (whole refl)

-- what lacks a part of a part
pub lacks_for : Subfunctions → (graph : Graph) (f g : Levels → Bool) → IsSubfunction f g → LacksPart graph g → LacksPart graph f
lacks_for parts graph f g is lacks = record {
  part = lacks.part;
  is_part = parts.further f g lacks.part is lacks.is_part;
  nowhere = lacks.nowhere;
}

-- the result reaches those of both sides
pub reached_all : Reachability → (old one two new : Graph) → IsReduced one → IsReduced two → KeepsNodes one two → KeepsNodes two new
    → (level : ℕ) (high low w : Node)
    → is_node one high ≡ true → is_node two low ≡ true → ReachesNew old one high → ReachesNew one two low → ReachesNew two new w
    → HasChildren new level high low w → ReachesNew old new w
reached_all paths old one two new reduced_one reduced_two second third level high low w high_stands low_stands by_high by_low by_both
    children =
    paths.joined old one two new reduced_one reduced_two second third high low w high_stands low_stands by_high by_low by_both
    (subst (Reaches new w) children.high_child (paths.high new level w)) (subst (Reaches new w) children.low_child (paths.low new level w))
