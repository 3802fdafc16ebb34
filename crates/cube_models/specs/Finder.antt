-- A finder between two searches.
use Rattle.std.specs.Prelude.{◌≢◌, ◌≤◌, ℕ, ℤ, List, [], length, slice_index_or}
use Rattle.node_table.specs.declared.node.Node.{Node}
use Rattle.node_table.specs.Diagram.{Graph, levels}
use Rattle.cube_models.specs.Denied.{AreDenied, IsShutBy}
use Rattle.cube_models.specs.Way.{Assumes}
use Rattle.cube_models.specs.declared.finder.Finder.{Finder}

-- no mark is of a later round
pub record IsFinder (finder : Finder) : Type 0 where
  pub earlier : (key : ℕ) → slice_index_or finder.marks.items key 0 ≤ finder.round

-- Each key below this has a mark, none of this round.
pub record Readies (end : ℕ) (finder : Finder) : Type 0 where
  pub room : end ≤ length finder.marks.items
  pub unmarked : (key : ℕ) → slice_index_or finder.marks.items key 0 ≢ finder.round

-- The last search was for this cube, and shut the node.
pub record FindsNone (graph : Graph) (node : Node) (cube : List ℤ) (finder : Finder) : Type 0 where
  pub assumes : Assumes (levels graph) cube (length cube) finder.signs.items
  pub denied : AreDenied graph finder.signs.items [] finder.dead.items
  pub shut : IsShutBy finder.dead.items node
