-- What the loop of `find_way` keeps.
use Rattle.std.proofs.Common.{◌≡◌, ℕ, []}
use Rattle.std.specs.Prelude.{◌⊎◌, slice_index_or}
use Rattle.cube_models.specs.Denied.{IsShutBy}
use Rattle.cube_models.specs.Way.{IsSearch}
use Rattle.cube_models.proofs.Denied.{AreDead}
use Rattle.cube_models.proofs.Searches.{left}
use Rattle.cube_models.proofs.walk.find_way.Given as goal

abbrev pub invariant-nodes : goal.invariant-nodes
invariant-nodes g l = record {
  known : IsSearch l.table.graph l.signs l.round l.fn.node l.marks.items l.path.items;
  dead : AreDead l.table.graph l.signs l.round l.marks.items l.dead.items;
  shut : l.path.items ≡ [] → IsShutBy l.dead.items l.fn.node;
  marked : (key : ℕ) → (slice_index_or l.marks.items key 0 ≡ slice_index_or l.fn.marks.items key 0)
      ⊎ (slice_index_or l.marks.items key 0 ≡ l.round);
}

abbrev pub decreases-nodes : goal.decreases-nodes
decreases-nodes g l = left l.table.graph l.round l.marks.items l.path.items
