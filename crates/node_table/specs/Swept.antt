-- What is left once the unmarked nodes were given back.
use Rattle.std.specs.Prelude.{◌≡◌, ℕ, Bool, false, not, List, None, slice_index_or, if◌then◌else◌}
use Rattle.std.specs.List.{filter}
use Rattle.slab.specs.Slab.{Slab, entries}
use Rattle.node_table.specs.Diagram.{Graph, branch_at}
use Rattle.node_table.specs.Made.{inner}
use Rattle.node_table.specs.Marks.{is_marked}

-- the graph without the nodes that aren't marked
pub record IsSwept (old new : Graph) (marks : List Bool) : Type 0 where
  pub order : new.order ≡ old.order
  pub nodes : (key : ℕ) → branch_at new key ≡ (if is_marked marks (inner key) then branch_at old key else None)

-- what is stored under keys that aren't marked, by rising key
abbrev pub unmarked_among : {T : Type 0} → List Bool → List (ℕ × T) → List (ℕ × T)
unmarked_among marks stored = filter (λ entry. not (slice_index_or marks entry.0 false)) stored

abbrev pub unmarked : {T : Type 0} → List Bool → Slab T → List (ℕ × T)
unmarked marks nodes = unmarked_among marks (entries nodes)
