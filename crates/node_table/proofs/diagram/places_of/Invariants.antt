-- What the loops of `places_of` keep.
use Rattle.std.proofs.Common.{◌≡◌, ◌<◌, ◌-◌, ℕ, length}
use Rattle.std.specs.Prelude.{slice_index_or}
use Rattle.node_table.proofs.diagram.places_of.Given as goal

-- the places so far are set
abbrev pub invariant-loop-i : goal.invariant-loop-i
invariant-loop-i l = (length l.places.items ≡ length l.order) × ((place : ℕ) → place < l.i
    → slice_index_or l.places.items (slice_index_or l.order place 0 - 1) 0 ≡ place)
