-- What the loops of `places` keep.
use Rattle.std.proofs.Common.{◌≡◌, ℕ, ◌<◌, ◌+◌, length, slice_index, slice_index_or}
use Rattle.schedule_plan.proofs.occurrence.places.Given as goal

abbrev pub invariant-loop-place : goal.invariant-loop-place
invariant-loop-place l = record {
  count : length l.places.items ≡ length l.order + 1;
  right : (place : ℕ) → place < l.place → slice_index l.places.items (slice_index_or l.order place 0) ≡ place;
}
