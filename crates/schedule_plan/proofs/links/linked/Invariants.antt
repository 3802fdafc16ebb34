-- What the loops of `linked` keep.
use Rattle.std.proofs.Common.{◌≡◌, ℕ, ◌<◌, length, slice_index, slice_index_or, None}
use Rattle.schedule_plan.specs.Forest.{last_of}
use Rattle.schedule_plan.proofs.links.linked.Given as goal

abbrev pub invariant-loop-item : goal.invariant-loop-item
invariant-loop-item l = record {
  lasts : length l.last.items ≡ l.count;
  befores : length l.before.items ≡ l.item;
  last : (bucket : ℕ) → bucket < l.count → slice_index_or l.last.items bucket None ≡ last_of l.buckets bucket l.item;
  before : (item : ℕ) → item < l.item → slice_index_or l.before.items item None ≡ last_of l.buckets (slice_index l.buckets item) item;
}
