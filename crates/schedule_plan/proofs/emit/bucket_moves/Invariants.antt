-- What the loops of `bucket_moves` keep.
use Rattle.std.proofs.Common.{◌≡◌, ◌++◌, All, length, reverse}
use Rattle.schedule_plan.specs.Bucket.{bucket}
use Rattle.schedule_plan.specs.Forest.{IsItem, moves_to_all}
use Rattle.schedule_plan.proofs.emit.bucket_moves.Given as goal

abbrev pub invariant-items : goal.invariant-items
invariant-items l = record {
  remaining : moves_to_all l.formula l.order l.work.items ++ reverse l.moves.items ≡ bucket l.formula l.order;
  items : All (IsItem l.formula l.order) l.work.items;
}

abbrev pub decreases-items : goal.decreases-items
decreases-items l = length (moves_to_all l.formula l.order l.work.items)
