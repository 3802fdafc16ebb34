-- What the loops of `put_ids` keep.
use Rattle.std.proofs.Common.{◌≡◌, ◌≤◌, ◌++◌, drop, length}
use Rattle.lrat_write.specs.LineText.{lead, ids_text}
use Rattle.lrat_write.proofs.backward.put_ids.Given as goal

abbrev pub invariant-ids : goal.invariant-ids
invariant-ids l =
    (l.left ≤ length l.ids) × (l.at ≤ 256) × (drop l.at l.buffer ≡ ids_text (lead l.minus) (drop l.left l.ids) ++ drop l.end l.fn.buffer)

abbrev pub decreases-ids : goal.decreases-ids
decreases-ids l = l.left
