-- An entry tells its operands, and why the first implies the second.
use Rattle.imply.proofs.Cached.{tells_pairs}
use Rattle.imply.proofs.cache.ImplyEntriesComputed.key_law.Goals as goal

pub returns : goal.returns
returns c = tells_pairs
