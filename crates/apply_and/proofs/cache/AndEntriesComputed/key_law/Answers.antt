-- An entry tells its operands, and what was found.
use Rattle.apply_and.proofs.Cached.{tells_pairs}
use Rattle.apply_and.proofs.cache.AndEntriesComputed.key_law.Goals as goal

pub returns : goal.returns
returns c = tells_pairs
