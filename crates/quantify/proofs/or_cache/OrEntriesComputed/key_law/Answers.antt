-- An entry tells its operands, and their disjunction.
use Rattle.quantify.proofs.Keys.{tells_pairs}
use Rattle.quantify.proofs.or_cache.OrEntriesComputed.key_law.Goals as goal

pub returns : goal.returns
returns c = tells_pairs
