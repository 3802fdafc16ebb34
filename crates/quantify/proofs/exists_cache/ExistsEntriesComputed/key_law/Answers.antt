-- An entry tells its question, and the answer.
use Rattle.quantify.proofs.Keys.{tells_questions}
use Rattle.quantify.proofs.exists_cache.ExistsEntriesComputed.key_law.Goals as goal

pub returns : goal.returns
returns c = tells_questions
