-- The law as it is proved over all functions.
use Rattle.quantify.proofs.SetMeaning.{set_meaning}
use Rattle.quantify.proofs.quantify_set.set_law.Goals as goal

pub returns : goal.returns
returns c = set_meaning
