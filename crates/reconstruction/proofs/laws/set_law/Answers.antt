-- What is left to show of `set_law`.
use Rattle.reconstruction.proofs.SetEntries.{sets_restored}
use Rattle.reconstruction.proofs.laws.set_law.Goals as goal

pub returns : goal.returns
returns c = sets_restored
