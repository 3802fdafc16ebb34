-- What is left to show of `restore_law`.
use Rattle.reconstruction.proofs.Restored.{restored}
use Rattle.reconstruction.proofs.laws.restore_law.Goals as goal

pub returns : goal.returns
returns c = restored
