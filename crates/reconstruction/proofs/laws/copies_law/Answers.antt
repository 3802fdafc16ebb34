-- What is left to show of `copies_law`.
use Rattle.reconstruction.proofs.Copied.{copying}
use Rattle.reconstruction.proofs.laws.copies_law.Goals as goal

pub returns : goal.returns
returns c = copying c.growth_law.ensures
