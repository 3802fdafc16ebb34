-- What is left to show of `whole_width_law`.
use Rattle.term_runner.proofs.FurtherParts.{wider_whole}
use Rattle.term_runner.proofs.examples.whole_width_law.Goals as goal

pub returns : goal.returns
returns c = wider_whole
