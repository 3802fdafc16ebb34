-- What is left to show of `front_of_line_law`.
use Rattle.cnf_base.proofs.ProofTextLemmas.{line_ends-front}
use Rattle.cnf_base.proofs.laws.front_of_line_law.Goals as goal

pub returns : goal.returns
returns c = line_ends-front
