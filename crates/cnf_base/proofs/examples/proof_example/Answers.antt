-- What is left to show of `proof_example`.
use Rattle.std.proofs.Common.{refl}
use Rattle.cnf_base.proofs.examples.proof_example.Goals as goal

pub returns : goal.returns
returns c = refl
