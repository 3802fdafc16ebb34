-- What an equation's clauses say.
use Rattle.parity_equations.proofs.DeniedSums.{clauses_say}
use Rattle.parity_equations.proofs.laws.clauses_law.Goals as goal

pub returns : goal.returns
returns c = clauses_say
