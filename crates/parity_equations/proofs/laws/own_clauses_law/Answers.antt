-- What is left to show of `own_clauses_law`.
use Rattle.parity_equations.proofs.OwnClauses.{own_clauses}
use Rattle.parity_equations.proofs.laws.own_clauses_law.Goals as goal

pub returns : goal.returns
returns c = own_clauses
