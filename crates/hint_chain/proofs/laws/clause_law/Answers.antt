-- What is left to show of `clause_law`.
use Rattle.hint_chain.proofs.AtomClauses.{are_among-clause_from_atoms, length-clause_from_atoms, given-clause_from_atoms}
use Rattle.hint_chain.proofs.laws.clause_law.Goals as goal

pub returns-clause-among : goal.returns-clause-among
returns-clause-among c = are_among-clause_from_atoms

pub returns-clause-short : goal.returns-clause-short
returns-clause-short c = length-clause_from_atoms

pub returns-clause-given : goal.returns-clause-given
returns-clause-given c = given-clause_from_atoms
