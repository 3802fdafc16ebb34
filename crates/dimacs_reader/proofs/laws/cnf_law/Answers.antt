-- What is left to show of `cnf_law`.
use Rattle.dimacs_reader.proofs.Accepted.{cnf-accepted}
use Rattle.dimacs_reader.proofs.laws.cnf_law.Goals as goal

pub returns-clause-vars : goal.returns-clause-vars
returns-clause-vars c mode bytes problem is = (cnf-accepted mode bytes problem is).vars

pub returns-clause-literals : goal.returns-clause-literals
returns-clause-literals c mode bytes problem is = (cnf-accepted mode bytes problem is).literals
