-- What is left to show of `refuted_law`.
use Rattle.lrat_rules.proofs.Refuted.{IsVerifiedRun-Refutes, Refutes-Spells}
use Rattle.lrat_rules.proofs.laws.refuted_law.Goals as goal

pub returns-clause-refutes : goal.returns-clause-refutes
returns-clause-refutes c = Refutes-Spells

pub returns-clause-reaches : goal.returns-clause-reaches
returns-clause-reaches c clauses bytes r = let v = IsVerifiedRun-Refutes clauses bytes r in (v.state, v.reached)

pub returns-clause-adds_empty : goal.returns-clause-adds_empty
returns-clause-adds_empty c clauses bytes r = (IsVerifiedRun-Refutes clauses bytes r).empty
