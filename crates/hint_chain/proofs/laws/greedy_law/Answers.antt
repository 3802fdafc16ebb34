-- What is left to show of `greedy_law`.
use Rattle.lrat_rules.specs.Chain.{literals_of}
use Rattle.hint_chain.proofs.StrictHints.{greedy-strict}
use Rattle.hint_chain.proofs.laws.greedy_law.Goals as goal

pub returns-clause-strict : goal.returns-clause-strict
returns-clause-strict c live n parts hints found are = greedy-strict live n parts hints found are

pub returns-clause-refutes : goal.returns-clause-refutes
returns-clause-refutes c live clause parts hints found are = record {
  strict = greedy-strict live
      (literals_of clause) parts hints found are;
}
