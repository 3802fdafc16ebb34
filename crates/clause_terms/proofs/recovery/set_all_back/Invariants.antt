-- What the loops of `set_all_back` keep.
use Rattle.std.proofs.Common.{◌≡◌, length, reverse, take}
use Rattle.cnf_base.specs.Truth.{assignment_of}
use Rattle.node_table.specs.Diagram.{levels}
use Rattle.clause_terms.specs.Recovery.{set_nodes_back}
use Rattle.clause_terms.specs.Walk.{AreAlike}
use Rattle.clause_terms.proofs.recovery.set_all_back.Given as goal

abbrev pub invariant-back : goal.invariant-back
invariant-back g l = record {
  one_each : length l.values.items ≡ levels l.table.graph;
  rest : AreAlike (set_nodes_back l.table.graph (assignment_of l.values.items) (reverse (take l.place l.trail)))
      (set_nodes_back l.table.graph (assignment_of l.initial.values.items) (reverse l.trail));
}
