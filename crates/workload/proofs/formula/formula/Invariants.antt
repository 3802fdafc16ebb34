-- What the loops of `formula` keep.
use Rattle.std.proofs.Common.{◌≡◌, ◌-◌, ◌*◌, ◌≤◌, [], length}
use Rattle.std.specs.List.{flat_map}
use Rattle.cnf_base.specs.Limits.{max_vars}
use Rattle.cnf_base.specs.Order.{natural}
use Rattle.workload.specs.Board.{square_clauses, row_squares, dominoes}
use Rattle.workload.proofs.formula.formula.Given as goal

abbrev pub invariant-loop-row : goal.invariant-loop-row
invariant-loop-row l = record {
  vars : l.builder.vars ≡ length (dominoes l.n);
  clauses : l.builder.clauses ≡ flat_map (square_clauses l.n) (flat_map (row_squares l.n) (natural (l.row - 1)));
  few_vars : l.builder.vars ≤ max_vars;
  begun : l.builder.begun ≡ [];
  few : length l.builder.clauses ≤ 700 * (l.row - 1);
}
