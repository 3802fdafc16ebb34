-- What the loops of `push_row` keep.
use Rattle.std.proofs.Common.{◌≡◌, ◌+◌, ◌-◌, ◌*◌, ◌≤◌, [], ◌++◌, length}
use Rattle.std.specs.List.{flat_map}
use Rattle.workload.specs.Board.{square_clauses, front_of_row}
use Rattle.workload.proofs.formula.push_row.Given as goal

abbrev pub invariant-loop-column : goal.invariant-loop-column
invariant-loop-column l = record {
  vars : l.builder.vars ≡ l.fn.builder.vars;
  clauses : l.builder.clauses ≡ l.fn.builder.clauses ++ flat_map (square_clauses l.n) (front_of_row l.n l.row (l.column - 1));
  begun : l.builder.begun ≡ [];
  few : length l.builder.clauses ≤ length l.fn.builder.clauses + 7 * (l.column - 1);
}
