-- What the loops of `push_no_two_of` keep.
use Rattle.std.proofs.Common.{◌≡◌, ◌+◌, ◌*◌, ◌≤◌, [], ◌++◌, length, drop}
use Rattle.workload.specs.Board.{no_two_of}
use Rattle.workload.proofs.formula.push_no_two_of.Given as goal

abbrev pub invariant-loop-place : goal.invariant-loop-place
invariant-loop-place l = record {
  vars : l.builder.vars ≡ l.fn.builder.vars;
  clauses : l.builder.clauses ++ no_two_of (drop l.place l.variables) ≡ l.fn.builder.clauses ++ no_two_of l.variables;
  begun : l.builder.begun ≡ [];
  few : length l.builder.clauses ≤ length l.fn.builder.clauses + 4 * l.place;
}
