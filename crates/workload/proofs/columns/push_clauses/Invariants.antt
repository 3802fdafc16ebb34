-- What the loops of `push_clauses` keep.
use Rattle.std.proofs.Common.{◌≡◌, ◌-◌, ◌++◌}
use Rattle.std.specs.Prelude.{map}
use Rattle.std.specs.List.{filter, flat_map}
use Rattle.cnf_base.specs.Order.{natural}
use Rattle.schedule_plan.specs.declared.plan.Move.TheVariants.{Push}
use Rattle.workload.specs.Board.{square, stays}
use Rattle.workload.specs.Schedule.{clause_numbers}
use Rattle.workload.specs.Cursor.{StandsWithin}
use Rattle.workload.proofs.columns.push_clauses.Given as goal

abbrev pub invariant-loop-row : goal.invariant-loop-row
invariant-loop-row l = record {
  moves : l.moves.items ≡ l.fn.moves.items
      ++ map Push (flat_map (clause_numbers l.n) (filter (stays l.n) (map (λ row. square row l.column) (natural (l.row - 1)))));
  cursor : StandsWithin l.n l.row l.column l.cursor;
}
