-- What the loops of `push_ands` keep.
use Rattle.std.proofs.Common.{◌≡◌, ◌++◌}
use Rattle.std.specs.Prelude.{replicate}
use Rattle.schedule_plan.specs.declared.plan.Move.TheVariants.{And}
use Rattle.workload.proofs.columns.push_ands.Given as goal

abbrev pub invariant-loop-term : goal.invariant-loop-term
invariant-loop-term l = l.moves.items ≡ l.fn.moves.items ++ replicate l._term And
