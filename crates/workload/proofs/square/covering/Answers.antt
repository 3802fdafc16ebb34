-- What is left to show of `covering`.
use Rattle.std.proofs.Common.{arith}
use Rattle.workload.proofs.Squares.{it_stays}
use Rattle.workload.proofs.square.covering.Goals as goal

pub overflow_sub-above : goal.overflow_sub-above
overflow_sub-above c = (it_stays c.args.n c.args.row c.args.column c.requires.there).row_from

pub overflow_sub-left : goal.overflow_sub-left
overflow_sub-left c = (it_stays c.args.n c.args.row c.args.column c.requires.there).column_from

pub push_number-requires-clause-near : goal.push_number-requires-clause-near
push_number-requires-clause-near c = let there = it_stays c.args.n c.args.row c.args.column c.requires.there in
    (omega (arith, there.row_to), omega (arith, there.column_to))

pub push_number-requires-2-clause-near : goal.push_number-requires-2-clause-near
push_number-requires-2-clause-near c = let there = it_stays c.args.n c.args.row c.args.column c.requires.there in
    (omega (arith, there.row_to), omega (arith, there.column_to))

pub push_number-requires-3-clause-near : goal.push_number-requires-3-clause-near
push_number-requires-3-clause-near c = let there = it_stays c.args.n c.args.row c.args.column c.requires.there in
    (omega (arith, there.row_to), omega (arith, there.column_to))

pub push_number-requires-4-clause-near : goal.push_number-requires-4-clause-near
push_number-requires-4-clause-near c = let there = it_stays c.args.n c.args.row c.args.column c.requires.there in
    (omega (arith, there.row_to), omega (arith, there.column_to))
