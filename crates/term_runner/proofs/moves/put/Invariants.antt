-- What the loops of `put` keep.
use Rattle.std.proofs.Common.{◌≡◌, ◌+◌, None, reverse, take, drop}
use Rattle.std.specs.Prelude.{vec_len, vec_capacity}
use Rattle.node_table.specs.Progress.{Steps}
use Rattle.bdd_terms.specs.Units.{RetiresUnits}
use Rattle.term_runner.proofs.moves.put.Given as goal

abbrev pub invariant-operands : goal.invariant-operands
invariant-operands g l = record {
  len : vec_len l.out + l.operand-index ≡ vec_len l.fn.out;
  capacity : vec_capacity l.out ≡ vec_capacity l.fn.out;
  out : reverse l.out.items ≡ drop l.operand-index (reverse l.fn.out.items);
  retires : RetiresUnits l.fn.table l.table (take l.operand-index l.operands) l.held.unit;
  steps : Steps l.fn.table l.table 0 None;
}
