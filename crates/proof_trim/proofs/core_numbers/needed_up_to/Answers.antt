-- What is left to show of `needed_up_to`.
use Rattle.std.proofs.Common.{◌∙◌, arith}
use Rattle.proof_trim.specs.Numbers.{has}
use Rattle.proof_trim.proofs.Listed.{at_first, at_last, one_less}
use Rattle.proof_trim.proofs.core_numbers.needed_up_to.Goals as goal

pub numbers-init : goal.numbers-init
numbers-init c = record {
  within = omega arith;
  row = c.new-row.ensures ∙ at_first (has c.args.numbers.now) c.args.count;
}

pub numbers-preserved : goal.numbers-preserved
numbers-preserved c = record {
  within = omega (arith, c.numbers.invariant.within);
  row = one_less (has c.args.numbers.now) c.args.count c.numbers.id c.numbers.row c.push_needed.new.row c.numbers-test.true
      c.numbers.invariant.within c.numbers.invariant.row c.in_ok-push_needed.ensures;
}

pub returns : goal.returns
returns c = at_last (has c.args.numbers.now) c.args.count c.numbers.id c.numbers.row c.numbers-test.false c.numbers.invariant.row
