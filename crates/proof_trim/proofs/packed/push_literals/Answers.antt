-- What is left to show of `push_literals`.
use Rattle.std.proofs.Common.{sym}
use Rattle.proof_trim.specs.Packed.{literal_code}
use Rattle.proof_trim.proofs.Pushed.{all_pushed, one_pushed}
use Rattle.proof_trim.proofs.packed.push_literals.Goals as goal

pub loop-literal-preserved : goal.loop-literal-preserved
loop-literal-preserved c =
    one_pushed literal_code c.args.clause.now c.loop-literal.literal-index c.literal-item.result c.args.row.now c.loop-literal.row
    c.push_literal.new.row
    c.loop-literal-test.true c.loop-literal.invariant (sym c.literal-item.is) c.in_ok-push_literal.ensures

pub returns : goal.returns
returns c = all_pushed literal_code c.args.clause.now c.loop-literal.literal-index c.args.row.now c.loop-literal.row
    c.loop-literal.invariant c.loop-literal-test.false
