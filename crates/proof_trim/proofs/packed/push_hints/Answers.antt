-- What is left to show of `push_hints`.
use Rattle.std.proofs.Common.{sym}
use Rattle.proof_trim.specs.Packed.{hint_code}
use Rattle.proof_trim.proofs.Pushed.{all_pushed, one_pushed}
use Rattle.proof_trim.proofs.packed.push_hints.Goals as goal

pub loop-id-preserved : goal.loop-id-preserved
loop-id-preserved c =
    one_pushed hint_code c.args.hints.now c.loop-id.id-index c.id-item.result c.args.row.now c.loop-id.row c.push_hint.new.row
    c.loop-id-test.true c.loop-id.invariant (sym c.id-item.is) c.in_ok-push_hint.ensures

pub returns : goal.returns
returns c = all_pushed hint_code c.args.hints.now c.loop-id.id-index c.args.row.now c.loop-id.row c.loop-id.invariant c.loop-id-test.false
