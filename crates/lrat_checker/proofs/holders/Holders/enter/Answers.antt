-- What is left to show of `Holders::enter`.
use Rattle.std.proofs.Common.{arith}
use Rattle.lrat_checker.proofs.Kept.{along, entered_more}
use Rattle.lrat_checker.proofs.holders.Holders.enter.Goals as goal

pub loop-literal-preserved : goal.loop-literal-preserved
loop-literal-preserved c = record {
  kept = along c.loop-literal.invariant.kept c.in_ok-enter_one.ensures.kept;
  entered =
      entered_more c.loop-literal.self c.enter_one.new.self c.in_ok-enter_one.ensures.kept c.args.id c.args.literals.now
      c.loop-literal.literal-index c.literal-item.result (omega arith)
      c.literal-item.is c.loop-literal.invariant.entered c.in_ok-enter_one.ensures.entered;
}
