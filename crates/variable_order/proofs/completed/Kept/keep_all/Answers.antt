-- The next vertex of a sequence that is an order is kept, since its variable wasn't before.
use Rattle.std.proofs.Common.{◌∙◌, arith}
use Rattle.variable_order.proofs.KeptVariables.{next_of, more_of}
use Rattle.variable_order.proofs.completed.Kept.keep_all.Goals as goal

pub loop-vertex-preserved : goal.loop-vertex-preserved
loop-vertex-preserved c = record {
  vars = c.in_ok-keep.ensures.vars ∙ c.loop-vertex.invariant.vars;
  order = λ h long.
      let sequence = c.args.sequence.now in
      let i = c.loop-vertex.vertex-index in
      let kept = c.loop-vertex.invariant.order h long in
      let next = next_of c.args.self.now.vars i sequence c.loop-vertex.self.variables h long (omega arith) kept in
      c.in_ok-keep.ensures.next (omega (arith, next.0, c.loop-vertex.invariant.vars)) next.1
      ∙ more_of i sequence c.loop-vertex.self.variables (omega arith) kept;
}
