-- What stood among those kept stands there still, and the next variable too.
use Rattle.std.proofs.Common.{◌∙◌, ◌<◌, suc, length, refl, sym, ap, arith, below_more}
use Rattle.variable_order.proofs.completed.Kept.keep_missing.Goals as goal

pub loop-vertex-init : goal.loop-vertex-init
loop-vertex-init c = record { vars = refl; all = λ vertex below. absurd (omega (arith, below)); full = λ e. refl }

pub loop-vertex-preserved : goal.loop-vertex-preserved
loop-vertex-preserved c =
    let viewed = ap (λ k. k.vars) c.self.view_is in
    let next : c.loop-vertex.vertex < c.loop-vertex.self.vars = omega (arith, viewed, c.loop-vertex.invariant.vars) in
    record {
      vars = c.in_ok-keep.ensures.vars ∙ c.loop-vertex.invariant.vars;
      all = below_more _ _ (λ k h. c.in_ok-keep.ensures.before (suc k) (c.loop-vertex.invariant.all k h))
          (c.in_ok-keep.ensures.stands next);
      full = λ e.
          let was = c.loop-vertex.invariant.full e in
          c.in_ok-keep.ensures.full (ap length was ∙ e ∙ sym c.loop-vertex.invariant.vars) ∙ was;
    }
