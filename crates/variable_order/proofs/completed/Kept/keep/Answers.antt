-- A vertex that is passed over is none, or its variable was kept before; another is kept, and its flag set.
use Rattle.std.proofs.Common.{◌∙◌, ◌<◌, false, length, sym, arith, add-one}
use Rattle.std.proofs.lemmas.List.{get_or_read}
use Rattle.variable_order.proofs.KeptVariables.{kept_more}
use Rattle.variable_order.proofs.completed.Kept.keep.Goals as goal
use Rattle.variable_order.proofs.completed.Kept.keep.Goals.{then-vertex-self-via-then-vertex-self}
use Rattle.variable_order.proofs.completed.Kept.keep.Goals.{then-vertex-self-via-else-vertex-self+then-index}

pub returns-then-vertex-self-clause-next : goal.returns-then-vertex-self-clause-next
returns-then-vertex-self-clause-next c = λ below new.
    let small = rw (← c.self.view_is) at below in
    let apart = rw (← c.self.view_is) at new in
    let flags = c.self.inside.flags.items in
    let inside : c.args.vertex < length flags = omega (arith, small, c.self.invariant.each) in
    absurd (elim c.then-vertex-self.branch [
      | then-vertex-self-via-then-vertex-self w ↦ omega (arith, small, w.if-vertex-self.true)
      | then-vertex-self-via-else-vertex-self+then-index w ↦
          apart (c.self.invariant.stand c.args.vertex
          (sym (get_or_read flags c.args.vertex _ inside w.index.ensures false) ∙ w.if-index.true))
    ])

pub invariant_of-self-2 : goal.invariant_of-self-2
invariant_of-self-2 c =
    let flags = c.self.inside.flags.items in
    let inside : c.args.vertex < length flags = omega (arith, c.if-vertex-self.false, c.self.invariant.each) in
    let unset = sym (get_or_read flags c.args.vertex _ inside c.index.ensures false) ∙ c.if-index.false in
    rw (c.in_ok-push.ensures.items, add-one)
    (kept_more _ c.args.vertex _ flags c.self.invariant (omega (arith, c.if-vertex-self.false)) unset)
