-- What is left to show of `forget_dead`.
use Rattle.std.proofs.Common.{subst, sym}
use Rattle.reconstruction.specs.Copies.{AreCopies}
use Rattle.reconstruction.specs.Stack.{Stack}
use Rattle.reconstruction.proofs.Copied.{left_of, sound_left}
use Rattle.reconstruction.proofs.stack.Reconstruction.forget_dead.Goals as goal

pub returns-clause-copies : goal.returns-clause-copies
returns-clause-copies g c before keeps are =
    left_of c.growth_law.ensures c.args.table.now.graph c.table_law.ensures.reduced c.self.inside.cells.items c.self.inside.copies.items
    c.forget.new.copies.items c.forget.ensures.forgets before keeps
    (subst (λ (s : Stack). AreCopies before s.cells s.copies) (sym c.self.view_is) are)

pub invariant_of-self : goal.invariant_of-self
invariant_of-self g c = record {
  sound = sound_left c.args.table.now.graph c.self.inside.cells.items c.self.inside.copies.items c.forget.new.copies.items
      c.forget.ensures.forgets c.forget.ensures.places c.self.invariant.sound;
  within = c.self.invariant.within;
}
