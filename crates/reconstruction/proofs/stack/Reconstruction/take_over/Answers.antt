-- What is left to show of `take_over`.
use Rattle.std.proofs.Common.{◌∙◌, ◌++◌, map}
use Rattle.reconstruction.specs.Stack.{entry_of}
use Rattle.reconstruction.proofs.TakenOver.{stack_stored}
use Rattle.reconstruction.proofs.stack.Reconstruction.take_over.Goals as goal

pub invariant_of-self-2 : goal.invariant_of-self-2
invariant_of-self-2 c =
    let now = c.in_ok-entries.ensures ∙ (λ i. map (entry_of (c.as_slice-2.ensures.value i)) (c.as_slice.ensures.value i)) in
    stack_stored c.self.inside.cells.items c.self.inside.stored.items c.extend_from_slice.new.self.items c.self.inside.copies.items
    c.self.inside.recent.items c.self.invariant
    (c.in_ok-extend_from_slice.ensures.items ∙ (λ i. c.self.inside.stored.items ++ (c.as_slice-3.ensures.value ∙ now) i))
