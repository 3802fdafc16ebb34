-- What is left to show of `set_back`.
use Rattle.std.proofs.Common.{◌∙◌, ◌<◌, ◌≤◌, Contains, List, length, ap, subst, sym}
use Rattle.reconstruction.specs.declared.cells.Cell.{Cell}
use Rattle.reconstruction.specs.declared.entries.Entry.{Entry}
use Rattle.reconstruction.specs.Stack.{AreWithin, Stack}
use Rattle.reconstruction.proofs.stack.Reconstruction.set_back.Goals as goal

pub set_all_back-requires-clause-within : goal.set_all_back-requires-clause-within
set_all_back-requires-clause-within c =
    subst (λ (cells : List Cell). AreWithin cells c.as_slice-2.result.now) (sym c.as_slice.ensures.value)
    (subst (λ (stored : List Entry). AreWithin c.self.inside.cells.items stored) (sym c.as_slice-2.ensures.value) c.self.invariant.within)

pub set_all_back-requires-clause-variables : goal.set_all_back-requires-clause-variables
set_all_back-requires-clause-variables c =
    subst (λ (stored : List Entry). (entry : Entry) → Contains stored entry → (0 < entry.variable) × (entry.variable ≤ length c.args.values.now))
    (sym (c.as_slice-2.ensures.value ∙ ap (λ (s : Stack). s.stored) c.self.view_is)) c.requires.variables
