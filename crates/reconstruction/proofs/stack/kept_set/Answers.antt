-- What is left to show of `kept_set`.
use Rattle.std.proofs.Common.{◌∙◌, List, [], ◌∷◌, ◌++◌, ap, sym}
use Rattle.std.specs.Prelude.{slice_index_or}
use Rattle.reconstruction.specs.declared.entries.Kept.{Kept}
use Rattle.reconstruction.proofs.KeptSets.{kept_more}
use Rattle.reconstruction.proofs.stack.kept_set.Goals as goal

pub set-preserved : goal.set-preserved
set-preserved c =
    c.in_ok-push.ensures.items
    ∙ ap (λ (l : List Kept). l ++ record { variable = slice_index_or c.args.set.now c.set.place 0; later = c.set.place; node = c.args.node } ∷ [])
    c.set.invariant
    ∙ sym (kept_more c.args.set.now c.set.place 0 c.args.node c.set-test.true)
