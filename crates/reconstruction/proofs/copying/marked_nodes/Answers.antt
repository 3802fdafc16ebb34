-- What is left to show of `marked_nodes`.
use Rattle.std.proofs.Common.{◌∙◌, ◌+◌, List, subst, sym}
use Rattle.reconstruction.specs.declared.copying.Uncopied.{Uncopied}
use Rattle.reconstruction.proofs.Wanted.{AreMarkedBelow, none_below, taken}
use Rattle.reconstruction.proofs.copying.marked_nodes.Goals as goal

pub keys-init : goal.keys-init
keys-init g c = none_below c.args.table.now.graph c.args.marks.now c.args.copies.now _ c.new-uncopied.ensures.items

pub keys-preserved : goal.keys-preserved
keys-preserved g c =
    subst (λ (list : List Uncopied). AreMarkedBelow c.args.table.now.graph c.args.marks.now c.args.copies.now list (c.keys.index + 1))
    (sym c.in_ok-push.ensures.items)
    (taken c.args.table.now.graph c.args.marks.now c.args.copies.now c.keys.uncopied.items c.keys.index c.keys.invariant
    c.level_of.result c.level_of.ensures (sym c.is_wanted.ensures ∙ c.if-not-is_wanted.false))
