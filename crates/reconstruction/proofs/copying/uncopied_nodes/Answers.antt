-- What is left to show of `uncopied_nodes`.
use Rattle.reconstruction.proofs.Wanted.{known_still, uncopied_sorted}
use Rattle.reconstruction.proofs.copying.uncopied_nodes.Goals as goal

pub returns-clause-uncopied : goal.returns-clause-uncopied
returns-clause-uncopied g c = uncopied_sorted c.args.table.now.graph c.args.marks.now c.args.copies.now _ _ c.requires
    c.in_ok-uncopied.ensures c.sort_by_level.ensures.permutation c.sort_by_level.ensures.sorted

pub returns-clause-all : goal.returns-clause-all
returns-clause-all g c = known_still c.args.table.now.graph c.args.marks.now c.args.copies.now _ _ c.requires
    c.in_ok-uncopied.ensures c.sort_by_level.ensures.permutation c.sort_by_level.ensures.sorted
