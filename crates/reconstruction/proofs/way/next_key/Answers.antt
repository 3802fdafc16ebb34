-- What is left to show of `next_key`.
use Rattle.reconstruction.proofs.Ways.{cell_of}
use Rattle.reconstruction.proofs.way.next_key.Goals as goal

pub rank_of-requires : goal.rank_of-requires
rank_of-requires c = (cell_of c.args.cells.now c.requires.ordered c.args.key c.requires.inner c.requires.within).some

pub chosen-requires : goal.chosen-requires
chosen-requires c = (cell_of c.args.cells.now c.requires.ordered c.args.key c.requires.inner c.requires.within).some
