-- What the loop of `find_way` keeps.
use Rattle.cnf_base.specs.Truth.{assignment_of}
use Rattle.reconstruction.specs.Ranks.{rank_of}
use Rattle.reconstruction.proofs.Searches.{IsSearch, left}
use Rattle.reconstruction.proofs.way.find_way.Given as goal

abbrev pub invariant-cells : goal.invariant-cells
invariant-cells l =
    IsSearch l.cells (rank_of l.ranks l.round) (assignment_of l.values) l.round l.first l.marks.items l.path.items l.key

abbrev pub decreases-cells : goal.decreases-cells
decreases-cells l = left l.round l.first l.marks.items l.path.items
