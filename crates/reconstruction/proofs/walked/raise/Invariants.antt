-- What the loop of `raise` keeps.
use Rattle.std.proofs.Common.{◌≡◌, length}
use Rattle.cnf_base.specs.Truth.{assignment_of}
use Rattle.reconstruction.specs.Ranks.{rank_of}
use Rattle.reconstruction.specs.Way.{Agrees, live}
use Rattle.reconstruction.proofs.Raised.{AreDown}
use Rattle.reconstruction.proofs.walked.raise.Given as goal

abbrev pub invariant-way : goal.invariant-way
invariant-way l = record {
  one_each : length l.values ≡ length l.fn.values;
  rest : Agrees (rank_of l.ranks l.round) (assignment_of l.fn.values) (assignment_of l.values);
  down : AreDown l.cells (rank_of l.ranks l.round) (assignment_of l.fn.values) (live l.marks l.round) l.path (assignment_of l.values) l.last
      l.key-index;
}
