-- What is left to show of `stays`.
use Rattle.std.proofs.Common.{arith}
use Rattle.std.proofs.lemmas.Bool.Decides.{nat_tests}
use Rattle.workload.specs.Board.{stays}
use Rattle.workload.proofs.square.stays.Goals as goal

pub returns-then-is_on_board : goal.returns-then-is_on_board
unfolding stays
returns-then-is_on_board c = grind (arith, nat_tests)

pub returns-else-is_on_board : goal.returns-else-is_on_board
unfolding stays
returns-else-is_on_board c = grind (arith, nat_tests)
