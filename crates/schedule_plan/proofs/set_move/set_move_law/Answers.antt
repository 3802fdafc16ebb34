-- The law as it is proved over all sets.
use Rattle.schedule_plan.proofs.SetsAlike.{set_moves}
use Rattle.schedule_plan.proofs.set_move.set_move_law.Goals as goal

pub returns : goal.returns
returns c = set_moves
