-- A schedule that is accepted is an admissible plan.
use Rattle.schedule_plan.proofs.Accepted.{accepted_schedule}
use Rattle.schedule_plan.proofs.schedule.read.schedule_text_law.Goals as goal

pub returns : goal.returns
returns c = λ formula bytes moves is. accepted_schedule formula bytes moves is
