-- What is left to show of `gather`.
use Rattle.command_line.proofs.words.gather.Goals as goal

pub returns-in-Ok : goal.returns-in-Ok
returns-in-Ok g c = let run = c.in-Ok.ensures.runs tt in (run.0, run.1, run.2, run.3.0)
