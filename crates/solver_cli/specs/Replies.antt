-- What `ask` prints of the cubes that it was given, and how it ends.
use Rattle.std.specs.Prelude.{ℕ, ◌+◌, ◌++◌, List, [], ◌∷◌}
use Rattle.schedule_plan.specs.declared.limits.Limits.{Limits}
use Rattle.cube_queries.specs.declared.answer.Answer.{Answer}
use Rattle.cube_queries.specs.declared.answer.Answer.TheVariants as answer
use Rattle.cube_queries.specs.declared.answer.Outcome.{Outcome as Replies}
use Rattle.cube_queries.specs.declared.answer.Outcome.TheVariants as replies
use Rattle.answer_text.specs.Status.{cube_line, id_limit_text, node_limit_text, sat_text, unsat_line}
use Rattle.solver_cli.specs.declared.status.Why.{Why}
use Rattle.solver_cli.specs.declared.status.Why.TheVariants.{NodeLimit, IdLimit}
use Rattle.solver_cli.specs.declared.status.Status.{Status}
use Rattle.solver_cli.specs.declared.status.Status.TheVariants.{Answered, Unknown}

-- the text of one answer
abbrev pub answer_lines : Answer → List ℕ
answer_lines answer.Unsat = unsat_line
answer_lines (answer.Sat values) = sat_text values

-- the answers to cubes, each behind the line of its cube; the first is of the cube of this number
abbrev pub answers_from : ℕ → List Answer → List ℕ
answers_from number [] = []
answers_from number (answer ∷ answers) = (cube_line number ++ answer_lines answer) ++ answers_from (number + 1) answers

-- the text of what a session comes to within limits: that of all answers, or of the limit that was reached
abbrev pub replies_text : Limits → Replies → List ℕ
replies_text limits (replies.Answered answers) = answers_from 1 answers
replies_text limits replies.NodeLimit = node_limit_text limits.max_nodes
replies_text limits replies.IdLimit = id_limit_text limits.max_ids

-- the status of a run that printed it
abbrev pub status_of_replies : Replies → Status
status_of_replies (replies.Answered answers) = Answered
status_of_replies replies.NodeLimit = Unknown NodeLimit
status_of_replies replies.IdLimit = Unknown IdLimit

-- what a session comes to at a limit
abbrev pub replies_at : Why → Replies
replies_at NodeLimit = replies.NodeLimit
replies_at IdLimit = replies.IdLimit
