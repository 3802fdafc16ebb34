-- What is left to show of `into_line`.
use Rattle.std.proofs.Common.{ap, ◌∙◌}
use Rattle.solver_cli.specs.Comments.{are_comments}
use Rattle.solver_cli.proofs.Commented.{ends}
use Rattle.solver_cli.proofs.comment.Comment.into_line.Goals as goal

pub returns : goal.returns
returns c = ap are_comments c.push.ensures.items ∙ ends c.args.self.bytes.items c.args.self.begun
