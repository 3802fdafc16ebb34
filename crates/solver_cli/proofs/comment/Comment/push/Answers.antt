-- What is left to show of `push`.
use Rattle.std.proofs.Common.{rules, ap, ◌∙◌, arith}
use Rattle.solver_cli.specs.Comments.{is_begun_comment}
use Rattle.solver_cli.proofs.Commented.{goes_on}
use Rattle.solver_cli.proofs.comment.Comment.push.Goals as goal

pub invariant_of-self : goal.invariant_of-self
invariant_of-self c = record {
  begun = ap is_begun_comment c.push.ensures.items
      ∙ goes_on c.args.self.now.bytes.items c.args.byte c.args.self.now.begun (search (rules, c.if-byte-ne10.true));
  room = omega (arith, c.push.ensures.len, c.len.ensures.value, c.if-len-lt-MOST.true);
}
