-- What is left to show of `put_replies`.
use Rattle.std.proofs.Common.{rules}
use Rattle.solver_cli.proofs.replies.put_replies.Goals as goal

pub returns-clause-kept : goal.returns-clause-kept
returns-clause-kept g c =
    let made = c.new-sink.ensures in
    (c.beside_kept.ensures.sink made.same_reference made.same_value made.role c.print_replies.ensures.beside (search rules)).kept
