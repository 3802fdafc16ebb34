-- What is left to show of `write_node_limit`.
use Rattle.std.proofs.Common.{ℕ, List, subst}
use Rattle.std.specs.Prelude.{codes}
use Rattle.host_io.specs.Channel.{WritesAll}
use Rattle.answer_text.proofs.Words.{limit_lines}
use Rattle.answer_text.proofs.status.write_node_limit.Goals as goal

pub returns-clause-writes : goal.returns-clause-writes
returns-clause-writes g c =
    subst (λ (text : List ℕ). WritesAll g.S.Sink.tells (g.S.Sink.channel c.args.sink.now)
    (g.S.Sink.channel c.write_limit.new.sink) text c.write_limit.result)
    (limit_lines (codes "c node limit ") c.args.n) c.write_limit.ensures.writes
