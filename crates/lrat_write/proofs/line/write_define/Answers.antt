-- What is left to show of `write_define`.
use Rattle.std.proofs.Common.{List, ℕ, subst}
use Rattle.host_io.specs.Channel.{WritesAll}
use Rattle.lrat_write.proofs.Lines.{line_text-define}
use Rattle.lrat_write.proofs.line.write_define.Goals as goal

pub returns-clause-writes : goal.returns-clause-writes
returns-clause-writes g c =
    subst (λ (line : List ℕ). WritesAll g.S.Sink.tells (g.S.Sink.channel c.args.sink.now)
    (g.S.Sink.channel c.write_line.new.sink) line c.write_line.result)
    (line_text-define c.args.id c.args.clause.now c.args.candidates.now c.requires) c.write_line.ensures.writes
