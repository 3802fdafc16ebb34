-- What is left to show of `write_delete`.
use Rattle.std.proofs.Common.{List, ℕ, subst}
use Rattle.host_io.specs.Channel.{WritesAll}
use Rattle.lrat_write.proofs.Lines.{deletion_text-line}
use Rattle.lrat_write.proofs.line.write_delete.Goals as goal

pub returns-clause-writes : goal.returns-clause-writes
returns-clause-writes g c =
    subst (λ (line : List ℕ). WritesAll g.S.Sink.tells (g.S.Sink.channel c.args.sink.now)
    (g.S.Sink.channel c.write_deletion.new.sink) line c.write_deletion.result)
    (deletion_text-line c.args.id c.args.ids.now) c.write_deletion.ensures.writes
