-- What is left to show of `write_status`.
use Rattle.std.proofs.Common.{◌∙◌, ap, ℕ, List, subst, sym}
use Rattle.std.specs.Prelude.{Option, ⊤}
use Rattle.host_io.specs.Channel.{WritesAll}
use Rattle.solver_cli.specs.ErrorLine.{line_text}
use Rattle.solver_cli.proofs.complaint.write_status.Goals as goal

pub returns-in-Some-clause-writes : goal.returns-in-Some-clause-writes
returns-in-Some-clause-writes g c =
    let line = c.line_of-line.result in
    subst (λ (text : List ℕ). WritesAll {T = ⊤} g.S.Sink.tells (g.S.Sink.channel c.args.sink.now)
    (g.S.Sink.channel c.write_refused.new.sink) text c.write_refused.result)
    (sym (c.line_of-line.ensures ∙ ap (λ (n : Option ℕ). line_text line.head.now n line.kind.now) c.in-Some.is))
    c.write_refused.ensures.writes

pub returns-in-None-clause-writes : goal.returns-in-None-clause-writes
returns-in-None-clause-writes g c =
    let line = c.line_of-line.result in
    subst (λ (text : List ℕ). WritesAll {T = ⊤} g.S.Sink.tells (g.S.Sink.channel c.args.sink.now)
    (g.S.Sink.channel c.write_all.new.sink) text c.write_all.result)
    (c.as_bytes.ensures.value
    ∙ sym (c.line_of-line.ensures ∙ ap (λ (n : Option ℕ). line_text line.head.now n line.kind.now) c.in-None.is))
    c.write_all.ensures.writes
