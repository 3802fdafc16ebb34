-- What is left to show of `write_addition`.
use Rattle.std.proofs.Common.{◌∙◌, List, ℕ, sym, subst}
use Rattle.cnf_base.specs.declared.list.Group.{Group}
use Rattle.cnf_base.specs.declared.step.Step.TheVariants.{Add}
use Rattle.cnf_base.specs.ProofText.{line_of_step}
use Rattle.host_io.specs.Channel.{WritesAll}
use Rattle.lrat_write.proofs.Lines.{addition_text-line, no_groups}
use Rattle.lrat_write.proofs.step.write_addition.Goals as goal

pub returns-then-is_empty-clause-writes : goal.returns-then-is_empty-clause-writes
returns-then-is_empty-clause-writes g c =
    subst (λ (groups : List Group). WritesAll g.S.Sink.tells (g.S.Sink.channel c.args.sink.now) (g.S.Sink.channel c.write_add.new.sink)
    (line_of_step (Add c.args.id c.args.clause.now c.args.hints.now groups)) c.write_add.result)
    (no_groups c.args.groups.now (sym c.is_empty.ensures ∙ c.if-is_empty.true)) c.write_add.ensures.writes

pub returns-clause-writes : goal.returns-clause-writes
returns-clause-writes g c =
    subst (λ (line : List ℕ). WritesAll g.S.Sink.tells (g.S.Sink.channel c.args.sink.now)
    (g.S.Sink.channel c.write_grouped.new.sink) line c.write_grouped.result)
    (addition_text-line c.args.id c.args.clause.now c.args.hints.now c.args.groups.now) c.write_grouped.ensures.writes
