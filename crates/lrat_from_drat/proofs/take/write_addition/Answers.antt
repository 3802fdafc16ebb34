-- The step's line, by how its write ended.
use Rattle.std.proofs.Common.{◌≡◌, Err, refl, rules, sym, subst}
use Rattle.cnf_base.specs.declared.step.Step.{Step}
use Rattle.cnf_base.specs.declared.step.Step.TheVariants.{Add}
use Rattle.cnf_base.specs.ProofText.{line_of_step}
use Rattle.host_io.specs.Channel.{WritesAll}
use Rattle.drat_proof.specs.declared.error.ConvertError.TheVariants.{OutOfMemory}
use Rattle.lrat_from_drat.specs.Writing.{WritesLine}
use Rattle.lrat_from_drat.proofs.Taken.{by-answer}
use Rattle.lrat_from_drat.proofs.take.write_addition.Goals as goal

pub returns-in_err-step-clause-writes : goal.returns-in_err-step-clause-writes
returns-in_err-step-clause-writes g c =
    let is : c.from_residual.result ≡ Err OutOfMemory = first_of (search rules, cc) in
    subst (WritesLine g.S.Sink.tells (g.S.Sink.channel c.args.sink.now) (g.S.Sink.channel c.args.sink.now)
    (Add c.args.id c.args.clause.now c.args.line.now.hints c.args.line.now.groups)) (sym is) refl

pub returns-clause-writes : goal.returns-clause-writes
returns-clause-writes g c =
    let own = Add c.args.id c.args.clause.now c.args.line.now.hints c.args.line.now.groups in
    subst (WritesLine g.S.Sink.tells (g.S.Sink.channel c.args.sink.now) (g.S.Sink.channel c.write_step.new.sink) own)
    (sym c.answer_by.ensures)
    (by-answer g.S.Sink.tells (g.S.Sink.channel c.args.sink.now) (g.S.Sink.channel c.write_step.new.sink) own c.write_step.result
    c.in_ok-step.ensures.range
    (subst (λ (s : Step). WritesAll g.S.Sink.tells (g.S.Sink.channel c.args.sink.now) (g.S.Sink.channel c.write_step.new.sink)
    (line_of_step s) c.write_step.result) c.in_ok-step.ensures.step c.write_step.ensures.writes))
