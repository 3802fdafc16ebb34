-- What is left to show of `write_lines`.
use Rattle.std.proofs.Common.{refl, ap, ◌∙◌}
use Rattle.proof_trim.specs.Lines.{text_from}
use Rattle.proof_trim.specs.Numbers.{has}
use Rattle.proof_trim.specs.Trimmed.{is_there}
use Rattle.proof_trim.specs.declared.place.Place.TheVariants.{Between}
use Rattle.proof_trim.proofs.Emitting.{one_shorter, puts_behind, spells_all, spells_none, spells_put, written_cut}
use Rattle.proof_trim.proofs.lines.write_lines.Goals as goal

pub steps-init : goal.steps-init
steps-init g c = record {
  spells = spells_none (g.S.Sink.channel c.args.sink.now) _ _ c.new-held.ensures;
  beside = refl;
}

pub steps-preserved : goal.steps-preserved
steps-preserved g c = record {
  spells = spells_put (puts_behind c.steps.invariant.spells
      (ap (text_from (is_there c.args.count (has c.args.numbers.now)) Between) c.in-Some.ensures.some)
      c.in_ok-emit_step-in-Some.ensures.puts);
  beside = c.in_ok-emit_step-in-Some.ensures.beside ∙ c.steps.invariant.beside;
}

pub steps-smaller : goal.steps-smaller
steps-smaller g c = one_shorter c.in-Some.kind c.steps.row c.pop.new.self c.emit_step.new.row c.in-Some.ensures.some
    c.in_ok-emit_step-in-Some.ensures.shorter

pub returns-in_err-emit_step-in-Some-clause-writes : goal.returns-in_err-emit_step-in-Some-clause-writes
returns-in_err-emit_step-in-Some-clause-writes g c =
    written_cut (puts_behind c.steps.invariant.spells
    (ap (text_from (is_there c.args.count (has c.args.numbers.now)) Between) c.in-Some.ensures.some)
    c.in_err-emit_step-in-Some.ensures.puts) refl c.from_residual.ensures.0

pub returns-in-None-clause-writes : goal.returns-in-None-clause-writes
returns-in-None-clause-writes g c =
    spells_all c.steps.invariant.spells
    (ap (text_from (is_there c.args.count (has c.args.numbers.now)) Between) c.in-None.ensures.none) c.as_slice.ensures
    c.write_all.ensures.writes
