-- What is left to show of `emit_codes`.
use Rattle.std.proofs.Common.{refl, ◌∙◌, arith}
use Rattle.proof_trim.specs.Lines.{behind_codes_at, text_from}
use Rattle.proof_trim.proofs.Emitting.{code_last, code_on, code_put, none_left, one_shorter, puts_all, puts_cut, spells_begun, spells_on}
use Rattle.proof_trim.proofs.lines.emit_codes.Goals as goal

pub codes-init : goal.codes-init
codes-init g c = record {
  spells = λ there. spells_begun (g.S.Sink.channel c.args.sink.now) c.args.held.now (text_from there c.args.place c.args.row.now);
  beside = refl;
  shorter = omega arith;
}

pub codes-preserved : goal.codes-preserved
codes-preserved g c = record {
  spells = λ there. spells_on (c.codes.invariant.spells there)
      (code_on there c.args.place c.requires c.in-Some.code c.codes.row c.pop.new.self c.in-Some.ensures.some c.if-code-eq0.false)
      c.in_ok-emit_part-in-Some.ensures.emits;
  beside = c.in_ok-emit_part-in-Some.ensures.beside ∙ c.codes.invariant.beside;
  shorter = omega (
    arith,
    c.codes.invariant.shorter,
    one_shorter c.in-Some.code c.codes.row c.pop.new.self c.pop.new.self c.in-Some.ensures.some (omega arith),
  );
}

pub codes-smaller : goal.codes-smaller
codes-smaller g c = one_shorter c.in-Some.code c.codes.row c.pop.new.self c.pop.new.self c.in-Some.ensures.some (omega arith)

pub returns-in_err-emit_part-in-Some-clause-puts : goal.returns-in_err-emit_part-in-Some-clause-puts
returns-in_err-emit_part-in-Some-clause-puts g c = λ there.
    puts_cut (c.codes.invariant.spells there) _
    (code_put there c.args.place c.requires c.in-Some.code c.codes.row c.pop.new.self c.in-Some.ensures.some)
    c.in_err-emit_part-in-Some.ensures.emits refl c.from_residual.ensures.0

pub returns-in_err-emit_part-in-Some-clause-shorter : goal.returns-in_err-emit_part-in-Some-clause-shorter
returns-in_err-emit_part-in-Some-clause-shorter g c = omega (
  arith,
  c.codes.invariant.shorter,
  one_shorter c.in-Some.code c.codes.row c.pop.new.self c.pop.new.self c.in-Some.ensures.some (omega arith),
)

pub returns-then-code-eq0-clause-puts : goal.returns-then-code-eq0-clause-puts
returns-then-code-eq0-clause-puts g c = λ there.
    puts_all (spells_on (c.codes.invariant.spells there)
    (code_last there c.args.place c.requires c.in-Some.code c.codes.row c.pop.new.self c.in-Some.ensures.some c.if-code-eq0.true)
    c.in_ok-emit_part-in-Some.ensures.emits) refl

pub returns-then-code-eq0-clause-shorter : goal.returns-then-code-eq0-clause-shorter
returns-then-code-eq0-clause-shorter g c = omega (
  arith,
  c.codes.invariant.shorter,
  one_shorter c.in-Some.code c.codes.row c.pop.new.self c.pop.new.self c.in-Some.ensures.some (omega arith),
)

pub returns-in-None-clause-puts : goal.returns-in-None-clause-puts
returns-in-None-clause-puts g c = λ there.
    puts_all (c.codes.invariant.spells there)
    (none_left there c.args.place (behind_codes_at c.args.place) c.codes.row c.pop.new.self c.in-None.ensures.none c.in-None.ensures.left)
