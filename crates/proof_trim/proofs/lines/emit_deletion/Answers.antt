-- What is left to show of `emit_deletion`.
use Rattle.std.proofs.Common.{Bool, false, ◌++◌, refl, sym, ap, ◌∙◌, arith}
use Rattle.proof_trim.specs.Lines.{part_at, text_from}
use Rattle.proof_trim.specs.Numbers.{has}
use Rattle.proof_trim.specs.Trimmed.{is_there}
use Rattle.proof_trim.specs.declared.place.Place.TheVariants.{Between, Deleted}
use Rattle.proof_trim.proofs.Emitting.{deleted_last, deleted_on, deleted_put, none_left, one_shorter, puts_all, puts_cut, spells_begun}
use Rattle.proof_trim.proofs.Emitting.{spells_on}
use Rattle.proof_trim.proofs.lines.emit_deletion.Goals as goal

pub numbers-init : goal.numbers-init
numbers-init g c = record {
  spells = spells_begun (g.S.Sink.channel c.args.sink.now) c.args.held.now
      (text_from (is_there c.args.count (has c.args.numbers.now)) (Deleted c.args.id false) c.args.row.now);
  beside = refl;
  shorter = omega arith;
}

pub numbers-preserved : goal.numbers-preserved
numbers-preserved g c =
    let there = is_there c.args.count (has c.args.numbers.now) in record {
      spells = spells_on c.numbers.invariant.spells
          (deleted_on there c.args.id c.numbers.begun c.in-Some.code c.numbers.row c.pop.new.self c.is_there-is_there.result
          c.in-Some.ensures.some (c.is_there-is_there.ensures ∙ ap there c.number_of.ensures) c.if-code-eq0.false
          ∙ ap (λ (b : Bool). part_at (Deleted c.args.id c.numbers.begun) c.in-Some.code c.is_there-is_there.result
          ++ text_from there (Deleted c.args.id b) c.pop.new.self) (sym c.is_begun-begun.ensures))
          c.in_ok-emit_part-in-Some.ensures.emits;
      beside = c.in_ok-emit_part-in-Some.ensures.beside ∙ c.numbers.invariant.beside;
      shorter = omega (
        arith,
        c.numbers.invariant.shorter,
        one_shorter c.in-Some.code c.numbers.row c.pop.new.self c.pop.new.self c.in-Some.ensures.some (omega arith),
      );
    }

pub numbers-smaller : goal.numbers-smaller
numbers-smaller g c = one_shorter c.in-Some.code c.numbers.row c.pop.new.self c.pop.new.self c.in-Some.ensures.some (omega arith)

pub returns-in_err-emit_part-in-Some-clause-puts : goal.returns-in_err-emit_part-in-Some-clause-puts
returns-in_err-emit_part-in-Some-clause-puts g c =
    let there = is_there c.args.count (has c.args.numbers.now) in
    puts_cut c.numbers.invariant.spells _
    (deleted_put there c.args.id c.numbers.begun c.in-Some.code c.numbers.row c.pop.new.self c.is_there-is_there.result
    c.in-Some.ensures.some (c.is_there-is_there.ensures ∙ ap there c.number_of.ensures)) c.in_err-emit_part-in-Some.ensures.emits refl c.from_residual.ensures.0

pub returns-in_err-emit_part-in-Some-clause-shorter : goal.returns-in_err-emit_part-in-Some-clause-shorter
returns-in_err-emit_part-in-Some-clause-shorter g c = omega (
  arith,
  c.numbers.invariant.shorter,
  one_shorter c.in-Some.code c.numbers.row c.pop.new.self c.pop.new.self c.in-Some.ensures.some (omega arith),
)

pub returns-then-code-eq0-clause-puts : goal.returns-then-code-eq0-clause-puts
returns-then-code-eq0-clause-puts g c =
    let there = is_there c.args.count (has c.args.numbers.now) in
    puts_all (spells_on c.numbers.invariant.spells
    (deleted_last there c.args.id c.numbers.begun c.in-Some.code c.numbers.row c.pop.new.self c.is_there-is_there.result
    c.in-Some.ensures.some (c.is_there-is_there.ensures ∙ ap there c.number_of.ensures) c.if-code-eq0.true) c.in_ok-emit_part-in-Some.ensures.emits) refl

pub returns-then-code-eq0-clause-shorter : goal.returns-then-code-eq0-clause-shorter
returns-then-code-eq0-clause-shorter g c = omega (
  arith,
  c.numbers.invariant.shorter,
  one_shorter c.in-Some.code c.numbers.row c.pop.new.self c.pop.new.self c.in-Some.ensures.some (omega arith),
)

pub returns-in-None-clause-puts : goal.returns-in-None-clause-puts
returns-in-None-clause-puts g c =
    let there = is_there c.args.count (has c.args.numbers.now) in
    puts_all c.numbers.invariant.spells
    (none_left there (Deleted c.args.id c.numbers.begun) Between c.numbers.row c.pop.new.self c.in-None.ensures.none
    c.in-None.ensures.left)
