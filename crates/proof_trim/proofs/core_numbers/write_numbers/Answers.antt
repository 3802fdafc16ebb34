-- What is left to show of `write_numbers`.
use Rattle.std.proofs.Common.{refl, ap, ◌∙◌}
use Rattle.proof_trim.specs.Core.{core_text}
use Rattle.proof_trim.proofs.Emitting.{spells_all, spells_fail, spells_none, spells_on}
use Rattle.proof_trim.proofs.core_numbers.write_numbers.Goals as goal

pub numbers-init : goal.numbers-init
numbers-init g c = record {
  spells = spells_none (g.S.Sink.channel c.args.sink.now) _ _ c.new-held.ensures;
  beside = refl;
}

pub numbers-preserved : goal.numbers-preserved
numbers-preserved g c = record {
  spells = spells_on c.numbers.invariant.spells (ap core_text c.in-Some.ensures.some) c.in_ok-emit_line-in-Some.ensures.emits;
  beside = c.in_ok-emit_line-in-Some.ensures.beside ∙ c.numbers.invariant.beside;
}

pub returns-in_err-emit_line-in-Some-clause-writes : goal.returns-in_err-emit_line-in-Some-clause-writes
returns-in_err-emit_line-in-Some-clause-writes g c =
    spells_fail c.numbers.invariant.spells _ (ap core_text c.in-Some.ensures.some) c.in_err-emit_line-in-Some.ensures.emits refl
    c.from_residual.ensures.0

pub returns-in-None-clause-writes : goal.returns-in-None-clause-writes
returns-in-None-clause-writes g c = spells_all c.numbers.invariant.spells (ap core_text c.in-None.ensures.none) c.as_slice.ensures.value
    c.write_all.ensures.writes
