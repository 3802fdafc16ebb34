-- What is left to show of `emit_addition`.
use Rattle.std.proofs.Common.{◌++◌, refl}
use Rattle.std.specs.Prelude.{decimal}
use Rattle.proof_trim.specs.Lines.{text_from}
use Rattle.proof_trim.specs.declared.place.Place.TheVariants.{Clause}
use Rattle.proof_trim.proofs.Emitting.{puts_behind, puts_cut, puts_fail, spells_begun, spells_on, spells_put}
use Rattle.proof_trim.proofs.lines.emit_addition.Goals as goal

pub returns-in_err-emit_part-clause-puts : goal.returns-in_err-emit_part-clause-puts
returns-in_err-emit_part-clause-puts g c = λ there.
    puts_cut (spells_begun (g.S.Sink.channel c.args.sink.now) c.args.held.now (decimal c.args.id ++ text_from there Clause c.args.row.now))
    (text_from there Clause c.args.row.now) refl c.in_err-emit_part.ensures.emits refl c.from_residual.ensures.0

pub returns-in_err-emit_codes-clause-puts : goal.returns-in_err-emit_codes-clause-puts
returns-in_err-emit_codes-clause-puts g c = λ there.
    puts_fail (puts_behind (spells_on
    (spells_begun (g.S.Sink.channel c.args.sink.now) c.args.held.now (decimal c.args.id ++ text_from there Clause c.args.row.now))
    refl c.in_ok-emit_part.ensures.emits) refl (c.in_err-emit_codes.ensures.puts there)) refl c.from_residual-in_err-emit_codes.ensures.0

pub returns-clause-puts : goal.returns-clause-puts
returns-clause-puts g c = λ there.
    puts_behind (spells_put (puts_behind (spells_on
    (spells_begun (g.S.Sink.channel c.args.sink.now) c.args.held.now (decimal c.args.id ++ text_from there Clause c.args.row.now))
    refl c.in_ok-emit_part.ensures.emits) refl (c.in_ok-emit_codes.ensures.puts there))) refl (c.emit_codes-2.ensures.puts there)
