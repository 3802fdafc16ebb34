-- What the loops of `emit_literals` keep.
use Rattle.std.proofs.Common.{◌≡◌, take, Ok}
use Rattle.std.specs.List.{flat_map}
use Rattle.drat_text.specs.LineText.{literal_text}
use Rattle.fresh_names.specs.Fresh.{named}
use Rattle.fresh_names.specs.Renaming.{name_of}
use Rattle.host_io.specs.Emitted.{Emits}
use Rattle.drat_proof.proofs.line.emit_literals.Given as goal

abbrev pub invariant-loop-literal : goal.invariant-loop-literal
invariant-loop-literal g l =
    Emits g.S.Sink.tells (g.S.Sink.channel l.fn.sink) (g.S.Sink.channel l.sink) l.fn.held.items l.held.items
    (flat_map (λ x. literal_text (named (name_of l.renaming) x)) (take l.literal-index l.clause)) (Ok tt)
    × (g.S.Sink.beside l.sink ≡ g.S.Sink.beside l.fn.sink)
