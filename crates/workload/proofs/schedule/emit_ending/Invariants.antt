-- What the loops of `emit_ending` keep.
use Rattle.std.proofs.Common.{◌≡◌, ◌-◌, ◌++◌, Ok}
use Rattle.std.specs.Prelude.{map}
use Rattle.cnf_base.specs.Order.{natural}
use Rattle.workload.specs.declared.square.Domino.TheVariants.{Across, Down}
use Rattle.workload.specs.Board.{square}
use Rattle.host_io.specs.Emitted.{Emits}
use Rattle.workload.proofs.Endings.{written}
use Rattle.workload.proofs.schedule.emit_ending.Given as goal

abbrev pub invariant-loop-row : goal.invariant-loop-row
invariant-loop-row g l =
    Emits g.S.Sink.tells (g.S.Sink.channel l.fn.sink) (g.S.Sink.channel l.sink) l.fn.held.items l.held.items
    (written l.n (map (λ row. Across (square row (l.column - 1))) (natural (l.row - 1)))) (Ok tt)
    × (g.S.Sink.beside l.sink ≡ g.S.Sink.beside l.fn.sink)

abbrev pub invariant-loop-row-2 : goal.invariant-loop-row-2
invariant-loop-row-2 g l =
    Emits g.S.Sink.tells (g.S.Sink.channel l.fn.sink) (g.S.Sink.channel l.sink) l.fn.held.items l.held.items
    (written l.n (map (λ row. Across (square row (l.column - 1))) (natural l.n))
    ++ written l.n (map (λ row. Down (square row l.column)) (natural (l.row - 1)))) (Ok tt)
    × (g.S.Sink.beside l.sink ≡ g.S.Sink.beside l.fn.sink)
