-- What the loops of `emit_following` keep.
use Rattle.std.proofs.Common.{◌≡◌, ◌-◌, Ok}
use Rattle.std.specs.List.{flat_map}
use Rattle.workload.specs.Schedule.{following}
use Rattle.workload.specs.Texts.{spaced}
use Rattle.host_io.specs.Emitted.{Emits}
use Rattle.workload.proofs.schedule.emit_following.Given as goal

abbrev pub invariant-loop-clause : goal.invariant-loop-clause
invariant-loop-clause g l =
    Emits g.S.Sink.tells (g.S.Sink.channel l.fn.sink) (g.S.Sink.channel l.sink) l.fn.held.items l.held.items
    (flat_map spaced (following l.start (l.clause - l.start))) (Ok tt)
    × (g.S.Sink.beside l.sink ≡ g.S.Sink.beside l.fn.sink)
