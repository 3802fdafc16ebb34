-- Each turn begins with a call that is to be asked, or an answer for the frames; the frames know what follows from it. Each frame
-- has fewer levels left than the one below.
use Rattle.std.proofs.Common.{◌+◌, reverse}
use Rattle.node_table.specs.Diagram.{levels}
use Rattle.operations.proofs.OpenCalls.{GoesOn, turns_next, turns_of}
use Rattle.operations.proofs.machine.work_off.Given as goal

abbrev pub invariant-calls : goal.invariant-calls
invariant-calls g l = GoesOn g.O.Operation.calls (g.O.Operation.calls.ends l.fn.table l.fn.cache l.fn.question)
    (reverse l.frames.items) l.table l.cache l.turn

abbrev pub decreases-calls : goal.decreases-calls
decreases-calls g l = turns_of g.O.Operation.calls (levels l.table.graph) (reverse l.frames.items)
    + turns_next g.O.Operation.calls l.table l.turn
