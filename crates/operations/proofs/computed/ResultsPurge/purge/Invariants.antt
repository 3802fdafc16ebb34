-- What the loops of `ResultsPurge::purge` keep.
use Rattle.std.proofs.Common.{◌≤◌, length}
use Rattle.operations.specs.Turns.{HadTurns, HaveRetired}
use Rattle.operations.proofs.computed.ResultsPurge.purge.Given as goal

abbrev pub invariant-turns : goal.invariant-turns
invariant-turns g l = record {
  few : l.counter ≤ length l.fn.self.results.entries;
  cache : HadTurns g.C.Computed.entry_of l.marks l.fn.self.results l.self.results l.counter;
  table : HaveRetired g.C.Computed.entry_of l.marks l.fn.table l.table l.fn.self.results l.counter;
}
