-- Turn by turn, by the laws of a bounded cache that is purged.
use Rattle.std.proofs.Common.{◌<◌, length, arith}
use Rattle.operations.proofs.computed.ResultsPurge.purge.Goals as goal

pub turns-init : goal.turns-init
turns-init g c = record {
  few = omega arith;
  cache = c.cache_turn_law.ensures.begins g.C.Computed.entry_of c.args.marks.now c.args.self.now.results;
  table = c.table_turn_law.ensures.begins g.C.Computed.entry_of c.args.marks.now c.args.table.now c.args.self.now.results c.requires.sound;
}

pub turn-requires-clause-may : goal.turn-requires-clause-may
turn-requires-clause-may g c last is =
    let within : c.turns.counter < length c.args.self.now.results.entries = omega (arith, c.turns-test.true, c.len-end.ensures.number) in
    c.table_turn_law.ensures.may g.C.Computed.entry_of c.args.marks.now c.args.table.now c.turns.table c.args.self.now.results
    c.turns.self.results c.turns.counter last
    c.key_law.ensures c.len-end.ensures.bounded within c.requires.fits c.turns.invariant.cache c.turns.invariant.table is

pub turns-preserved : goal.turns-preserved
turns-preserved g c =
    let within : c.turns.counter < length c.args.self.now.results.entries = omega (arith, c.turns-test.true, c.len-end.ensures.number) in
    record {
      few = omega (arith, within);
      cache = c.cache_turn_law.ensures.turn g.C.Computed.entry_of c.args.marks.now c.args.self.now.results c.turns.self.results
          c.turn.new.self.results c.turns.counter
          c.len-end.ensures.bounded within c.turns.invariant.cache c.turn.ensures.cache;
      table = c.table_turn_law.ensures.turn g.C.Computed.entry_of c.args.marks.now c.args.table.now c.turns.table c.turn.new.table
          c.args.self.now.results c.turns.self.results c.turns.counter
          c.key_law.ensures c.len-end.ensures.bounded within c.requires.fits c.turns.invariant.cache c.turns.invariant.table
          c.turn.ensures.table;
    }
