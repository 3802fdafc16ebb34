-- What the loops of `delete_all` keep.
use Rattle.std.proofs.Common.{◌≡◌, drop}
use Rattle.drat_proof.specs.Naming.{names_ahead}
use Rattle.drat_proof.proofs.Taking.{Deletes}
use Rattle.drat_proof.proofs.take.delete_all.Given as goal

abbrev pub invariant-loop-id : goal.invariant-loop-id
invariant-loop-id g l = record {
  deletes : Deletes g.S.Sink.tells (g.S.Sink.channel l.fn.sink) (g.S.Sink.channel l.sink) l.fn.judge.live (names_ahead l.fn.naming) l.ids
      l.judge.live (names_ahead l.naming) (drop l.id-index l.ids);
  top : l.judge.top ≡ l.fn.judge.top;
  beside : g.S.Sink.beside l.sink ≡ g.S.Sink.beside l.fn.sink;
}
