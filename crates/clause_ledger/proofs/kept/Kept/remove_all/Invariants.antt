-- What the loops of `Kept::remove_all` keep.
use Rattle.std.proofs.Common.{◌≡◌, take}
use Rattle.lrat_rules.specs.State.{State, without_clauses}
use Rattle.clause_ledger.specs.Kept.{AreKept}
use Rattle.clause_ledger.proofs.kept.Kept.remove_all.Given as goal

abbrev pub invariant-loop-id : goal.invariant-loop-id
invariant-loop-id l = record {
  kept : (state : State) → AreKept state l.initial.self
      → AreKept (record { live = without_clauses state.live (take l.id-index l.ids); top = state.top }) l.self;
  room : l.self.room ≡ l.initial.self.room;
}
