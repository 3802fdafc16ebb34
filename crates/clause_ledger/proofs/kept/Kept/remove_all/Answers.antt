-- What is left to show of `Kept::remove_all`.
use Rattle.std.proofs.Common.{List, ℕ, take, sym, ◌∙◌, subst}
use Rattle.std.proofs.lemmas.List.{take_all}
use Rattle.lrat_rules.specs.State.{Live, without_clauses}
use Rattle.clause_ledger.specs.Kept.{AreKept}
use Rattle.clause_ledger.proofs.Deleted.{without_more}
use Rattle.clause_ledger.proofs.kept.Kept.remove_all.Goals as goal

pub loop-id-preserved : goal.loop-id-preserved
loop-id-preserved c = record {
  kept = λ state are.
      let ids = c.args.ids.now in
      let more = without_more state.live ids c.loop-id.id-index c.id-item.result c.loop-id-test.true c.id-item.is in
      subst (λ (live : Live). AreKept (record { live = live; top = state.top }) c.remove.new.self) (sym more)
      (c.remove.ensures.kept (record { live = without_clauses state.live (take c.loop-id.id-index ids); top = state.top })
      (c.loop-id.invariant.kept state are));
  room = c.remove.ensures.room ∙ c.loop-id.invariant.room;
}

pub returns-clause-kept : goal.returns-clause-kept
returns-clause-kept c state are =
    subst (λ (ids : List ℕ). AreKept (record { live = without_clauses state.live ids; top = state.top }) c.loop-id.self)
    (take_all c.loop-id.id-index c.args.ids.now c.loop-id-test.false) (c.loop-id.invariant.kept state are)
