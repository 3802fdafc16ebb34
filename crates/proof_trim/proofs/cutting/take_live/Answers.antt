-- What is left to show of `take_live`.
use Rattle.std.proofs.Common.{◌+◌, drop, ap, ◌∙◌, sym}
use Rattle.std.proofs.lemmas.List.{drop_all}
use Rattle.lrat_rules.specs.State.{State, without_clauses}
use Rattle.proof_trim.specs.Trimmed.{live_ids}
use Rattle.proof_trim.proofs.Taking.{turn_of, live_on, left_on, live_all}
use Rattle.proof_trim.proofs.cutting.take_live.Goals as goal

pub loop-id-preserved : goal.loop-id-preserved
loop-id-preserved c =
    let ids = c.args.ids.now in
    let i = c.loop-id.id-index in
    let id = c.id-item.result in
    let turn = turn_of ids i id id c.loop-id-test.true c.id-item.is in
    let removed = ap (λ (s : State). s.live) c.in_ok-take_one.ensures.taken in
    record {
      live = live_on c.loop-id.list c.take_one.new.list c.loop-id.judge.live c.take_one.new.judge.live id (drop i ids) (drop (i + 1) ids)
          (live_ids c.args.judge.now.live ids) c.loop-id.invariant.live turn c.in_ok-take_one.ensures.live removed;
      left = left_on c.loop-id.judge.live c.take_one.new.judge.live (without_clauses c.args.judge.now.live ids) id (drop i ids)
          (drop (i + 1) ids) c.loop-id.invariant.left turn removed;
      top = ap (λ (s : State). s.top) c.in_ok-take_one.ensures.taken ∙ c.loop-id.invariant.top;
    }

pub returns-clause-live : goal.returns-clause-live
returns-clause-live c =
    live_all c.loop-id.list c.loop-id.judge.live c.loop-id.id-index c.args.ids.now (live_ids c.args.judge.now.live c.args.ids.now)
    c.loop-id.invariant.live (drop_all c.loop-id.id-index c.args.ids.now c.loop-id-test.false)

pub returns-clause-taken : goal.returns-clause-taken
returns-clause-taken c =
    let left = sym (ap (without_clauses c.loop-id.judge.live) (drop_all c.loop-id.id-index c.args.ids.now c.loop-id-test.false))
    ∙ c.loop-id.invariant.left in
    λ i. record { live = left i; top = c.loop-id.invariant.top i }
