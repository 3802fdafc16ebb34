-- What is left to show of `delete_all`.
use Rattle.std.proofs.Common.{◌+◌, drop, refl, ap, ◌∙◌}
use Rattle.std.proofs.lemmas.List.{drop_all}
use Rattle.lrat_rules.specs.State.{State}
use Rattle.drat_proof.proofs.Taking.{deletes_none, deletes_on, deletes_fail, deletes_all, all_removed, all_named, turn_of}
use Rattle.drat_proof.proofs.take.delete_all.Goals as goal

pub loop-id-init : goal.loop-id-init
loop-id-init g c = record { deletes = deletes_none _ _ _ _ _; top = refl; beside = refl }

pub returns-in_err-delete_one-clause-writes : goal.returns-in_err-delete_one-clause-writes
returns-in_err-delete_one-clause-writes g c =
    deletes_fail c.id-item.result (drop (c.loop-id.id-index + 1) c.args.ids.now) c.in_err-delete_one.field-0.0 c.loop-id.invariant.deletes
    (turn_of c.args.ids.now c.loop-id.id-index c.id-item.result c.loop-id-test.true c.id-item.is)
    c.in_err-delete_one.ensures.writes c.from_residual.ensures.0

pub loop-id-preserved : goal.loop-id-preserved
loop-id-preserved g c = record {
  deletes = deletes_on c.id-item.result (drop (c.loop-id.id-index + 1) c.args.ids.now) c.loop-id.invariant.deletes
      (turn_of c.args.ids.now c.loop-id.id-index c.id-item.result c.loop-id-test.true c.id-item.is)
      c.in_ok-delete_one.ensures.writes c.in_ok-delete_one.ensures.named (ap (λ (s : State). s.live) c.in_ok-delete_one.ensures.removed);
  top = ap (λ (s : State). s.top) c.in_ok-delete_one.ensures.removed ∙ c.loop-id.invariant.top;
  beside = c.in_ok-delete_one.ensures.beside ∙ c.loop-id.invariant.beside;
}

pub returns-clause-writes : goal.returns-clause-writes
returns-clause-writes g c =
    deletes_all (drop c.loop-id.id-index c.args.ids.now) c.loop-id.invariant.deletes
    (drop_all c.loop-id.id-index c.args.ids.now c.loop-id-test.false)

pub returns-clause-removed : goal.returns-clause-removed
returns-clause-removed g c = λ i. record {
  live = all_removed (drop c.loop-id.id-index c.args.ids.now) c.loop-id.invariant.deletes
      (drop_all c.loop-id.id-index c.args.ids.now c.loop-id-test.false) i;
  top = c.loop-id.invariant.top i;
}

pub returns-clause-named : goal.returns-clause-named
returns-clause-named g c =
    all_named (drop c.loop-id.id-index c.args.ids.now) c.loop-id.invariant.deletes
    (drop_all c.loop-id.id-index c.args.ids.now c.loop-id-test.false)
