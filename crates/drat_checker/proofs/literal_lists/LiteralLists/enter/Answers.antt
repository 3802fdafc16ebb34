-- The number enters the list of a far literal, or that of a near one, which has its place then.
use Rattle.std.proofs.Common.{refl, ap, ◌∙◌}
use Rattle.drat_checker.specs.declared.literal_lists.LiteralLists.{LiteralLists}
use Rattle.drat_checker.specs.Numbers.{has_number}
use Rattle.drat_checker.proofs.Lifts.{on-ok}
use Rattle.drat_checker.proofs.Placed.{far-own, keeps-far, keeps-grown, keeps-near, near-changed}
use Rattle.drat_checker.proofs.literal_lists.LiteralLists.enter.Goals as goal

pub returns-then-key-ge-NEAR_PLACES-clause-kept : goal.returns-then-key-ge-NEAR_PLACES-clause-kept
returns-then-key-ge-NEAR_PLACES-clause-kept c =
    keeps-far c.args.self.now (record { near = c.args.self.now.near; far = c.enter.new.self }) refl c.enter.ensures.kept

pub returns-then-key-ge-NEAR_PLACES-clause-entered : goal.returns-then-key-ge-NEAR_PLACES-clause-entered
returns-then-key-ge-NEAR_PLACES-clause-entered c =
    let new : LiteralLists = record { near = c.args.self.now.near; far = c.enter.new.self } in
    on-ok c.enter.result
    (λ h. ap (has_number c.args.number) (far-own new c.args.literal c.key_of-key.result c.key_of-key.ensures.key
    c.if-key-ge-NEAR_PLACES.true) ∙ h)
    c.enter.ensures.entered

pub returns-in_err-reach-clause-kept : goal.returns-in_err-reach-clause-kept
returns-in_err-reach-clause-kept c =
    keeps-grown c.args.self.now (record { near = c.reach.new.near; far = c.args.self.now.far }) c.reach.ensures.same refl

pub returns-clause-kept : goal.returns-clause-kept
returns-clause-kept c =
    keeps-near c.args.self.now _ c.reach.new.near.items c.args.literal c.key_of-key.result c.push.new.self c.key_of-key.ensures.key
    c.if-key-ge-NEAR_PLACES.false c.in_ok-reach.ensures.ok c.reach.ensures.same refl refl c.index_mut.result.now c.index_mut.ensures.value
    c.push.ensures.kept

pub returns-clause-entered : goal.returns-clause-entered
returns-clause-entered c =
    on-ok c.push.result
    (λ h.
    ap (has_number c.args.number)
    (near-changed c.args.self.now _ c.reach.new.near.items c.args.literal c.key_of-key.result c.push.new.self c.key_of-key.ensures.key
    c.if-key-ge-NEAR_PLACES.false c.in_ok-reach.ensures.ok c.reach.ensures.same refl refl) ∙ h)
    c.push.ensures.entered
