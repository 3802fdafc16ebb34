-- A far literal gets the list, or a near one, which has its place then.
use Rattle.std.proofs.Common.{refl, ◌∙◌}
use Rattle.drat_checker.specs.declared.literal_lists.LiteralLists.{LiteralLists}
use Rattle.drat_checker.proofs.Lifts.{on-ok}
use Rattle.drat_checker.proofs.Placed.{far-own, far-others, near-changed, near-others}
use Rattle.drat_checker.proofs.literal_lists.LiteralLists.give.Goals as goal

pub returns-then-key-ge-NEAR_PLACES-clause-list : goal.returns-then-key-ge-NEAR_PLACES-clause-list
returns-then-key-ge-NEAR_PLACES-clause-list c =
    let new : LiteralLists = record { near = c.args.self.now.near; far = c.give.new.self } in
    on-ok c.give.result
    (λ h. far-own new c.args.literal c.key_of-key.result c.key_of-key.ensures.key c.if-key-ge-NEAR_PLACES.true ∙ h) c.give.ensures.list

pub returns-then-key-ge-NEAR_PLACES-clause-others : goal.returns-then-key-ge-NEAR_PLACES-clause-others
returns-then-key-ge-NEAR_PLACES-clause-others c =
    let new : LiteralLists = record { near = c.args.self.now.near; far = c.give.new.self } in
    on-ok c.give.result (λ h. far-others c.args.self.now new refl c.args.literal c.key_of-key.result c.key_of-key.ensures.key h)
    c.give.ensures.others

pub returns-clause-list : goal.returns-clause-list
returns-clause-list c =
    near-changed c.args.self.now _ c.reach.new.near.items c.args.literal c.key_of-key.result _ c.key_of-key.ensures.key
    c.if-key-ge-NEAR_PLACES.false c.in_ok-reach.ensures.ok c.reach.ensures.same refl refl

pub returns-clause-others : goal.returns-clause-others
returns-clause-others c =
    near-others c.args.self.now _ c.reach.new.near.items c.args.literal c.key_of-key.result _ c.key_of-key.ensures.key
    c.if-key-ge-NEAR_PLACES.false c.in_ok-reach.ensures.ok c.reach.ensures.same refl refl
