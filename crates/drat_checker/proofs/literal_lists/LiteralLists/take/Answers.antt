-- The list of a far literal, a near one that has no place, and one that has.
use Rattle.std.proofs.Common.{◌<◌, ◌≤◌, [], length, refl, sym, ◌∙◌, arith}
use Rattle.std.proofs.lemmas.List.{get_or_past, get_or_read}
use Rattle.drat_checker.proofs.Placed.{far-own, far-others, near-own, near-others}
use Rattle.drat_checker.proofs.literal_lists.LiteralLists.take.Goals as goal

pub returns-then-key-ge-NEAR_PLACES-clause-list : goal.returns-then-key-ge-NEAR_PLACES-clause-list
returns-then-key-ge-NEAR_PLACES-clause-list c =
    c.take.ensures.list
    ∙ sym (far-own c.args.self.now c.args.literal c.key_of-key.result c.key_of-key.ensures.key c.if-key-ge-NEAR_PLACES.true)

pub returns-then-key-ge-NEAR_PLACES-clause-others : goal.returns-then-key-ge-NEAR_PLACES-clause-others
returns-then-key-ge-NEAR_PLACES-clause-others c =
    far-others c.args.self.now (record { near = c.args.self.now.near; far = c.take.new.self }) refl c.args.literal c.key_of-key.result
    c.key_of-key.ensures.key c.take.ensures.others

pub returns-then-len-key-clause-list : goal.returns-then-len-key-clause-list
returns-then-len-key-clause-list c =
    let past : length c.args.self.now.near.items ≤ c.key_of-key.result =
    omega (arith, c.if-len-key.true, c.len.ensures, c.args.self.now.near.ok.0) in
    c.new.ensures
    ∙ sym (near-own c.args.self.now c.args.literal c.key_of-key.result c.key_of-key.ensures.key c.if-key-ge-NEAR_PLACES.false
    ∙ get_or_past c.args.self.now.near.items c.key_of-key.result [] past)

pub returns-clause-list : goal.returns-clause-list
returns-clause-list c =
    let near = c.args.self.now.near.items in
    let there : c.key_of-key.result < length near = omega (arith, c.if-len-key.false, c.len.ensures, c.args.self.now.near.ok.0) in
    c.replace.ensures.value
    ∙ get_or_read near c.key_of-key.result c.index_mut.result.now there c.index_mut.ensures.value []
    ∙ sym (near-own c.args.self.now c.args.literal c.key_of-key.result c.key_of-key.ensures.key c.if-key-ge-NEAR_PLACES.false)

pub returns-clause-others : goal.returns-clause-others
returns-clause-others c =
    let near = c.args.self.now.near.items in
    let there : c.key_of-key.result < length near = omega (arith, c.if-len-key.false, c.len.ensures, c.args.self.now.near.ok.0) in
    near-others c.args.self.now _ near c.args.literal c.key_of-key.result _ c.key_of-key.ensures.key
    c.if-key-ge-NEAR_PLACES.false there (λ k. refl) refl refl
