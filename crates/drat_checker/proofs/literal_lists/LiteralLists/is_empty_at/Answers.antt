-- A near literal that has no place has no list.
use Rattle.std.proofs.Common.{◌≤◌, [], length, ◌∙◌, arith}
use Rattle.std.proofs.lemmas.List.{get_or_past}
use Rattle.drat_checker.proofs.Placed.{near-own}
use Rattle.drat_checker.proofs.literal_lists.LiteralLists.is_empty_at.Goals as goal

pub returns-then-len-key : goal.returns-then-len-key
returns-then-len-key c = λ _.
    let past : length c.args.self.now.near.items ≤ c.key_of-key.result =
    omega (arith, c.if-len-key.true, c.len.ensures, c.args.self.now.near.ok.0) in
    near-own c.args.self.now c.args.literal c.key_of-key.result c.key_of-key.ensures.key c.if-key-ge-NEAR_PLACES.false
    ∙ get_or_past c.args.self.now.near.items c.key_of-key.result [] past
