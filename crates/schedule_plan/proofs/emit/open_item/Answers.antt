-- What is left to show of `open_item`.
use Rattle.std.proofs.Common.{ℕ, suc, ◌≡◌, ◌+◌, ◌-◌, ◌<◌, ◌≤◌, List, All, length, ap, sym, ◌∙◌, subst, arith, add-one}
use Rattle.std.specs.Prelude.{slice_index_or}
use Rattle.std.proofs.lemmas.List.Elements.{All-push}
use Rattle.schedule_plan.specs.declared.plan.Move.TheVariants.{Push, Exists}
use Rattle.schedule_plan.specs.Forest.{IsItem, moves_of_item}
use Rattle.schedule_plan.proofs.Linked.{last_read, clause_moves, result_moves, no_result, pushed, opened}
use Rattle.schedule_plan.proofs.emit.open_item.Goals as goal

pub returns-in_ok-push-clause-moves : goal.returns-in_ok-push-clause-moves
returns-in_ok-push-clause-moves c =
    let own = clause_moves c.args.formula.now c.args.order.now c.args.item (omega (arith, c.if-item-clauses.true, c.len-clauses.ensures)) in
    rw (c.in_ok-push.ensures.items, add-one)
    (pushed c.args.formula.now c.args.order.now c.args.work.now.items c.args.moves.now.items c.args.item (Push (suc c.args.item)) own)

-- the place of the item's bucket
place_is : (clauses item result : ℕ) → result ≡ clauses → result ≤ item → item ≡ clauses + (item - result)
place_is clauses item result same late = omega (arith, same, late)

pub returns-in_ok-push-3-clause-moves : goal.returns-in_ok-push-3-clause-moves
returns-in_ok-push-3-clause-moves c =
    let place = c.args.item - c.len-clauses.result in
    let small : place < length c.args.order.now = omega (arith, c.requires.item.small, c.len-clauses.ensures, c.if-item-clauses.false) in
    let is = last_read c.args.formula.now c.args.order.now c.args.links.now place c.index.result.now c.requires.links
    (omega (arith, small)) c.index.ensures ∙ c.in-Some.is in
    let same = place_is (length c.args.formula.now.clauses) c.args.item c.len-clauses.result c.len-clauses.ensures c.if-item-clauses.false
    in
    let own = result_moves c.args.formula.now c.args.order.now c.requires.links.buckets place c.in-Some.last c.requires.links.right small is
    (subst (IsItem c.args.formula.now c.args.order.now) same c.requires.item) in
    rw (c.in_ok-push-2.ensures.items, c.in_ok-push-3.ensures.items, c.as_slice-variables.ensures.value)
    (opened c.args.formula.now c.args.order.now c.args.work.now.items c.args.moves.now.items c.args.item c.in-Some.last
    (Exists (slice_index_or c.args.order.now place 0))
    (ap (moves_of_item c.args.formula.now c.args.order.now) same ∙ own.1))

pub returns-in_ok-push-3-clause-items : goal.returns-in_ok-push-3-clause-items
returns-in_ok-push-3-clause-items c =
    let place = c.args.item - c.len-clauses.result in
    let small : place < length c.args.order.now = omega (arith, c.requires.item.small, c.len-clauses.ensures, c.if-item-clauses.false) in
    let is = last_read c.args.formula.now c.args.order.now c.args.links.now place c.index.result.now c.requires.links
    (omega (arith, small)) c.index.ensures ∙ c.in-Some.is in
    let own = result_moves c.args.formula.now c.args.order.now c.requires.links.buckets place c.in-Some.last c.requires.links.right small is
    (subst (IsItem c.args.formula.now c.args.order.now) (place_is
    (length c.args.formula.now.clauses) c.args.item c.len-clauses.result c.len-clauses.ensures c.if-item-clauses.false) c.requires.item)
    in
    subst (λ (work : List ℕ). All (IsItem c.args.formula.now c.args.order.now) work) (sym c.in_ok-push-3.ensures.items)
    (All-push (IsItem c.args.formula.now c.args.order.now) c.args.work.now.items c.in-Some.last c.requires.items own.0)

pub returns-in_default-clause-moves : goal.returns-in_default-clause-moves
returns-in_default-clause-moves c =
    let place = c.args.item - c.len-clauses.result in
    let small : place < length c.args.order.now = omega (arith, c.requires.item.small, c.len-clauses.ensures, c.if-item-clauses.false) in
    let is = last_read c.args.formula.now c.args.order.now c.args.links.now place c.index.result.now c.requires.links
    (omega (arith, small)) c.index.ensures ∙ c.in_default.is in
    absurd (no_result c.args.formula.now c.args.order.now c.requires.links.buckets place c.requires.links.right small is
    (subst (IsItem c.args.formula.now c.args.order.now) (place_is
    (length c.args.formula.now.clauses) c.args.item c.len-clauses.result c.len-clauses.ensures c.if-item-clauses.false)
    c.requires.item))
