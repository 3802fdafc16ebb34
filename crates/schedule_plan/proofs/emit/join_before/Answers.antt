-- What is left to show of `join_before`.
use Rattle.std.proofs.Common.{ℕ, List, All, ap, sym, ◌∙◌, ◌++◌, subst}
use Rattle.std.specs.Prelude.{reverse}
use Rattle.std.proofs.lemmas.List.Elements.{All-push}
use Rattle.schedule_plan.specs.Forest.{IsItem, moves_to_all}
use Rattle.schedule_plan.proofs.Linked.{before_read, first_moves, next_moves, joined}
use Rattle.schedule_plan.proofs.emit.join_before.Goals as goal

pub returns-in_ok-push-2-clause-moves : goal.returns-in_ok-push-2-clause-moves
returns-in_ok-push-2-clause-moves c =
    let linked = c.requires.links in
    let is = before_read c.args.formula.now c.args.order.now c.args.links.now c.args.item c.index.result.now linked c.requires.item.small
    c.index.ensures ∙ c.in-Some.is in
    let next = next_moves c.args.formula.now c.args.order.now linked.buckets c.args.item c.in-Some.before linked.right c.requires.item is in
    rw (c.in_ok-push.ensures.items, c.in_ok-push-2.ensures.items)
    (joined c.args.formula.now c.args.order.now c.args.work.now.items c.args.moves.now.items c.args.item c.in-Some.before next.1)

pub returns-in_ok-push-2-clause-items : goal.returns-in_ok-push-2-clause-items
returns-in_ok-push-2-clause-items c =
    let linked = c.requires.links in
    let is = before_read c.args.formula.now c.args.order.now c.args.links.now c.args.item c.index.result.now linked c.requires.item.small
    c.index.ensures ∙ c.in-Some.is in
    let next = next_moves c.args.formula.now c.args.order.now linked.buckets c.args.item c.in-Some.before linked.right c.requires.item is in
    subst (λ (work : List ℕ). All (IsItem c.args.formula.now c.args.order.now) work) (sym c.in_ok-push-2.ensures.items)
    (All-push (IsItem c.args.formula.now c.args.order.now) c.args.work.now.items c.in-Some.before c.requires.items next.0)

pub returns-in_default-clause-moves : goal.returns-in_default-clause-moves
returns-in_default-clause-moves c =
    let linked = c.requires.links in
    let is = before_read c.args.formula.now c.args.order.now c.args.links.now c.args.item c.index.result.now linked c.requires.item.small
    c.index.ensures ∙ c.in_default.is in
    ap (λ own. (moves_to_all c.args.formula.now c.args.order.now c.args.work.now.items ++ own) ++ reverse c.args.moves.now.items)
    (sym (first_moves c.args.formula.now c.args.order.now linked.buckets c.args.item linked.right c.requires.item is))
