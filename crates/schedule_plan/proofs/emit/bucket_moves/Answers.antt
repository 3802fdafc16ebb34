-- What is left to show of `bucket_moves`.
use Rattle.std.proofs.Common.{ℕ, ◌≡◌, ◌++◌, ◌∷◌, [], List, All, Some, length, ap, sym, ◌∙◌, subst, arith}
use Rattle.std.specs.Prelude.{slice_index_or}
use Rattle.std.proofs.lemmas.List.Elements.{All-pop, All-nil, All-push}
use Rattle.schedule_plan.specs.Forest.{IsItem, moves_to_all}
use Rattle.schedule_plan.proofs.Linked.{last_read, started, nothing_started, stepped, fewer}
use Rattle.schedule_plan.proofs.emit.bucket_moves.Goals as goal
use Rattle.schedule_plan.proofs.emit.bucket_moves.Goals.{in-Some+in_ok-push, in_default}

pub items-init : goal.items-init
items-init c =
    let formula = c.args.formula.now in
    let order = c.args.order.now in
    let linked = c.requires.links in
    let links = c.args.links.now in
    let read = subst (λ (o : List ℕ). c.index.result.now ≡ slice_index_or links.last.items
    (length o) c.index.result.now) c.as_slice.ensures.value c.index.ensures in
    let is = last_read formula order links (length order) c.index.result.now linked (omega arith) read in
    elim c.match-index.branch [
      | in-Some+in_ok-push w ↦
          let first = started formula order linked.buckets w.in-Some.item linked.right (is ∙ w.in-Some.is) in
          let work_is : c.match-index.work.items ≡ w.in-Some.item ∷ [] =
          ap (λ v. v.items) w.work-is ∙ w.in_ok-push.ensures.items ∙ ap (λ list. list ++ w.in-Some.item ∷ []) c.new-work.ensures.items in
          record {
            remaining = rw (work_is, c.new-moves.ensures.items) first.1;
            items = subst (λ (work : List ℕ). All (IsItem formula order) work) (sym work_is)
                (All-push (IsItem formula order) [] w.in-Some.item (All-nil (IsItem formula order)) first.0);
          }
      | in_default w ↦
          let work_is : c.match-index.work.items ≡ [] = ap (λ v. v.items) w.work-is ∙ c.new-work.ensures.items in
          record {
            remaining = rw (work_is, c.new-moves.ensures.items) (nothing_started formula order linked.buckets linked.right (is
                ∙ w.in_default.is));
            items = subst (λ (work : List ℕ). All (IsItem formula order) work) (sym work_is) (All-nil (IsItem formula order));
          }
    ]

pub join_before-requires-clause-item : goal.join_before-requires-clause-item
join_before-requires-clause-item c =
    (All-pop (IsItem c.args.formula.now c.args.order.now) c.items.work.items c.pop.new.self.items
    (Some c.in-Some-pop.item) c.in-Some-pop.ensures.items c.items.invariant.items).1

pub open_item-requires-clause-item : goal.open_item-requires-clause-item
open_item-requires-clause-item c =
    (All-pop (IsItem c.args.formula.now c.args.order.now) c.items.work.items c.pop.new.self.items
    (Some c.in-Some-pop.item) c.in-Some-pop.ensures.items c.items.invariant.items).1

pub items-smaller : goal.items-smaller
items-smaller c =
    let formula = c.args.formula.now in
    let order = c.args.order.now in
    fewer (moves_to_all formula order c.open_item.new.work.items)
    (moves_to_all formula order c.items.work.items) c.items.moves.items c.open_item.new.moves.items
    (stepped formula order c.items.work.items c.pop.new.self.items c.join_before.new.work.items c.open_item.new.work.items
    c.items.moves.items c.join_before.new.moves.items c.open_item.new.moves.items c.in-Some-pop.item
    c.in-Some-pop.ensures.items c.in_ok-join_before.ensures.moves c.in_ok-open_item.ensures.moves)
    (omega (arith, c.in_ok-join_before.ensures.more, c.in_ok-open_item.ensures.more))

pub items-preserved : goal.items-preserved
items-preserved c =
    let formula = c.args.formula.now in
    let order = c.args.order.now in
    record {
      remaining = stepped formula order c.items.work.items c.pop.new.self.items c.join_before.new.work.items c.open_item.new.work.items
          c.items.moves.items c.join_before.new.moves.items c.open_item.new.moves.items c.in-Some-pop.item
          c.in-Some-pop.ensures.items c.in_ok-join_before.ensures.moves c.in_ok-open_item.ensures.moves ∙ c.items.invariant.remaining;
      items = c.in_ok-open_item.ensures.items;
    }
