-- What is left to show of `delete_definitions`.
use Rattle.std.proofs.Common.{◌≡◌, ◌<◌, ℕ, List, Some, true, length, sym, ap, subst, arith}
use Rattle.lrat_rules.specs.Derivation.{are_added}
use Rattle.clause_ledger.specs.Told.{told_formula}
use Rattle.node_table.specs.declared.node.Branch.{Branch}
use Rattle.node_table.specs.Diagram.{branch_at}
use Rattle.node_table.specs.Deleted.{Deletes, DeletesTorn, unmarked_below}
use Rattle.node_table.proofs.Deletable.{below_added}
use Rattle.node_table.proofs.Deleting.{IsDeleting-start, IsDeleting-pass, IsDeleting-more, IsDeleting-done, IsDeleting-torn, deleted_among}
use Rattle.node_table.proofs.Deleting.{deleted_are, deleted_gone, deleted_stay, on_err, pending}
use Rattle.node_table.proofs.deletion.delete_definitions.Given.{Over}
use Rattle.node_table.proofs.deletion.delete_definitions.Goals as goal
use Rattle.node_table.proofs.deletion.delete_definitions.Goals.{After-make_room, After-delete_all}

pub keys-init : goal.keys-init
keys-init g c =
    IsDeleting-start c.args.ledger.now c.args.diagram.now c.args.marks.now c.new-ids.result.items
    c.requires.in_step c.new-ids.ensures

pub keys-preserved-in_default : goal.keys-preserved-in_default
keys-preserved-in_default g c =
    IsDeleting-pass c.args.ledger.now c.keys.ledger c.args.diagram.now c.args.marks.now
    c.keys.ids.items c.keys.index c.keys.invariant
    c.in_default.ensures

pub make_room-requires-clause-live : goal.make_room-requires-clause-live
make_room-requires-clause-live g c =
    let told = c.keys.invariant.deletes.told in
    subst (λ (n : ℕ). are_added n c.keys.ledger.state.live c.keys.ids.items ≡ true) (sym (ap length (told_formula told)))
    (pending c.args.ledger.now c.keys.ledger c.args.diagram.now c.args.marks.now c.keys.ids.items
    c.keys.index c.keys.invariant (length c.args.ledger.now.formula)
    (below_added c.args.diagram.now c.args.marks.now c.args.ledger.now.state.live c.requires.reduced c.requires.defined
    (length c.args.ledger.now.formula) c.requires.numbered c.keys.index))

pub keys-preserved : goal.keys-preserved
keys-preserved g c =
    let deleted = c.in_ok-make_room.ensures.deleted in
    IsDeleting-more c.args.ledger.now c.keys.ledger c.args.diagram.now c.args.marks.now
    c.keys.ids.items c.keys.index c.keys.invariant
    c.make_room.new.ledger deleted.0 c.make_room.new.ids.items c.push_all.new.ids.items c.in-Some.defs c.in-Some.ensures deleted.1
    deleted.2 c.push_all.ensures

pub delete_all-requires-clause-live : goal.delete_all-requires-clause-live
delete_all-requires-clause-live g c =
    let told = c.keys.invariant.deletes.told in
    subst (λ (ids : List ℕ). are_added (length c.keys.ledger.formula) c.keys.ledger.state.live ids ≡ true) (sym c.as_slice.ensures.value)
    (subst (λ (n : ℕ). are_added n c.keys.ledger.state.live c.keys.ids.items ≡ true) (sym (ap length (told_formula told)))
    (pending c.args.ledger.now c.keys.ledger c.args.diagram.now c.args.marks.now c.keys.ids.items
    c.keys.index c.keys.invariant (length c.args.ledger.now.formula)
    (below_added c.args.diagram.now c.args.marks.now c.args.ledger.now.state.live c.requires.reduced c.requires.defined
    (length c.args.ledger.now.formula) c.requires.numbered c.keys.index)))

-- a write failed on the way
pub returns-in_err-make_room-clause-stay : goal.returns-in_err-make_room-clause-stay
returns-in_err-make_room-clause-stay g c =
    let torn = IsDeleting-torn c.args.ledger.now c.keys.ledger c.args.diagram.now c.args.marks.now
    c.keys.ids.items c.keys.index c.keys.invariant
    c.make_room.new.ledger c.in_err-make_room.ensures.torn in
    deleted_stay c.args.diagram.now c.args.marks.now c.args.ledger.now.state c.make_room.new.ledger.state c.keys.index torn.deletes.state

pub returns-in_err-make_room-clause-among : goal.returns-in_err-make_room-clause-among
returns-in_err-make_room-clause-among g c =
    let torn = IsDeleting-torn c.args.ledger.now c.keys.ledger c.args.diagram.now c.args.marks.now
    c.keys.ids.items c.keys.index c.keys.invariant
    c.make_room.new.ledger c.in_err-make_room.ensures.torn in
    deleted_among c.args.diagram.now c.args.marks.now c.args.ledger.now.state c.make_room.new.ledger.state c.keys.index torn.deletes.state

-- the last line, whose write failed
torn_last : (g : Over) (c : After-delete_all g)
    → DeletesTorn c.keys.ledger c.delete_all.new.ledger c.as_slice.result.now
    → DeletesTorn c.args.ledger.now c.delete_all.new.ledger
    (unmarked_below c.args.diagram.now c.args.marks.now c.keys.index)
torn_last g c torn =
    IsDeleting-torn c.args.ledger.now c.keys.ledger c.args.diagram.now c.args.marks.now c.keys.ids.items
    c.keys.index c.keys.invariant c.delete_all.new.ledger
    (subst (λ (ids : List ℕ). DeletesTorn c.keys.ledger c.delete_all.new.ledger ids)
    c.as_slice.ensures.value torn)

pub returns-in_err-delete_all-clause-stay : goal.returns-in_err-delete_all-clause-stay
returns-in_err-delete_all-clause-stay g c =
    let torn = torn_last g (goal.at.returns-in_err-delete_all-clause-stay g c).After-delete_all c.in_err-delete_all.ensures.torn in
    deleted_stay c.args.diagram.now c.args.marks.now c.args.ledger.now.state c.delete_all.new.ledger.state c.keys.index torn.deletes.state

pub returns-in_err-delete_all-clause-among : goal.returns-in_err-delete_all-clause-among
returns-in_err-delete_all-clause-among g c =
    let torn = torn_last g (goal.at.returns-in_err-delete_all-clause-among g c).After-delete_all c.in_err-delete_all.ensures.torn in
    deleted_among c.args.diagram.now c.args.marks.now c.args.ledger.now.state c.delete_all.new.ledger.state c.keys.index torn.deletes.state

-- all of them
all_deleted : (g : Over) (c : After-delete_all g)
    → Deletes true c.keys.ledger c.delete_all.new.ledger c.as_slice.result.now
    → Deletes true c.args.ledger.now c.delete_all.new.ledger
    (unmarked_below c.args.diagram.now c.args.marks.now c.keys.index)
all_deleted g c deleted =
    IsDeleting-done c.args.ledger.now c.keys.ledger c.args.diagram.now c.args.marks.now c.keys.ids.items
    c.keys.index c.keys.invariant c.delete_all.new.ledger
    (subst (λ (ids : List ℕ). Deletes true c.keys.ledger c.delete_all.new.ledger ids) c.as_slice.ensures.value
    deleted)

pub returns-clause-gone : goal.returns-clause-gone
returns-clause-gone g c =
    let all = all_deleted g (goal.at.returns-clause-gone g c).After-delete_all c.in_ok-delete_all.ensures.deleted in
    let below : (k : ℕ) (branch : Branch) → branch_at c.args.diagram.now k ≡ Some branch → k < c.keys.index = λ k branch at.
    let less = c.key_end-index-end.ensures k branch at in omega (arith, less, c.keys-test.false) in
    deleted_gone c.args.diagram.now c.args.marks.now c.args.ledger.now.state c.delete_all.new.ledger.state c.keys.index all.state below

pub returns-clause-stay : goal.returns-clause-stay
returns-clause-stay g c =
    let all = all_deleted g (goal.at.returns-clause-stay g c).After-delete_all c.in_ok-delete_all.ensures.deleted in
    deleted_stay c.args.diagram.now c.args.marks.now c.args.ledger.now.state c.delete_all.new.ledger.state c.keys.index all.state

pub returns-clause-among : goal.returns-clause-among
returns-clause-among g c =
    let all = all_deleted g (goal.at.returns-clause-among g c).After-delete_all c.in_ok-delete_all.ensures.deleted in
    deleted_among c.args.diagram.now c.args.marks.now c.args.ledger.now.state c.delete_all.new.ledger.state c.keys.index all.state

pub returns-clause-lines : goal.returns-clause-lines
returns-clause-lines g c =
    let all = all_deleted g (goal.at.returns-clause-lines g c).After-delete_all c.in_ok-delete_all.ensures.deleted in
    record {
      ids = unmarked_below c.args.diagram.now c.args.marks.now c.keys.index;
      are = deleted_are c.args.diagram.now c.args.marks.now c.args.ledger.now.state c.delete_all.new.ledger.state c.keys.index all.state;
      deletes = all;
    }

pub returns-in_err-make_room-clause-front : goal.returns-in_err-make_room-clause-front
returns-in_err-make_room-clause-front g c =
    let torn = IsDeleting-torn c.args.ledger.now c.keys.ledger c.args.diagram.now c.args.marks.now
    c.keys.ids.items c.keys.index c.keys.invariant
    c.make_room.new.ledger c.in_err-make_room.ensures.torn in
    on_err c.from_residual.result (record {
      ids = unmarked_below c.args.diagram.now c.args.marks.now c.keys.index;
      are = deleted_are c.args.diagram.now c.args.marks.now c.args.ledger.now.state c.make_room.new.ledger.state c.keys.index torn.deletes.state;
      torn = torn;
    })

pub returns-in_err-delete_all-clause-front : goal.returns-in_err-delete_all-clause-front
returns-in_err-delete_all-clause-front g c =
    let torn = torn_last g (goal.at.returns-in_err-delete_all-clause-front g c).After-delete_all c.in_err-delete_all.ensures.torn in
    on_err c.from_residual-in_err-delete_all.result (record {
      ids = unmarked_below c.args.diagram.now c.args.marks.now c.keys.index;
      are = deleted_are c.args.diagram.now c.args.marks.now c.args.ledger.now.state c.delete_all.new.ledger.state c.keys.index torn.deletes.state;
      torn = torn;
    })
