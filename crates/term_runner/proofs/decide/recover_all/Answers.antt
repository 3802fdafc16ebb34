-- All terms are stored, and their variables set back behind the least assignment of the last one.
use Rattle.std.proofs.Common.{ℕ, List, reverse, subst, arith}
use Rattle.node_table.specs.declared.node.Node.{Node}
use Rattle.clause_terms.specs.Recovery.{IsRecoveredFrom}
use Rattle.term_runner.proofs.Stored.{all_copied, recent_stand, recovered_by, stored_there, trail_stored}
use Rattle.term_runner.proofs.decide.recover_all.Goals as goal

pub store-requires-clause-copies : goal.store-requires-clause-copies
store-requires-clause-copies g c = c.requires.trail.2.copies

pub store-requires-clause-nodes : goal.store-requires-clause-nodes
store-requires-clause-nodes g c = recent_stand c.requires.trail.0 c.args.table.now.graph c.args.trail.now c.requires.trail.1
    c.requires.trail.2

pub set_back-requires-clause-none_recent : goal.set_back-requires-clause-none_recent
set_back-requires-clause-none_recent g c = c.in_ok-store.ensures.stores.none_recent

pub set_back-requires-clause-variables : goal.set_back-requires-clause-variables
set_back-requires-clause-variables g c entry there =
    let formula = c.requires.trail.0 in
    let graph = c.args.table.now.graph in
    let now = c.store.new.self in
    let trail = c.requires.trail.1 in
    let stored = trail_stored formula graph c.args.trail.now now trail c.in_ok-store.ensures.stores c.store.ensures.same
    c.store.ensures.copies
    c.requires.trail.2 in
    let is = stored_there formula now.cells now.stored trail
    (all_copied formula graph now trail c.in_ok-store.ensures.stores.none_recent stored) c.requires.trail.3 entry there in
    (is.0, omega (arith, is.1, c.requires.trail.4, c.in_ok-model.ensures.recovered.one_each))

pub returns : goal.returns
returns g c formula quantified is =
    let graph = c.args.table.now.graph in
    let now = c.store.new.self in
    let stored = trail_stored formula graph c.args.trail.now now quantified c.in_ok-store.ensures.stores c.store.ensures.same
    c.store.ensures.copies is in
    recovered_by formula graph c.table_law.ensures.reduced c.table_law.ensures.ordered c.args.node c.requires.node c.in_ok-model.model
    (subst (λ (t : List (ℕ × Node)). IsRecoveredFrom graph c.args.node (reverse t) c.in_ok-model.model) c.new.ensures
    c.in_ok-model.ensures.recovered) now.cells (reverse now.stored) quantified
    (all_copied formula graph now quantified c.in_ok-store.ensures.stores.none_recent stored) c.set_back.new.values
    c.in_ok-set_back.ensures.one_each c.in_ok-set_back.ensures.set
