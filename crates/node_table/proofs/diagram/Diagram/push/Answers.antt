-- What is left to show of `Diagram::push`.
use Rattle.std.proofs.Common.{◌≡◌, ◌<◌, ◌≤◌, ◌+◌, ℕ, List, length, sym, ◌∙◌, ap, subst, arith}
use Rattle.std.specs.Prelude.{vec_capacity}
use Rattle.std.specs.FinMap as map
use Rattle.slab.specs.Slab.{Slab, slab_len}
use Rattle.node_table.specs.declared.node.Branch.{Branch}
use Rattle.node_table.specs.declared.stored.StoredNode.{StoredNode}
use Rattle.node_table.specs.Diagram.{Graph, IsBelow, IsWanted, branch_at, is_node, levels, with_branch}
use Rattle.node_table.specs.Stored.{branch_in, Takes}
use Rattle.node_table.proofs.Indexed.{IsIndexOf-room}
use Rattle.node_table.proofs.Keyed.{len-keyed}
use Rattle.node_table.proofs.Pushed.{Joins, Joins-entered, IsStored-room, IsStored-joined, branch_from_stored, joined_graph, own_variable}
use Rattle.node_table.proofs.Pushed.{small_from_stands, unused_key}
use Rattle.node_table.proofs.Variables.{HasVariables-room, HasVariables-taken, taken_above, taken_few, taken_own, taken_least}
use Rattle.node_table.proofs.diagram.Diagram.push.Goals as goal

pub of-node-requires-clause-high : goal.of-node-requires-clause-high
of-node-requires-clause-high c =
    small_from_stands c.self.inside.order.items c.self.inside.places.items c.self.inside.index c.self.inside.nodes c.self.invariant.0
    c.args.high
    (ap (λ (g : Graph). is_node g c.args.high) c.self.view_is ∙ c.requires.high.stands)

pub of-node-requires-clause-low : goal.of-node-requires-clause-low
of-node-requires-clause-low c =
    small_from_stands c.self.inside.order.items c.self.inside.places.items c.self.inside.index c.self.inside.nodes c.self.invariant.0
    c.args.low
    (ap (λ (g : Graph). is_node g c.args.low) c.self.view_is ∙ c.requires.low.stands)

pub reserve-requires-3 : goal.reserve-requires-3
reserve-requires-3 c = IsIndexOf-room c.self.inside.index c.self.inside.nodes c.reserve-2.new.self c.in_ok-reserve-2.ensures.rest_kept
    c.self.invariant.0.indexed

-- the exits for want of memory
pub invariant_of-self-in_err-reserve-2 : goal.invariant_of-self-in_err-reserve-2
invariant_of-self-in_err-reserve-2 c =
    let inside = c.self.inside in
    let kept = c.in_err-reserve-2.ensures.rest_kept in (
      IsStored-room inside.order.items inside.places.items inside.index inside.index inside.nodes c.reserve-2.new.self kept
          c.self.invariant.0
          (IsIndexOf-room inside.index inside.nodes c.reserve-2.new.self kept c.self.invariant.0.indexed),
      HasVariables-room (length inside.order.items) inside.next inside.free.items c.reserve.new.self.items (vec_capacity inside.free)
          (vec_capacity c.reserve.new.self) inside.nodes c.reserve-2.new.self
          c.reserve.ensures.items c.reserve.ensures.capacity kept c.self.invariant.1,
    )

pub invariant_of-self-in_err-reserve-3 : goal.invariant_of-self-in_err-reserve-3
invariant_of-self-in_err-reserve-3 c =
    let inside = c.self.inside in
    let kept = c.in_ok-reserve-2.ensures.rest_kept in (
      IsStored-room inside.order.items inside.places.items inside.index c.reserve-3.new.self inside.nodes c.reserve-2.new.self kept
          c.self.invariant.0 c.in_err-reserve-3.ensures.kept,
      HasVariables-room (length inside.order.items) inside.next inside.free.items c.reserve.new.self.items (vec_capacity inside.free)
          (vec_capacity c.reserve.new.self) inside.nodes c.reserve-2.new.self
          c.reserve.ensures.items c.reserve.ensures.capacity kept c.self.invariant.1,
    )

-- the variable taken is one that no stored node has
takes : (c : goal.After-insert)
    → Takes c.self.inside.free.items c.self.inside.next c.take_variable-variable.new.free.items c.take_variable-variable.new.next
    c.take_variable-variable.result
takes c =
    let taken = c.take_variable-variable in
    subst (λ (list : List ℕ). Takes list c.self.inside.next taken.new.free.items taken.new.next taken.result) c.reserve.ensures.items
    taken.ensures.taken

own : (c : goal.After-insert) → c.of-node.result.variable ≡ c.take_variable-variable.result
own c = ap (λ (b : Branch). b.variable) c.of-node.ensures

joins : (c : goal.After-insert)
    → Joins c.self.inside.order.items c.self.inside.nodes c.insert_reserved-index.new.self c.insert_reserved-index.result c.of-node.result
joins c =
    let order = c.self.inside.order.items in
    let old = sym c.self.view_is in
    let kept = c.in_ok-reserve-2.ensures.rest_kept in
    let entered = c.insert_reserved-index.ensures in
    let have = c.self.invariant.1 in
    let vacant : c.insert_reserved-index.result ≡ c.self.inside.nodes.vacant_key = entered.key
    ∙ ap (λ (s : Slab StoredNode). s.vacant_key) kept in
    Joins-entered order c.self.inside.nodes c.reserve-2.new.self c.insert_reserved-index.new.self c.insert_reserved-index.result
    c.of-node.result kept
    (subst (λ (g : Graph). map.len g.nodes < 100000000) old c.requires.few)
    (omega (arith, vacant, c.vacant_key.ensures.value, c.if-vacant_key-ge-MAX_NODES.false)) entered.was_vacant entered.updates
    entered.len
    (omega (arith, taken_above have (takes c), own c)) (λ other one is same. taken_own have (takes c) other one is (same ∙ own c))
    c.args.level c.take_variable-variable.result c.args.high c.args.low c.args.first c.of-node.ensures
    (subst (λ (g : Graph). c.args.level < levels g) old c.requires.level)
    (subst (λ (g : Graph). IsBelow g c.args.level c.args.high) old c.requires.high)
    (subst (λ (g : Graph). IsBelow g c.args.level c.args.low) old c.requires.low)
    (subst (λ (g : Graph). IsWanted g c.args.level c.args.high c.args.low) old c.requires.wanted) c.requires.first

pub invariant_of-self-2 : goal.invariant_of-self-2
invariant_of-self-2 c =
    let inside = c.self.inside in
    let entered = c.insert_reserved-index.ensures in
    let join = joins c in
    let room : length inside.free.items + (slab_len inside.nodes + 1) ≤ vec_capacity c.take_variable-variable.new.free =
    omega (
      arith,
      c.in_ok-reserve.ensures.ok,
      c.len.ensures,
      ap length c.reserve.ensures.items,
      c.take_variable-variable.ensures.capacity,
      c.reserve.new.self.ok.0,
    ) in (
      IsStored-joined inside.order.items inside.places.items inside.index c.insert.new.self inside.nodes c.insert_reserved-index.new.self
          c.insert_reserved-index.result c.of-node.result
          c.self.invariant.0 join
          (c.insert.ensures c.reserve-2.new.self c.insert_reserved-index.new.self c.in_ok-reserve-3.ensures.kept entered.was_vacant
          entered.updates),
      HasVariables-taken c.self.invariant.1 (takes c) c.insert_reserved-index.new.self c.insert_reserved-index.result c.of-node.result
          (own c) join.vacant join.updates join.more join.few
          (vec_capacity c.take_variable-variable.new.free) room,
    )

pub returns-clause-ok : goal.returns-clause-ok
returns-clause-ok c =
    let order = c.self.inside.order.items in
    let key = c.insert_reserved-index.result in
    let join = joins c in
    record {
      unused = ap (λ (g : Graph). branch_at g key) (sym c.self.view_is) ∙ unused_key order c.self.inside.nodes.slots key join.vacant;
      joined = joined_graph order c.self.inside.nodes c.insert_reserved-index.new.self key c.of-node.result join
          ∙ (λ i. with_branch (c.self.view_is i) key (c.of-node.ensures i));
    }

pub returns-clause-range : goal.returns-clause-range
returns-clause-range c =
    let have = c.self.invariant.1 in
    let taken = takes c in
    let levels_are : length c.self.inside.order.items ≡ levels c.args.self.now = ap levels c.self.view_is in
    let nodes_are = sym (len-keyed 0 c.self.inside.nodes.slots) ∙ ap (λ (g : Graph). map.len g.nodes) c.self.view_is in
    (omega (arith, levels_are, taken_above have taken), omega (arith, levels_are, nodes_are, taken_few have taken))

pub returns-clause-own : goal.returns-clause-own
returns-clause-own c key branch is =
    own_variable c.self.inside.order.items c.self.inside.nodes.slots c.take_variable-variable.result
    (taken_own c.self.invariant.1 (takes c)) key branch
    (ap (λ (g : Graph). branch_at g key) c.self.view_is ∙ is)

pub returns-clause-least : goal.returns-clause-least
returns-clause-least c variable above less =
    let levels_are : length c.self.inside.order.items ≡ levels c.args.self.now = ap levels c.self.view_is in
    let is = taken_least c.self.invariant.1 (takes c) variable (omega (arith, above, levels_are)) less in (
      is.key,
      branch_in is.node,
      ap (λ (g : Graph). branch_at g is.key) (sym c.self.view_is)
          ∙ branch_from_stored c.self.inside.order.items c.self.inside.nodes.slots is.key is.node is.stands,
      is.own,
    )
