-- What is left to show of `Diagram::new`.
use Rattle.std.proofs.Common.{◌≡◌, ℕ, ◌+◌, List, [], ◌++◌, Contains, None, Some, sym, ◌∙◌, ap, subst, arith, is_some, refl}
use Rattle.std.specs.Prelude.{◌≤◌, length, count_by, vec_capacity}
use Rattle.slab.specs.Slab.{Slab, get}
use Rattle.node_table.specs.declared.index.Index.{Index}
use Rattle.node_table.specs.declared.node.Branch.{Branch}
use Rattle.node_table.specs.declared.stored.StoredNode.{StoredNode}
use Rattle.node_table.specs.Diagram.{IsOrder, branch_at}
use Rattle.node_table.specs.Index.{IsIndexOf}
use Rattle.node_table.specs.Stored.{graph_of, ArePlaces, IsStored, HasVariables}
use Rattle.node_table.proofs.Pushed.{unused_key}
use Rattle.node_table.proofs.diagram.Diagram.new.Goals as goal

nothing_at : (order : List ℕ) (key : ℕ) (branch : Branch) → branch_at (graph_of order []) key ≡ Some branch → ⊥
nothing_at order key branch is = let none : branch_at (graph_of order []) key ≡ None = unused_key order [] key refl in cc

empty_is_stored : (order places : List ℕ) (index : Index) (nodes : Slab StoredNode) → IsOrder order → length order ≤ 1000000
    → ArePlaces order places → nodes.slots ≡ [] → IsIndexOf index nodes
    → IsStored order places index nodes
empty_is_stored order places index nodes is_order few are_places empty indexed =
    let nothing : (key : ℕ) (branch : Branch) → branch_at (graph_of order nodes.slots) key ≡ Some branch → ⊥ =
    λ key branch is. nothing_at order key branch (ap (λ s. branch_at (graph_of order s) key) (sym empty) ∙ is) in
    let none : (key : ℕ) (node : StoredNode) → get nodes key ≡ Some node → ⊥ =
    λ key node is. let is_none : None ≡ Some node = ap (λ s. get (record nodes { slots = s }) key) (sym empty) ∙ is in cc in
    record {
      ordered = is_order;
      few_levels = few;
      few_nodes = let count : count_by is_some nodes.slots ≡ 0 = ap (count_by is_some) empty in omega (arith, count);
      inverse = are_places;
      reduced = record {
        level = λ key branch is. absurd (nothing key branch is);
        high = λ key branch is. absurd (nothing key branch is);
        low = λ key branch is. absurd (nothing key branch is);
        differ = λ key branch is. absurd (nothing key branch is);
        unique = λ key other one two is also alike. absurd (nothing key one is);
        above = λ key branch is. absurd (nothing key branch is);
        apart = λ key other one two is also same. absurd (nothing key one is);
      };
      small_keys = λ key node is. absurd (none key node is);
      firsts = λ key node is. absurd (none key node is);
      indexed = indexed;
    }

no_variables : (levels next capacity : ℕ) (free : List ℕ) (nodes : Slab StoredNode) → levels ≤ 1000000 → next ≡ levels + 1 → free ≡ []
    → nodes.slots ≡ [] → HasVariables levels next free capacity nodes
no_variables levels next capacity free nodes few first none empty =
    let no_node : (key : ℕ) (node : StoredNode) → get nodes key ≡ Some node → ⊥ =
    λ key node is. let is_none : None ≡ Some node = ap (λ s. get (record nodes { slots = s }) key) (sym empty) ∙ is in cc in
    let no_free : (variable : ℕ) → Contains free variable → ⊥ = λ variable among. omega (arith, among.1, ap length none) in
    let count : count_by is_some nodes.slots ≡ 0 = ap (count_by is_some) empty in
    record {
      stored = λ key node is. absurd (no_node key node is);
      falling = λ k within. absurd (omega (arith, within, ap length none));
      within = λ variable among. absurd (no_free variable among);
      unowned = λ key node is. absurd (no_node key node is);
      covered = λ variable above below. absurd (omega (arith, above, below, first));
      counted = omega (arith, first, count, ap length none);
      few = omega (arith, first);
      room = omega (arith, first);
    }

pub invariant_of-result : goal.invariant_of-result
invariant_of-result c =
    let order : c.extend_from_slice.new.self.items ≡ c.args.order.now = (c.in_ok-extend_from_slice.ensures).items
    ∙ ap (λ (xs : List ℕ). xs ++ c.args.order.now) c.new-own_order.ensures.items in
    let levels : length c.extend_from_slice.new.self.items ≡ length c.args.order.now = ap length order in (
      subst (λ (o : List ℕ). IsStored o c.in_ok-places.places.items c.new-2.result c.new.result) (sym order)
          (empty_is_stored c.args.order.now c.in_ok-places.places.items c.new-2.result c.new.result c.requires.order c.requires.few
          c.in_ok-places.ensures c.new.ensures.empty
          (c.new-2.ensures c.new.result c.new.ensures.empty)),
      no_variables (length c.extend_from_slice.new.self.items) (length c.args.order.now
          + 1) (vec_capacity c.new-3.result) c.new-3.result.items c.new.result (omega (arith, levels, c.requires.few))
          (omega (arith, levels)) c.new-3.ensures.items c.new.ensures.empty,
    )
