-- What is left to show of `Diagram::sweep`.
use Rattle.std.proofs.Common.{◌≡◌, ◌+◌, ℕ, Bool, List, ◌++◌, length, ap, sym, subst, ◌∙◌, arith}
use Rattle.std.specs.Prelude.{nat_eq, IsPermutation}
use Rattle.std.specs.FinMap as map
use Rattle.std.specs.List.{IsDistinct}
use Rattle.std.specs.Vec.{with_items}
use Rattle.std.proofs.lemmas.List.{length-append, with_items_is}
use Rattle.std.proofs.lemmas.List.Sorted.{length_permutation}
use Rattle.slab.specs.Slab.{slab_len}
use Rattle.node_table.specs.Diagram.{Graph}
use Rattle.node_table.specs.Marks.{AreMarks}
use Rattle.node_table.specs.Stored.{HasVariables, graph_of}
use Rattle.node_table.specs.Swept.{IsSwept}
use Rattle.node_table.proofs.Freed.{HasVariables-swept, distinct_free, freed}
use Rattle.node_table.proofs.Keyed.{len-keyed}
use Rattle.node_table.proofs.Numbered.{stored_few}
use Rattle.node_table.proofs.Remaining.{IsStored-swept, IsSwept-stored, KeepsMarked, apart_reduced}
use Rattle.node_table.proofs.diagram.Diagram.sweep.Goals as goal

pub sort_falling-requires : goal.sort_falling-requires
sort_falling-requires c =
    let inside = c.self.inside in
    subst (IsDistinct nat_eq) (sym (c.as_mut_slice.ensures.value ∙ c.remove_unmarked-count.ensures.freed))
    (distinct_free c.self.invariant.1 (apart_reduced inside.order.items inside.nodes c.self.invariant.0.reduced) c.by_key.result.now)

kept : (c : goal.After-rebuild) → KeepsMarked c.args.marks.now c.self.inside.nodes c.remove_unmarked-count.new.nodes
kept c = subst (λ (marks : List Bool). KeepsMarked marks c.self.inside.nodes c.remove_unmarked-count.new.nodes) c.by_key.ensures
    c.remove_unmarked-count.ensures.kept

given : (c : goal.After-rebuild) → c.remove_unmarked-count.new.freed.items ≡ c.self.inside.free.items
    ++ freed c.args.marks.now c.self.inside.nodes
given c = c.remove_unmarked-count.ensures.freed ∙ ap (λ (marks : List Bool). c.self.inside.free.items
    ++ freed marks c.self.inside.nodes) c.by_key.ensures

pub rebuild-requires-clause-room : goal.rebuild-requires-clause-room
rebuild-requires-clause-room c =
    omega (arith, c.remove_unmarked-count.ensures.fewer, stored_few c.self.inside.index c.self.inside.nodes c.self.invariant.0.indexed)

pub invariant_of-self : goal.invariant_of-self
invariant_of-self c =
    let inside = c.self.inside in
    let removed = c.remove_unmarked-count in
    let marks = c.args.marks.now in
    let sorted = c.sort_falling.new.numbers in
    let items = with_items removed.new.freed sorted in
    let permutation : IsPermutation (inside.free.items ++ freed marks inside.nodes) sorted =
    subst (λ (list : List ℕ). IsPermutation list sorted) (c.as_mut_slice.ensures.value ∙ given c) c.sort_falling.ensures.permutation in
    let many = length_permutation c.as_mut_slice.result.now sorted c.sort_falling.ensures.permutation in
    let list : items.items ≡ sorted = with_items_is removed.new.freed sorted
    (omega (arith, many, ap length c.as_mut_slice.ensures.value, removed.new.freed.ok.0)) in
    let fewer : slab_len removed.new.nodes + length (freed marks inside.nodes) ≡ slab_len inside.nodes =
    omega (
      arith,
      removed.ensures.count,
      removed.ensures.added,
      ap length (given c),
      length-append inside.free.items (freed marks inside.nodes),
    ) in (
      IsStored-swept marks inside.nodes removed.new.nodes (kept c) inside.order.items inside.places.items inside.index c.rebuild.new.self
          c.self.invariant.0
          (subst (λ (g : Graph). AreMarks g marks) (sym c.self.view_is) c.requires.marks) removed.ensures.fewer c.rebuild.ensures,
      subst (λ (l : List ℕ). HasVariables (length inside.order.items) inside.next l removed.new.freed.cap removed.new.nodes) (sym list)
          (HasVariables-swept c.self.invariant.1 (apart_reduced inside.order.items inside.nodes c.self.invariant.0.reduced) marks sorted
          removed.new.nodes (kept c) permutation c.sort_falling.ensures.falling fewer removed.new.freed.cap
          (omega (arith, removed.ensures.capacity))),
    )

pub returns-clause-swept : goal.returns-clause-swept
returns-clause-swept c =
    let inside = c.self.inside in
    subst (λ (g : Graph). IsSwept g (graph_of inside.order.items c.remove_unmarked-count.new.nodes.slots) c.args.marks.now) c.self.view_is
    (IsSwept-stored c.args.marks.now inside.nodes c.remove_unmarked-count.new.nodes (kept c) inside.order.items)

pub returns-clause-count : goal.returns-clause-count
returns-clause-count c =
    let old = c.self.inside.nodes in
    let new = c.remove_unmarked-count.new.nodes in
    let before = sym (len-keyed 0 old.slots) ∙ ap (λ (g : Graph). map.len g.nodes) c.self.view_is in
    omega (arith, before, len-keyed 0 new.slots, c.remove_unmarked-count.ensures.count)
