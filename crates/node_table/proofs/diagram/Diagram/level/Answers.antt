-- What is left to show of `Diagram::level`.
use Rattle.std.proofs.Common.{◌≡◌, ℕ, ◌-◌, ◌<◌, ◌≤◌, List, length, get_or, Option, None, Some, sym, ◌∙◌, ap, arith, subst}
use Rattle.std.specs.Prelude.{MatchOption, slice_index_or, ◌≢◌}
use Rattle.std.specs.List.{slice_get}
use Rattle.std.proofs.lemmas.Option.{slice_get-get_or, slice_get_within, get_or_from_slice_get}
use Rattle.node_table.specs.Diagram.{Graph, levels, variable_at, IsOrder}
use Rattle.node_table.specs.Stored.{graph_of}
use Rattle.node_table.proofs.Looked.{looked_up}
use Rattle.node_table.proofs.diagram.Diagram.level.Goals as goal

pub returns-then-variable-eq0 : goal.returns-then-variable-eq0
returns-then-variable-eq0 c level small is =
    let within : level < length c.self.inside.order.items → (0 < slice_index_or c.self.inside.order.items level 0)
    × (slice_index_or c.self.inside.order.items level 0 ≤ length c.self.inside.order.items) =
    c.self.invariant.0.ordered.within level in
    let levels_are : levels (graph_of c.self.inside.order.items c.self.inside.nodes.slots)
    ≡ levels c.args.self.now = ap levels c.self.view_is in
    let at : variable_at (graph_of c.self.inside.order.items c.self.inside.nodes.slots) level
    ≡ variable_at c.args.self.now level = ap (λ (g : Graph). variable_at g level) c.self.view_is in
    omega (arith, (within (omega (arith, small, levels_are))).0, at, is, c.if-variable-eq0.true)

-- the place of a variable, where the order has it
found : (order places : List ℕ) → IsOrder order → length places ≡ length order
    → ((place : ℕ) → place < length order → slice_index_or places (slice_index_or order place 0 - 1) 0 ≡ place)
    → (variable : ℕ) → 0 < variable → (o : Option ℕ) → o ≡ slice_get places (variable - 1)
    → MatchOption o ((level : ℕ) → level < length order → slice_index_or order level 0 ≡ variable → ⊥) (λ level. (level < length order)
    × (slice_index_or order level 0 ≡ variable))
found order places is_order same placed variable positive None is = λ level small at.
    let read : slice_get places (variable - 1) ≡ Some (get_or places (variable - 1) 0) =
    slice_get-get_or places (variable - 1) 0 (omega (arith, (is_order.within level small).1, at, same, positive)) in
    cc
found order places is_order same placed variable positive (Some level) is =
    let small : variable - 1 < length places = slice_get_within places (variable - 1) level (sym is) in
    let place = is_order.each variable positive (omega (arith, small, same, positive)) in
    let here : place.0 ≡ level =
    sym (placed place.0 place.1) ∙ ap (λ n. slice_index_or places (n - 1) 0) place.2
    ∙ get_or_from_slice_get places (variable - 1) level 0 (sym is) in
    (subst (λ n. n < length order) here place.1, ap (λ n. slice_index_or order n 0) (sym here) ∙ place.2)

pub returns : goal.returns
returns c =
    let is : c.copied.result ≡ slice_get c.self.inside.places.items (c.args.variable - 1) =
    c.copied.ensures ∙ looked_up c.as_slice-places.result.now (c.args.variable - 1) c.get.result c.get.ensures.lookup.0
    c.get.ensures.lookup.1
    ∙ ap (λ (xs : List ℕ). slice_get xs (c.args.variable - 1)) c.as_slice-places.ensures.value in
    let stored = c.self.invariant.0 in
    subst (λ (g : Graph). MatchOption c.copied.result ((level : ℕ) → level < levels g → variable_at g level
    ≢ c.args.variable) (λ level. (level < levels g) × (variable_at g level ≡ c.args.variable)))
    c.self.view_is
    (found c.self.inside.order.items c.self.inside.places.items stored.ordered stored.inverse.one_each stored.inverse.placed c.args.variable
    (omega (arith, c.if-variable-eq0.false)) c.copied.result is)
