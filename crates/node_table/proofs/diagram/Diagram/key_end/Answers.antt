-- What is left to show of `Diagram::key_end`.
use Rattle.std.proofs.Common.{◌≡◌, ◌∙◌, ◌<◌, None, Some, length, sym, ap, arith, inl, inr}
use Rattle.std.proofs.lemmas.Bool.{cases_lt}
use Rattle.std.proofs.lemmas.List.{get_or_past}
use Rattle.node_table.specs.Diagram.{Graph, branch_at}
use Rattle.node_table.proofs.Pushed.{stored_from_branch}
use Rattle.node_table.proofs.diagram.Diagram.key_end.Goals as goal

pub returns : goal.returns
returns c key branch at =
    let inside = c.self.inside in
    let slots = inside.nodes.slots in
    let found = stored_from_branch inside.order.items slots key branch (ap (λ (g : Graph). branch_at g key) c.self.view_is ∙ at) in
    let small = c.self.invariant.0.small_keys key found.node found.stands in
    let stored : key < length slots = elim (cases_lt key (length slots)) [
      | inl lt ↦ lt
      | inr le ↦ absurd (let none : None ≡ Some found.node = sym (get_or_past slots key None le) ∙ found.stands in cc)
    ] in
    let room = c.capacity.ensures.slots in
    omega (arith, small, stored, room, c.min.ensures)
