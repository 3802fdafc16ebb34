-- A node that is refused for want of room is of a part of the clause that no node is of.
use Rattle.std.proofs.Common.{◌≡◌, ◌∙◌, ℕ, ◌<◌, Bool, true, false, List, ◌∷◌, refl, sym, subst}
use Rattle.std.specs.Prelude.{if◌then◌else◌}
use Rattle.std.specs.List.{list_any}
use Rattle.node_table.specs.declared.node.Node.{Node}
use Rattle.node_table.specs.declared.node.Node.TheVariants.{True}
use Rattle.node_table.specs.Diagram.{Graph, IsReduced, IsBelow, levels}
use Rattle.node_table.specs.Laws.{Missing, Subfunctions}
use Rattle.node_table.specs.Made.{LacksPart}
use Rattle.node_table.specs.Table.{IsWanted}
use Rattle.node_table.specs.Value.{Levels, value_of, IsSubfunction}
use Rattle.clause_terms.specs.declared.placed.Placed.{Placed}
use Rattle.clause_terms.specs.Placed.{placed_holds, placed_function}
use Rattle.clause_terms.specs.ClauseDiagram.{high_of, low_of}
use Rattle.clause_terms.proofs.StepValue.{chosen}

child_below : (graph : Graph) (level : ℕ) → level < levels graph → (below : Node) → IsBelow graph level below → (own : Bool)
    → IsBelow graph level (if own then below else True)
child_below graph level small below is true = is
child_below graph level small below is false = record { stands = refl; below = small }

other_below : (graph : Graph) (level : ℕ) → level < levels graph → (below : Node) → IsBelow graph level below → (own : Bool)
    → IsBelow graph level (if own then True else below)
other_below graph level small below is true = record { stands = refl; below = small }
other_below graph level small below is false = is

pub lacked_literal : Subfunctions → Missing → (graph : Graph) → IsReduced graph → (p : Placed) (more : List Placed) (below : Node) → p.level
    < levels graph
    → IsBelow graph p.level below → ((a : Levels) → value_of graph a below ≡ list_any (placed_holds a) more)
    → IsWanted graph p.level (high_of p below) (low_of p below) → LacksPart graph (placed_function (p ∷ more))
lacked_literal parts missing graph reduced p more below small is_below value wanted = record {
  part = placed_function (p ∷ more);
  is_part = parts.same (placed_function (p ∷ more));
  nowhere = λ node is equal. missing graph reduced p.level (high_of p below) (low_of p below) small
      (child_below graph p.level small below is_below p.negative) (other_below graph p.level small below is_below p.negative) wanted node is
      (λ a. equal a ∙ sym (chosen p.negative (a p.level) (list_any (placed_holds a) more) graph a below (value a)));
}

pub lacked_whole : Subfunctions → (graph : Graph) (f g : Levels → Bool) → IsSubfunction f g → LacksPart graph g → LacksPart graph f
lacked_whole parts graph f g part lacks = record {
  part = lacks.part;
  is_part = parts.further f g lacks.part part lacks.is_part;
  nowhere = lacks.nowhere;
}

pub lacked_by_values : (graph : Graph) (f g : Levels → Bool) → ((a : Levels) → f a ≡ g a) → LacksPart graph f → LacksPart graph g
lacked_by_values graph f g same lacks = subst (LacksPart graph) (λ i a. same a i) lacks
