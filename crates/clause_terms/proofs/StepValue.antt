-- A literal's node holds where the literal does, or the next node.
use Rattle.std.proofs.Common.{◌≡◌, Bool, true, false, not, ◌||◌, List, ◌∷◌, refl, ap, ◌∙◌}
use Rattle.std.specs.Prelude.{IsTrue, if◌then◌else◌}
use Rattle.std.specs.List.{list_any}
use Rattle.node_table.specs.declared.node.Node.{Node}
use Rattle.node_table.specs.declared.node.Node.TheVariants.{True}
use Rattle.node_table.specs.Diagram.{Graph, IsReduced, KeepsNodes, is_node, low_at}
use Rattle.node_table.specs.Laws.{Cofactors, Growth}
use Rattle.node_table.specs.Value.{Levels, value_of}
use Rattle.node_table.specs.Table.{HasChildren}
use Rattle.clause_terms.specs.declared.placed.Placed.{Placed}
use Rattle.clause_terms.specs.Placed.{placed_holds}
use Rattle.clause_terms.specs.ClauseDiagram.{high_of, low_of}

pub chosen : (negative t v : Bool) (graph : Graph) (a : Levels) (below : Node) → value_of graph a below ≡ v
    → (if t then value_of graph a (if negative then below else True) else value_of graph a (if negative then True else below))
    ≡ ((if negative then not t else t) || v)
chosen false false v graph a below is = is
chosen false true v graph a below is = refl
chosen true false v graph a below is = refl
chosen true true v graph a below is = is

pub value_step : Cofactors → Growth → (old new : Graph) → IsReduced old → IsReduced new → KeepsNodes old new
    → (p : Placed) (placed : List Placed) (below node : Node)
    → IsTrue (is_node old below) → ((a : Levels) → value_of old a below ≡ list_any (placed_holds a) placed)
    → HasChildren new p.level (high_of p below) (low_of p below) node
    → (a : Levels) → value_of new a node ≡ list_any (placed_holds a) (p ∷ placed)
value_step cofactors growth old new old_reduced reduced keeps p placed below node below_stands below_value has a =
    cofactors.value new reduced a p.level node has.stands
    ∙ ap (λ n. if a p.level then value_of new a n else value_of new a (low_at new p.level node)) has.high_child
    ∙ ap (λ n. if a p.level then value_of new a (high_of p below) else value_of new a n) has.low_child
    ∙ chosen p.negative (a p.level) (list_any (placed_holds a) placed) new a below
    (growth.value old new old_reduced keeps a below below_stands ∙ below_value a)
