-- The cofactors of a node at the level that was asked for.
use Rattle.std.proofs.Common.{◌≡◌, ℕ, Some, is_some, ap, ◌∙◌, arith, eq-eqb}
use Rattle.std.specs.Prelude.{if◌then◌else◌}
use Rattle.node_table.specs.declared.node.Node.{Node}
use Rattle.node_table.specs.declared.node.Node.TheVariants.{Inner}
use Rattle.node_table.specs.declared.node.NodeKey.{NodeKey}
use Rattle.node_table.specs.declared.node.Branch.{Branch}
use Rattle.node_table.specs.Diagram.{Graph, branch_at, child_in}
use Rattle.node_table.specs.Table.{HasChildren}
use Rattle.node_table.proofs.Values.{level_of-inner}

-- a node of the level has its own children
pub children_of : (graph : Graph) (level : ℕ) (high low : Node) (key : NodeKey) (b : Branch) → branch_at graph key.index ≡ Some b → b.level
    ≡ level → b.high ≡ high → b.low ≡ low
    → HasChildren graph level high low (Inner key)
children_of graph level high low key b at here is_high is_low =
    record {
      stands = ap is_some at;
      not_above = omega (arith, level_of-inner graph key b at, here);
      high_child = ap (child_in (λ x. x.high) level (Inner key)) at ∙ ap (λ t. if t then b.high else Inner key) (eq-eqb b.level level here)
          ∙ is_high;
      low_child = ap (child_in (λ x. x.low) level (Inner key)) at ∙ ap (λ t. if t then b.low else Inner key) (eq-eqb b.level level here)
          ∙ is_low;
    }
