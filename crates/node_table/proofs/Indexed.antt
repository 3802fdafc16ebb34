-- What a table asks of its index.
use Rattle.std.proofs.Common.{◌≡◌, ℕ, sym, ◌∙◌, ap}
use Rattle.slab.specs.Slab.{Slab}
use Rattle.node_table.specs.declared.index.Index.{Index}
use Rattle.node_table.specs.declared.node.Node.{Node}
use Rattle.node_table.specs.declared.node.Branch.{Branch}
use Rattle.node_table.specs.declared.stored.Child.{Child}
use Rattle.node_table.specs.declared.stored.StoredNode.{StoredNode}
use Rattle.node_table.specs.Index.{IsIndexOf, IsTriple}
use Rattle.node_table.specs.Stored.{branch_in, child_of, node_of_word}
use Rattle.node_table.proofs.IndexKeys.{same_nodes_indexed}
use Rattle.node_table.proofs.Words.{node_of_word-word_of_node, child_from_node}

-- it speaks of the stored nodes, and not of the room for more
pub IsIndexOf-room : (index : Index) (old room : Slab StoredNode) → room ≡ record old { capacity = room.capacity } → IsIndexOf index old
    → IsIndexOf index room
IsIndexOf-room index old room kept = same_nodes_indexed index old room (ap (λ (s : Slab StoredNode). s.slots) kept)

-- a node of this level and these children is stored under its triple
pub triple_from_branch : (node : StoredNode) (branch : Branch) → branch ≡ branch_in node
    → (level : ℕ) (high low : Node) (high_child low_child : Child) → high_child ≡ child_of high → low_child ≡ child_of low → branch.level
    ≡ level → branch.high ≡ high → branch.low ≡ low
    → IsTriple node level high_child low_child
triple_from_branch node branch is level high low high_child low_child high_is low_is same_level same_high same_low = record {
  level = sym (ap (λ (b : Branch). b.level) is) ∙ same_level;
  high = child_from_node node.high high (sym (ap (λ (b : Branch). b.high) is) ∙ same_high) ∙ sym high_is;
  low = child_from_node node.low low (sym (ap (λ (b : Branch). b.low) is) ∙ same_low) ∙ sym low_is;
}

node_from_child : (child other : Child) (node : Node) → child ≡ other → other ≡ child_of node → node_of_word child.word ≡ node
node_from_child child other node same is = ap (λ (c : Child). node_of_word c.word) (same ∙ is) ∙ node_of_word-word_of_node node

-- and the other way round
pub branch_from_triple : (node : StoredNode) (level : ℕ) (high low : Node) (high_child low_child : Child) → high_child ≡ child_of high
    → low_child ≡ child_of low → IsTriple node level high_child low_child
    → (node.level ≡ level) × (node_of_word node.high.word ≡ high) × (node_of_word node.low.word ≡ low)
branch_from_triple node level high low high_child low_child high_is low_is triple =
    (triple.level, node_from_child node.high high_child high triple.high high_is, node_from_child node.low low_child low triple.low low_is)
