-- A child in one word.
use Rattle.std.proofs.Common.{◌≡◌, ◌+◌, ℕ, zero, suc, refl, sym, ◌∙◌, ap, arith}
use Rattle.node_table.specs.declared.node.Node.{Node}
use Rattle.node_table.specs.declared.node.Node.TheVariants.{False, True, Inner}
use Rattle.node_table.specs.declared.stored.Child.{Child}
use Rattle.node_table.specs.Stored.{child_of, child_of_word, node_of_word, word_of_node}

pub node_of_word-inner : (word key : ℕ) → word ≡ key + 2 → node_of_word word ≡ Inner (record { index = key })
node_of_word-inner zero key e = absurd (omega arith)
node_of_word-inner (suc zero) key e = absurd (omega arith)
node_of_word-inner (suc (suc word)) key e = let same : word ≡ key = omega arith in ap (λ (n : ℕ). Inner (record { index = n })) same

pub node_of_word-word_of_node : (node : Node) → node_of_word (word_of_node node) ≡ node
node_of_word-word_of_node False = refl
node_of_word-word_of_node True = refl
node_of_word-word_of_node (Inner key) = node_of_word-inner (key.index + 2) key.index refl

-- a child is known by its node
pub child_from_node : (child : Child) (node : Node) → node_of_word child.word ≡ node → child ≡ child_of node
child_from_node child node is =
    let word : child.word ≡ word_of_node node = ap (λ (c : Child). c.word) (sym (child_of_word child)) ∙ ap word_of_node is in
    λ i. record { word = word i }
