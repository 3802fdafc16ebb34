-- The number by which a node is hashed: that of its key, and for the constants numbers that no key has.
use Rattle.std.specs.Prelude.{ℕ}
use Rattle.node_table.specs.declared.node.Node.{Node}
use Rattle.node_table.specs.declared.node.Node.TheVariants.{False, True, Inner}

abbrev pub hash_word : Node → ℕ
hash_word False = 4294967295
hash_word True = 4294967294
hash_word (Inner key) = key.index
