-- The operands of an operation as the key of its cache: when two pairs of nodes are the same, and whether one is among others.
use Rattle.std.proofs.Common.{◌≡◌, ◌≢◌, ◌&&◌, Bool, true, false, List, refl, ap, eqb-true}
use Rattle.node_table.specs.declared.node.Node.{Node}
use Rattle.node_table.specs.declared.node.Node.TheVariants.{False, True, Inner}
use Rattle.node_table.specs.contracts.node.NodePartialEq.TheImpl as node_equality
use Rattle.op_cache.specs.Laws.{is_among}

-- an inner node
abbrev pub IsNoConstant : Node → Type 0
IsNoConstant node = (node ≢ False) × (node ≢ True)

abbrev pub Pair : Type 0
Pair = Node × Node

-- Whether two pairs of operands are the same.
abbrev pub same_pair : Pair → Pair → Bool
same_pair one other = node_equality.ghosts.eq one.0 other.0 && node_equality.ghosts.eq one.1 other.1

-- the pair is one of these
abbrev pub is_one : List Pair → Pair → Bool
is_one pairs pair = is_among same_pair pairs pair

-- nodes that are the same are equal
pub same_node : (x y : Node) → node_equality.ghosts.eq x y ≡ true → x ≡ y
same_node False False is = refl
same_node False True is = cc
same_node False (Inner b) is = cc
same_node True False is = cc
same_node True True is = refl
same_node True (Inner b) is = cc
same_node (Inner a) False is = cc
same_node (Inner a) True is = cc
same_node (Inner a) (Inner b) is = let same : a.index ≡ b.index = eqb-true a.index b.index is in ap (λ i. Inner (record { index = i })) same

-- pairs that are the same are equal
pub equal_pairs : (one other : Pair) → same_pair one other ≡ true → one ≡ other
equal_pairs one other is =
    let both = both_true (node_equality.ghosts.eq one.0 other.0) (node_equality.ghosts.eq one.1 other.1) is in
    let first = same_node one.0 other.0 both.0 in let second = same_node one.1 other.1 both.1 in λ i. (first i, second i)
  where
    both_true : (a b : Bool) → (a && b) ≡ true → (a ≡ true) × (b ≡ true)
    both_true true b is = (refl, is)
    both_true false b is = cc
