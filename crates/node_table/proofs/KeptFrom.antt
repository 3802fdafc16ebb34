-- What a graph that keeps what is reachable from a node says of this node.
use Rattle.std.proofs.Common.{◌≡◌, ℕ, zero, suc, Bool, true, false, List, length, [], ◌∷◌, Option, Some, is_some, refl, sym, ap, ◌∙◌}
use Rattle.std.specs.Prelude.{if◌then◌else◌}
use Rattle.node_table.specs.declared.node.Node.{Node}
use Rattle.node_table.specs.declared.node.Node.TheVariants.{False, True, Inner}
use Rattle.node_table.specs.Diagram.{Graph, IsReduced, KeepsNodes, branch_of, is_node, levels, level_of}
use Rattle.node_table.specs.declared.node.Branch.{Branch}
use Rattle.node_table.specs.Value.{Levels, branch_value, value_within, value_of}
use Rattle.node_table.specs.Defined.{atom_of, atom_in}
use Rattle.node_table.specs.Made.{KeepsFrom, Reaches, child_of, end_of}
use Rattle.node_table.proofs.Values.{branch_of_node, level_of-inner}
use Rattle.node_table.proofs.Reached.{Reaches-itself, Reaches-further, Reaches-child, child_stands}

pub KeepsFrom-all : (old new : Graph) → KeepsNodes old new → (node : Node) → KeepsFrom old new node
KeepsFrom-all old new keeps node = record { order = keeps.order; nodes = λ key b reached at. keeps.nodes key b at }

pub stands-from : (old new : Graph) (node : Node) → KeepsFrom old new node → is_node old node ≡ true → is_node new node ≡ true
stands-from old new False keeps is = refl
stands-from old new True keeps is = refl
stands-from old new (Inner key) keeps is =
    let branch = branch_of_node old key is in
    ap is_some (keeps.nodes key.index branch.0 (Reaches-itself old (Inner key)) branch.1)

pub level_of-from : (old new : Graph) (node : Node) → KeepsFrom old new node → is_node old node ≡ true → level_of new node
    ≡ level_of old node
level_of-from old new False keeps is = ap length keeps.order
level_of-from old new True keeps is = ap length keeps.order
level_of-from old new (Inner key) keeps is =
    let branch = branch_of_node old key is in
    level_of-inner new key branch.0 (keeps.nodes key.index branch.0 (Reaches-itself old (Inner key)) branch.1)
    ∙ sym (level_of-inner old key branch.0 branch.1)

module _ (old new : Graph) (root : Node) (reduced : IsReduced old) (keeps : KeepsFrom old new root) where
  -- a node that is reachable from this one
  branch_of-from : (node : Node) → Reaches old root node → is_node old node ≡ true → branch_of new node ≡ branch_of old node
  branch_of-from False reached is = refl
  branch_of-from True reached is = refl
  branch_of-from (Inner key) reached is =
      let branch = branch_of_node old key is in
      keeps.nodes key.index branch.0 reached branch.1 ∙ sym branch.1

  child : (to_high : Bool) (node : Node) (b : Branch) → branch_of old node ≡ Some b → Reaches old root node
      → Reaches old root (child_of to_high node (Some b))
  child to_high node b at reached = Reaches-further old root node (child_of to_high node (Some b)) reached
      (Reaches-child old to_high node b at)

  value_within-from : (steps : ℕ) (a : Levels) (node : Node) → Reaches old root node → is_node old node ≡ true
      → value_within steps new a node ≡ value_within steps old a node
  value_within-from steps a False reached is = refl
  value_within-from steps a True reached is = refl
  value_within-from zero a (Inner key) reached is = refl
  value_within-from (suc steps) a (Inner key) reached is =
      let branch = branch_of_node old key is in
      let b = branch.0 in
      let high : value_within steps new a b.high ≡ value_within steps old a b.high =
      value_within-from steps a b.high (child true (Inner key) b branch.1 reached) (reduced.high key.index b branch.1).stands in
      let low : value_within steps new a b.low ≡ value_within steps old a b.low =
      value_within-from steps a b.low (child false (Inner key) b branch.1 reached) (reduced.low key.index b branch.1).stands in
      ap (branch_value a (value_within steps new a)) (keeps.nodes key.index b reached branch.1)
      ∙ (λ i. if a b.level then high i else low i)
      ∙ sym (ap (branch_value a (value_within steps old a)) branch.1)

  -- paths from it stay
  end_of-from : (node : Node) → Reaches old root node → is_node old node ≡ true → (path : List Bool) → end_of new node path
      ≡ end_of old node path
  end_of-from node reached is [] = refl
  end_of-from node reached is (to_high ∷ path) =
      ap (λ (o : Option Branch). end_of new (child_of to_high node o) path) (branch_of-from node reached is)
      ∙ end_of-from (child_of to_high node (branch_of old node))
      (Reaches-further old root node _ reached (record { path = to_high ∷ []; ends = refl }))
      (child_stands old reduced to_high node is) path

pub value-from : (old new : Graph) (node : Node) → IsReduced old → KeepsFrom old new node → (a : Levels) → is_node old node ≡ true
    → value_of new a node ≡ value_of old a node
value-from old new node reduced keeps a is =
    ap (λ (o : List ℕ). value_within (length o) new a node) keeps.order
    ∙ value_within-from old new node reduced keeps (levels old) a node (Reaches-itself old node) is

pub atom_of-from : (old new : Graph) (node : Node) → KeepsFrom old new node → is_node old node ≡ true → atom_of new node ≡ atom_of old node
atom_of-from old new False keeps is = refl
atom_of-from old new True keeps is = refl
atom_of-from old new (Inner key) keeps is =
    let branch = branch_of_node old key is in
    ap atom_in (keeps.nodes key.index branch.0 (Reaches-itself old (Inner key)) branch.1 ∙ sym branch.1)

pub KeepsFrom-further : (old mid new : Graph) (node : Node) → IsReduced old → is_node old node ≡ true → KeepsFrom old mid node
    → KeepsFrom mid new node → KeepsFrom old new node
KeepsFrom-further old mid new node reduced is first second = record {
  order = second.order ∙ first.order;
  nodes = λ key b reached at.
      let stays : Reaches mid node (Inner (record { index = key })) =
      record {
        path = reached.path;
        ends = end_of-from old mid node reduced first node (Reaches-itself old node) is reached.path
            ∙ reached.ends;
      } in
      second.nodes key b stays (first.nodes key b reached at);
}
