-- What a sweep leaves: the nodes that stay were the old graph's, so this one keeps those of the new one, and all that a
-- graph that grows says holds from the new one to the old one.
use Rattle.std.proofs.Common.{◌≡◌, ℕ, Bool, true, false, List, length, None, Some, is_some, refl, sym, ap, ◌∙◌}
use Rattle.std.proofs.Common.{arith}
use Rattle.std.specs.Prelude.{if◌then◌else◌}
use Rattle.node_table.specs.declared.node.Node.{Node}
use Rattle.node_table.specs.declared.node.Node.TheVariants.{False, True, Inner}
use Rattle.node_table.specs.declared.node.Branch.{Branch}
use Rattle.node_table.specs.Diagram.{Graph, IsReduced, IsBelow, KeepsNodes, branch_at, is_node, levels, level_of}
use Rattle.node_table.specs.Defined.{atom_of}
use Rattle.node_table.specs.Made.{inner}
use Rattle.node_table.specs.Marks.{AreMarks, is_marked}
use Rattle.node_table.specs.Swept.{IsSwept}
use Rattle.node_table.proofs.Grown.{level_of-kept}
use Rattle.node_table.proofs.KeptFrom.{KeepsFrom-all, atom_of-from}

module _ (old new : Graph) (marks : List Bool) (are : AreMarks old marks) (swept : IsSwept old new marks) where
  -- a marked node stays
  pub branch_at_marked : (key : ℕ) → is_marked marks (inner key) ≡ true → branch_at new key ≡ branch_at old key
  branch_at_marked key is = swept.nodes key ∙ ap (λ b. if b then branch_at old key else None) is

  -- a node that is left is marked, and was there
  pub left_marked : (key : ℕ) (branch : Branch) → branch_at new key ≡ Some branch → (is_marked marks (inner key) ≡ true)
      × (branch_at old key ≡ Some branch)
  left_marked key branch at =
      elim (is_marked marks (inner key)) as (λ b. is_marked marks (inner key) ≡ b → (is_marked marks (inner key) ≡ true)
      × (branch_at old key ≡ Some branch)) [
        | true ↦ λ is. (is, sym (branch_at_marked key is) ∙ at)
        | false ↦ λ is. absurd (let none : branch_at new key ≡ None = swept.nodes key
            ∙ ap (λ b. if b then branch_at old key else None) is in cc)
      ] refl

  pub KeepsNodes-swept : KeepsNodes new old
  KeepsNodes-swept = record { order = sym swept.order; nodes = λ key branch at. (left_marked key branch at).1 }

  -- a marked node is a node of the new graph
  pub stands_swept : (node : Node) → is_marked marks node ≡ true → is_node new node ≡ true
  stands_swept False is = refl
  stands_swept True is = refl
  stands_swept (Inner key) is = ap is_some (branch_at_marked key.index is) ∙ are.stand key.index is

  pub level_of_swept : (node : Node) → is_marked marks node ≡ true → level_of new node ≡ level_of old node
  level_of_swept node is = sym (level_of-kept new old KeepsNodes-swept node (stands_swept node is))

  pub atom_of_swept : (node : Node) → is_marked marks node ≡ true → atom_of new node ≡ atom_of old node
  atom_of_swept node is = sym (atom_of-from new old node (KeepsFrom-all new old KeepsNodes-swept node) (stands_swept node is))

  below_swept : (level : ℕ) (node : Node) → is_marked marks node ≡ true → IsBelow old level node → IsBelow new level node
  below_swept level node is below = record {
    stands = stands_swept node is;
    below = omega (arith, below.below, level_of_swept node is);
  }

  levels_swept : levels new ≡ levels old
  levels_swept = ap length swept.order

  pub reduced_swept : IsReduced old → IsReduced new
  reduced_swept reduced = record {
    level = λ key b at. omega (arith, levels_swept, reduced.level key b (left_marked key b at).1);
    high = λ key b at.
        let was = left_marked key b at in
        below_swept b.level b.high (are.high key b was.0 was.1) (reduced.high key b was.1);
    low = λ key b at.
        let was = left_marked key b at in
        below_swept b.level b.low (are.low key b was.0 was.1) (reduced.low key b was.1);
    differ = λ key b at. reduced.differ key b (left_marked key b at).1;
    unique = λ key other one two at also. reduced.unique key other one two (left_marked key one at).1 (left_marked other two also).1;
    above = λ key b at. omega (arith, levels_swept, reduced.above key b (left_marked key b at).1);
    apart = λ key other one two at also. reduced.apart key other one two (left_marked key one at).1 (left_marked other two also).1;
  }
