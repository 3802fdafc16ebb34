-- What a split says of its operands and their cofactors, and that it stays one as the graph grows.
use Rattle.std.proofs.Common.{◌≡◌, ◌<◌, ◌≤◌, ◌-◌, ℕ, true, Option, is_some, sym, ap, ◌∙◌, subst, arith, inl, inr, ◌⊎◌}
use Rattle.std.specs.Prelude.{min}
use Rattle.node_table.specs.declared.node.Node.{Node}
use Rattle.node_table.specs.declared.node.Branch.{Branch}
use Rattle.node_table.specs.Diagram.{Graph, IsReduced, IsBelow, KeepsNodes, branch_of, is_node, levels, level_of, level_in}
use Rattle.node_table.specs.Laws.{Cofactors, Growth}
use Rattle.operations.specs.declared.operands.Operands.{Operands}
use Rattle.operations.specs.Operands.{AreSplit, IsInner, Splitting, levels_from}
use Rattle.operations.proofs.NodeParts.{IsAt-from}

inner_stands : (graph : Graph) (node : Node) → IsInner graph node → is_node graph node ≡ true
inner_stands graph node inner =
    let at = IsAt-from graph node inner.branch inner.is in
    subst (λ (n : Node). is_node graph n ≡ true) (sym at.named) (ap is_some at.at)

inner_level : (graph : Graph) → IsReduced graph → (node : Node) → IsInner graph node → level_of graph node < levels graph
inner_level graph reduced node inner =
    let at = IsAt-from graph node inner.branch inner.is in
    subst (λ (n : Node). level_of graph n < levels graph) (sym at.named)
    (subst (λ (o : Option Branch). level_in (levels graph) o < levels graph) (sym at.at) (reduced.level at.key.index at.branch at.at))

-- the level of the step is one of the order's
split_level : (graph : Graph) → IsReduced graph → (o : Operands) → AreSplit graph o → o.level < levels graph
split_level graph reduced o split = omega (arith, split.first_below, inner_level graph reduced o.u split.first)

-- the cofactors of both operands stand below the level of the step
module _ (laws : Cofactors) (graph : Graph) (reduced : IsReduced graph) (o : Operands) (split : AreSplit graph o) where
  u_high_below : IsBelow graph o.level o.u_high
  u_high_below = subst (IsBelow graph o.level) (sym split.first_high)
      (laws.high graph reduced o.level o.u (inner_stands graph o.u split.first) split.first_below (split_level graph reduced o split))

  v_high_below : IsBelow graph o.level o.v_high
  v_high_below = subst (IsBelow graph o.level) (sym split.second_high)
      (laws.high graph reduced o.level o.v (inner_stands graph o.v split.second) split.second_below (split_level graph reduced o split))

  u_low_below : IsBelow graph o.level o.u_low
  u_low_below = subst (IsBelow graph o.level) (sym split.first_low)
      (laws.low graph reduced o.level o.u (inner_stands graph o.u split.first) split.first_below (split_level graph reduced o split))

  v_low_below : IsBelow graph o.level o.v_low
  v_low_below = subst (IsBelow graph o.level) (sym split.second_low)
      (laws.low graph reduced o.level o.v (inner_stands graph o.v split.second) split.second_below (split_level graph reduced o split))

-- the earlier of two nodes below comes after the earlier of the operands
measure_falls : (n u v one two l : ℕ) → l < n → l ≤ u → l ≤ v → (u ≡ l) ⊎ (v ≡ l) → l < one → l < two → n - min one two < n - min u v
measure_falls n u v one two l small first second (inl is) above_one above_two = omega arith
measure_falls n u v one two l small first second (inr is) above_one above_two = omega arith

fewer_levels : (graph : Graph) → IsReduced graph → (o : Operands) → AreSplit graph o → (u v : Node) → IsBelow graph o.level u
    → IsBelow graph o.level v → levels_from graph u v < levels_from graph o.u o.v
fewer_levels graph reduced o split u v first second =
    measure_falls (levels graph) (level_of graph o.u) (level_of graph o.v) (level_of graph u) (level_of graph v) o.level
    (split_level graph reduced o split) split.first_below split.second_below split.earlier first.below second.below

module _ (laws : Growth) (old new : Graph) (keeps : KeepsNodes old new) where
  inner_kept : (node : Node) → IsInner old node → IsInner new node
  inner_kept node inner =
      let at = IsAt-from old node inner.branch inner.is in
      record { branch = at.branch; is = ap (branch_of new) at.named ∙ keeps.nodes at.key.index at.branch at.at }

  split_kept : (o : Operands) → AreSplit old o → AreSplit new o
  split_kept o split =
      let first = inner_stands old o.u split.first in
      let second = inner_stands old o.v split.second in
      let u_level : level_of new o.u ≡ level_of old o.u = laws.level old new keeps o.u first in
      let v_level : level_of new o.v ≡ level_of old o.v = laws.level old new keeps o.v second in
      record {
        first = inner_kept o.u split.first;
        second = inner_kept o.v split.second;
        differ = split.differ;
        first_below = omega (arith, u_level, split.first_below);
        second_below = omega (arith, v_level, split.second_below);
        earlier = elim split.earlier [ inl is ↦ inl (u_level ∙ is) | inr is ↦ inr (v_level ∙ is) ];
        first_high = split.first_high ∙ sym (laws.high old new keeps o.level o.u first);
        first_low = split.first_low ∙ sym (laws.low old new keeps o.level o.u first);
        second_high = split.second_high ∙ sym (laws.high old new keeps o.level o.v second);
        second_low = split.second_low ∙ sym (laws.low old new keeps o.level o.v second);
      }

pub splitting : Cofactors → Growth → Splitting
splitting cofactors growth = record {
  first = λ graph o split. inner_stands graph o.u split.first;
  second = λ graph o split. inner_stands graph o.v split.second;
  level = split_level;
  u_high = u_high_below cofactors;
  u_low = u_low_below cofactors;
  v_high = v_high_below cofactors;
  v_low = v_low_below cofactors;
  fewer = fewer_levels;
  kept = split_kept growth;
}
