-- The disjunction by its cofactors.
use Rattle.std.proofs.Common.{◌≡◌, ◌≢◌, ◌+◌, ◌||◌, ℕ, Bool, true, false, Option, None, Some, is_some, refl, sym, ◌∙◌, subst, arith, inl}
use Rattle.std.proofs.Common.{inr}
use Rattle.std.specs.Prelude.{if◌then◌else◌}
use Rattle.node_table.specs.declared.node.Node.{Node}
use Rattle.node_table.specs.declared.node.Node.TheVariants.{False, True, Inner}
use Rattle.node_table.specs.declared.node.NodeKey.{NodeKey}
use Rattle.node_table.specs.declared.node.Branch.{Branch}
use Rattle.node_table.specs.Diagram.{Graph, IsBelow, IsReduced, KeepsNodes, branch_of, is_node}
use Rattle.node_table.specs.Laws.{Canonical, Cofactors, Growth, Subfunctions}
use Rattle.node_table.specs.Table.{TableState, IsSound, Extends, HasChildren}
use Rattle.node_table.specs.Value.{Levels, IsSubfunction, value_of}
use Rattle.operations.specs.declared.operands.Operands.{Operands}
use Rattle.operations.specs.Operands.{AreSplit, IsInner, Splitting}
use Rattle.operations.specs.Results.{Disjoined}
use Rattle.operations.specs.Entries.{Disjunction, Fitting}
use Rattle.quantify.specs.Disjunction.{IsPlain, disjunction_of}
use Rattle.quantify.specs.Runs.{HasSides}

some_branch : (o : Option Branch) → is_some o ≡ true → (branch : Branch) × (o ≡ Some branch)
some_branch None is = cc
some_branch (Some branch) is = (branch, refl)

-- a node that stands and has a key is an inner one
pub is_inner : (graph : Graph) (node : Node) (key : NodeKey) → node ≡ Inner key → is_node graph node ≡ true → IsInner graph node
is_inner graph node key named stands =
    let branch = some_branch (branch_of graph (Inner key)) (subst (λ (n : Node). is_node graph n ≡ true) named stands) in
    subst (IsInner graph) (sym named) (record { branch = branch.0; is = branch.1 })

no_inner : (graph : Graph) → IsInner graph False → ⊥
no_inner graph inner = let is = inner.is in cc

no_inner_true : (graph : Graph) → IsInner graph True → ⊥
no_inner_true graph inner = let is = inner.is in cc

-- no disjunction of two inner nodes that differ is plain
pub not_plain : (graph : Graph) (u v w : Node) → u ≢ v → IsInner graph u → IsInner graph v → IsPlain u v w → ⊥
not_plain graph u v w differ first second (inl either) =
    elim either.0 [
      | inl is ↦ no_inner_true graph (subst (IsInner graph) is first)
      | inr is ↦ no_inner_true graph
          (subst (IsInner graph) is second)
    ]
not_plain graph u v w differ first second (inr (inl both)) = no_inner graph (subst (IsInner graph) both.0 first)
not_plain graph u v w differ first second (inr (inr (inl both))) = no_inner graph (subst (IsInner graph) both.0 second)
not_plain graph u v w differ first second (inr (inr (inr both))) = differ both.0

-- one disjunction alone stands in a reduced graph
pub only_disjunction : Canonical → (graph : Graph) → IsReduced graph → (u v w other : Node) → Disjoined graph u v w
    → Disjoined graph u v other → w ≡ other
only_disjunction canonical graph reduced u v w other one two = canonical graph reduced w other one.stands two.stands (λ a. one.value a
    ∙ sym (two.value a))

-- what was found of two nodes below a level stands below it
pub found_below : (graph : Graph) (level : ℕ) (u v w : Node) → IsBelow graph level u → IsBelow graph level v → Disjoined graph u v w
    → IsBelow graph level w
found_below graph level u v w first second found = record {
  stands = found.stands;
  below = omega (arith, found.not_above (level + 1) (omega (arith, first.below)) (omega (arith, second.below)));
}

-- what was found stays right as the table grows
pub disjoined_kept : {S : Type 0} → Fitting S → (old new : TableState S) → IsSound old → Extends old new → (u v w : Node)
    → is_node old.graph u ≡ true → is_node old.graph v ≡ true
    → Disjoined old.graph u v w → Disjoined new.graph u v w
disjoined_kept fitting old new sound extends u v w first second found =
    let kept = fitting.one old new (Disjunction u v w) sound extends (record { first = first; second = second }, found) in kept.1

pub choose_either : (t w1 w0 u1 u0 v1 v0 : Bool) → w1 ≡ (u1 || v1) → w0 ≡ (u0 || v0) → (if t then w1 else w0)
    ≡ ((if t then u1 else u0) || (if t then v1 else v0))
choose_either true w1 w0 u1 u0 v1 v0 high low = high
choose_either false w1 w0 u1 u0 v1 v0 high low = low

-- the function stays as the graph grows
pub disjunction_of-kept : Growth → (old new : Graph) → IsReduced old → KeepsNodes old new → (u v : Node) → is_node old u ≡ true
    → is_node old v ≡ true → disjunction_of new u v ≡ disjunction_of old u v
disjunction_of-kept growth old new reduced keeps u v first second = λ i a. growth.value old new reduced keeps a u first i
    || growth.value old new reduced keeps a v second i

module _ (splits : Splitting) (graph : Graph) (reduced : IsReduced graph) (o : Operands) (split : AreSplit graph o) where
  module _ (high low : Node) (on_high : Disjoined graph o.u_high o.v_high high) (on_low : Disjoined graph o.u_low o.v_low low) where
    pub high_below : IsBelow graph o.level high
    high_below = found_below graph o.level o.u_high o.v_high high (splits.u_high graph reduced o split)
        (splits.v_high graph reduced o split) on_high

    pub low_below : IsBelow graph o.level low
    low_below = found_below graph o.level o.u_low o.v_low low (splits.u_low graph reduced o split)
        (splits.v_low graph reduced o split) on_low

    -- the disjunction is the node of both
    pub disjunction_sides : Cofactors → HasSides (value_of graph) o.level high low (disjunction_of graph o.u o.v)
    disjunction_sides laws a =
        choose_either (a o.level) (value_of graph a high) (value_of graph a low) (value_of graph a o.u_high) (value_of graph a o.u_low)
        (value_of graph a o.v_high) (value_of graph a o.v_low)
        (on_high.value a) (on_low.value a)
        ∙ (λ i. (if a o.level then value_of graph a (split.first_high i) else value_of graph a (split.first_low i))
        || (if a o.level then value_of graph a (split.second_high i) else value_of graph a (split.second_low i)))
        ∙ (λ i. sym (laws.value graph reduced a o.level o.u (splits.first graph o split)) i
        || sym (laws.value graph reduced a o.level o.v (splits.second graph o split)) i)

  -- the disjunction of the cofactors is that of the operands with the levels down to this one true, or false
  pub high_part : Subfunctions → IsSubfunction (disjunction_of graph o.u o.v) (disjunction_of graph o.u_high o.v_high)
  high_part parts =
      let small = splits.level graph reduced o split in
      record {
        level = o.level + 1;
        fixed = λ i. true;
        same = λ a.
            (λ i. value_of graph a (split.first_high i) || value_of graph a (split.second_high i))
            ∙ (λ i. parts.high_value graph reduced o.level o.u (splits.first graph o split) split.first_below small a i
            || parts.high_value graph reduced o.level o.v (splits.second graph o split) split.second_below small a i);
      }

  pub low_part : Subfunctions → IsSubfunction (disjunction_of graph o.u o.v) (disjunction_of graph o.u_low o.v_low)
  low_part parts =
      let small = splits.level graph reduced o split in
      record {
        level = o.level + 1;
        fixed = λ i. false;
        same = λ a.
            (λ i. value_of graph a (split.first_low i) || value_of graph a (split.second_low i))
            ∙ (λ i. parts.low_value graph reduced o.level o.u (splits.first graph o split) split.first_below small a i
            || parts.low_value graph reduced o.level o.v (splits.second graph o split) split.second_below small a i);
      }

-- the node of both results
pub disjoined_joined : Growth → Splitting → (old new : Graph) → IsReduced old → KeepsNodes old new → (o : Operands) → AreSplit old o
    → (high low w : Node) → HasChildren new o.level high low w
    → ((a : Levels) → value_of new a w ≡ disjunction_of old o.u o.v a) → Disjoined new o.u o.v w
disjoined_joined growth splits old new reduced keeps o split high low w children value =
    let now = splits.kept old new keeps o split in record {
      stands = children.stands;
      not_above = λ level first second. elim now.earlier [
        | inl is ↦ omega (arith, children.not_above, is, first)
        | inr is ↦ omega (arith, children.not_above, is, second)
      ];
      value = λ a. value a ∙ (λ i. sym (disjunction_of-kept growth old new reduced keeps o.u o.v (splits.first old o split)
          (splits.second old o split)) i a);
    }
