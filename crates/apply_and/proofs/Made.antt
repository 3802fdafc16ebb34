-- The nodes that a conjunction makes are subfunctions of it, and reachable from its result.
use Rattle.std.proofs.Common.{◌≡◌, ◌≢◌, ◌+◌, ℕ, ◌&&◌, true, false, Bool, Some, sym, ◌∙◌, subst, inl, inr, ◌⊎◌}
use Rattle.lrat_rules.specs.State.{Live}
use Rattle.node_table.specs.declared.node.Node.{Node}
use Rattle.node_table.specs.declared.node.Justification.{Justification}
use Rattle.node_table.specs.declared.node.Branch.{Branch}
use Rattle.node_table.specs.Diagram.{Graph, IsReduced, KeepsNodes, branch_at, is_node}
use Rattle.node_table.specs.Value.{Levels, value_of, IsSubfunction}
use Rattle.node_table.specs.Table.{HasChildren, IsWanted}
use Rattle.node_table.specs.Made.{LacksPart, MakesOnly, Reaches, ReachesNew, inner}
use Rattle.node_table.specs.Laws.{Cofactors, Growth, Missing, Reachability, Subfunctions}
use Rattle.operations.specs.declared.operands.Operands.{Operands}
use Rattle.operations.specs.Ended.{lacks_for}
use Rattle.operations.specs.Operands.{AreSplit, Splitting}
use Rattle.operations.specs.Pairs.{IsNoConstant}
use Rattle.apply_and.specs.Conjunction.{conjunction_of, IsPlain}
use Rattle.apply_and.proofs.Conjunctions.{IsReady, high_below, low_below, sides_value, value_ready}

-- no conjunction of two inner nodes that differ is plain
pub not_plain : (u v w : Node) → u ≢ v → IsNoConstant u → IsNoConstant v → IsPlain u v w → ⊥
not_plain u v w differ first second (inl either) = elim either.0 [ inl is ↦ first.0 is | inr is ↦ second.0 is ]
not_plain u v w differ first second (inr (inl both)) = first.1 both.0
not_plain u v w differ first second (inr (inr (inl both))) = second.1 both.0
not_plain u v w differ first second (inr (inr (inr both))) = differ both.0

-- the conjunction of the cofactors is that of the operands with the levels down to this one true, or false
module _ (parts : Subfunctions) (splits : Splitting) (graph : Graph) (reduced : IsReduced graph) (o : Operands)
    (split : AreSplit graph o) where
  high_part : IsSubfunction (conjunction_of graph o.u o.v) (conjunction_of graph o.u_high o.v_high)
  high_part =
      let small = splits.level graph reduced o split in
      record {
        level = o.level + 1;
        fixed = λ i. true;
        same = λ a.
            (λ i. value_of graph a (split.first_high i) && value_of graph a (split.second_high i))
            ∙ (λ i. parts.high_value graph reduced o.level o.u (splits.first graph o split) split.first_below small a i
            && parts.high_value graph reduced o.level o.v (splits.second graph o split) split.second_below small a i);
      }

  low_part : IsSubfunction (conjunction_of graph o.u o.v) (conjunction_of graph o.u_low o.v_low)
  low_part =
      let small = splits.level graph reduced o split in
      record {
        level = o.level + 1;
        fixed = λ i. false;
        same = λ a.
            (λ i. value_of graph a (split.first_low i) && value_of graph a (split.second_low i))
            ∙ (λ i. parts.low_value graph reduced o.level o.u (splits.first graph o split) split.first_below small a i
            && parts.low_value graph reduced o.level o.v (splits.second graph o split) split.second_below small a i);
      }

-- the function stays as the graph grows
conjunction_of-kept : Growth → (old new : Graph) → IsReduced old → KeepsNodes old new → (u v : Node) → is_node old u ≡ true → is_node old v
    ≡ true → conjunction_of new u v ≡ conjunction_of old u v
conjunction_of-kept growth old new reduced keeps u v first second = λ i a. growth.value old new reduced keeps a u first i
    && growth.value old new reduced keeps a v second i

-- the call for the high cofactors, that for the low ones, and the node of both results
module _ (parts : Subfunctions) (growth : Growth) (splits : Splitting) (old : Graph) (reduced : IsReduced old) (o : Operands)
    (split : AreSplit old o) (u v : Node) (same : (o.u ≡ u) × (o.v ≡ v)) where
  asked : conjunction_of old o.u o.v ≡ conjunction_of old u v
  asked = λ i. conjunction_of old (same.0 i) (same.1 i)

  high_of : IsSubfunction (conjunction_of old u v) (conjunction_of old o.u_high o.v_high)
  high_of = subst (λ (f : Levels → Bool). IsSubfunction f (conjunction_of old o.u_high o.v_high)) asked
      (high_part parts splits old reduced o split)

  pub made_high : (one : Graph) → MakesOnly old one (conjunction_of old o.u_high o.v_high) → MakesOnly old one (conjunction_of old u v)
  made_high one high = parts.made_for_part old one (conjunction_of old u v) (conjunction_of old o.u_high o.v_high) high_of high

  pub lacks_high : (one : Graph) → LacksPart one (conjunction_of old o.u_high o.v_high) → LacksPart one (conjunction_of old u v)
  lacks_high one lacks = lacks_for parts one (conjunction_of old u v) (conjunction_of old o.u_high o.v_high) high_of lacks

  module _ (one : Graph) (reduced_one : IsReduced one) (first : KeepsNodes old one) where
    split_one : AreSplit one o
    split_one = splits.kept old one first o split

    asked_one : conjunction_of one o.u o.v ≡ conjunction_of old u v
    asked_one = conjunction_of-kept growth old one reduced first o.u o.v (splits.first old o split) (splits.second old o split) ∙ asked

    low_of : IsSubfunction (conjunction_of old u v) (conjunction_of one o.u_low o.v_low)
    low_of = subst (λ (f : Levels → Bool). IsSubfunction f (conjunction_of one o.u_low o.v_low)) asked_one
        (low_part parts splits one reduced_one o split_one)

    pub lacks_low : (two : Graph) → LacksPart two (conjunction_of one o.u_low o.v_low) → LacksPart two (conjunction_of old u v)
    lacks_low two lacks = lacks_for parts two (conjunction_of old u v) (conjunction_of one o.u_low o.v_low) low_of lacks

    asked_two : (two : Graph) → KeepsNodes one two → conjunction_of two o.u o.v ≡ conjunction_of old u v
    asked_two two second = conjunction_of-kept growth one two reduced_one second o.u o.v (splits.first one o split_one)
        (splits.second one o split_one) ∙ asked_one

    pub lacks_both : (two new : Graph) → KeepsNodes one two → LacksPart new (conjunction_of two o.u o.v)
        → LacksPart new (conjunction_of old u v)
    lacks_both two new second lacks = subst (LacksPart new) (asked_two two second) lacks

    module _ (high : MakesOnly old one (conjunction_of old o.u_high o.v_high)) where
      pub made_low : (two : Graph) → KeepsNodes one two → MakesOnly one two (conjunction_of one o.u_low o.v_low)
          → MakesOnly old two (conjunction_of old u v)
      made_low two second low =
          parts.made_further old one two reduced_one second (conjunction_of old u v) (made_high one high)
          (parts.made_for_part one two (conjunction_of old u v) (conjunction_of one o.u_low o.v_low) low_of low)

      pub made_all : (two new : Graph) → IsReduced two → KeepsNodes one two → KeepsNodes two new
          → MakesOnly one two (conjunction_of one o.u_low o.v_low)
          → MakesOnly two new (conjunction_of two o.u o.v) → MakesOnly old new (conjunction_of old u v)
      made_all two new reduced_two second third low both =
          parts.made_further old two new reduced_two third (conjunction_of old u v) (made_low two second low)
          (subst (MakesOnly two new) (asked_two two second) both)

-- The node of both results, where it is new: it has the function asked for, and is the result.
pub made_node : Subfunctions → Growth → Cofactors → Splitting → (old new : Graph) → IsReduced old → IsReduced new → KeepsNodes old new
    → (live : Live) (o : Operands) → AreSplit old o
    → (high low : Node × Justification) → IsReady new live o high low
    → ((key : ℕ) (branch : Branch) → branch_at new key ≡ Some branch → (branch_at old key ≡ Some branch)
    ⊎ HasChildren new o.level high.0 low.0 (inner key)) → MakesOnly old new (conjunction_of old o.u o.v)
made_node parts growth laws splits old new reduced reduced_new keeps live o split high low ready only = record {
  each = λ key branch is. elim (only key branch is) [
    | inl before ↦ inl before
    | inr children ↦ inr (subst (IsSubfunction (conjunction_of old o.u o.v))
        (sym ((λ i a. value_ready laws splits new reduced_new live o high low ready (inner key) children a i)
        ∙ conjunction_of-kept growth old new reduced keeps o.u o.v (splits.first old o split) (splits.second old o split)))
        (parts.same (conjunction_of old o.u o.v)))
  ];
}

pub reached_node : Reachability → (old new : Graph) (w : Node)
    → ((key : ℕ) (branch : Branch) → branch_at new key ≡ Some branch → (branch_at old key ≡ Some branch) ⊎ (w ≡ inner key))
    → ReachesNew old new w
reached_node paths old new w only = record {
  each = λ key branch is. elim (only key branch is) [
    | inl before ↦ inl before
    | inr same ↦ inr (subst (Reaches new w) same (paths.itself new w))
  ];
}

-- the node of both results that is refused
pub lacks_one : Cofactors → Subfunctions → Missing → Splitting → (graph : Graph) → IsReduced graph
    → (live : Live) (o : Operands) (high low : Node × Justification) → IsReady graph live o high low
    → IsWanted graph o.level high.0 low.0 → LacksPart graph (conjunction_of graph o.u o.v)
lacks_one laws parts missing splits graph reduced live o high low ready wanted = record {
  part = conjunction_of graph o.u o.v;
  is_part = parts.same (conjunction_of graph o.u o.v);
  nowhere = λ node is same.
      missing graph reduced o.level high.0 low.0 (splits.level graph reduced o ready.split)
      (high_below splits graph reduced live o high low ready) (low_below splits graph reduced live o high low ready)
      wanted node is (λ a. same a ∙ sym (sides_value laws splits graph reduced live o high low ready a));
}
