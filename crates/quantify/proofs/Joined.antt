-- The node of both sides: it has the function asked for, and is the only new one.
use Rattle.std.proofs.Common.{◌≡◌, ◌∙◌, ◌<◌, ◌⊎◌, ℕ, Bool, Ok, Err, Some, sym, subst, inl, inr}
use Rattle.std.specs.Prelude.{IfOk, if◌then◌else◌}
use Rattle.node_table.specs.declared.node.Node.{Node}
use Rattle.node_table.specs.declared.node.Branch.{Branch}
use Rattle.node_table.specs.Diagram.{Graph, IsBelow, IsReduced, KeepsNodes, branch_at, levels}
use Rattle.node_table.specs.HandedOn.{no_error, same_answer}
use Rattle.node_table.specs.Laws.{Cofactors, Growth, Missing, Reachability, Subfunctions}
use Rattle.node_table.specs.Made.{LacksPart, MakesOnly, Reaches, ReachesNew, inner}
use Rattle.node_table.specs.Table.{HasChildren, IsWanted, UnlessTorn}
use Rattle.node_table.specs.Value.{Levels, value_of, IsSubfunction}
use Rattle.quantify.specs.Runs.{HasSides}
use Rattle.quantify.proofs.Running.{Answer}

pub ok_from : (result : Answer) (P Q : Node → Type 0) → ((w : Node) → P w → Q w) → IfOk result P → IfOk result Q
ok_from (Ok w) P Q from holds = from w holds
ok_from (Err error) P Q from holds = tt

module _ (laws : Cofactors) (growth : Growth) (old new : Graph) (reduced : IsReduced old) (reduced_new : IsReduced new)
    (keeps : KeepsNodes old new) (level : ℕ) (high low : Node) (high_below : IsBelow old level high) (low_below : IsBelow old level low)
    (function : Levels → Bool) (sides : HasSides (value_of old) level high low function) where
  pub joined_value : (w : Node) → HasChildren new level high low w → (a : Levels) → value_of new a w ≡ function a
  joined_value w children a =
      laws.value new reduced_new a level w children.stands
      ∙ (λ i. if a level then value_of new a (children.high_child i) else value_of new a (children.low_child i))
      ∙ (λ i. if a level then growth.value old new reduced keeps a high high_below.stands i else growth.value old new reduced keeps a low
      low_below.stands i)
      ∙ sides a

  pub joined_made : Subfunctions → ((key : ℕ) (branch : Branch) → branch_at new key ≡ Some branch → (branch_at old key ≡ Some branch)
      ⊎ HasChildren new level high low (inner key)) → MakesOnly old new function
  joined_made parts only = record {
    each = λ key branch is. elim (only key branch is) [
      | inl before ↦ inl before
      | inr children ↦ inr (subst (IsSubfunction function) (sym (λ i a. joined_value (inner key) children a i)) (parts.same function))
    ];
  }

pub joined_lacks : Subfunctions → Missing → (graph : Graph) → IsReduced graph → (level : ℕ) (high low : Node) → level < levels graph
    → IsBelow graph level high → IsBelow graph level low
    → (function : Levels → Bool) → HasSides (value_of graph) level high low function → IsWanted graph level high low
    → LacksPart graph function
joined_lacks parts missing graph reduced level high low small high_below low_below function sides wanted = record {
  part = function;
  is_part = parts.same function;
  nowhere = λ node is same. missing graph reduced level high low small high_below low_below wanted node is (λ a. same a ∙ sym (sides a));
}

pub joined_reached : Reachability → (old new : Graph) (result : Answer)
    → UnlessTorn result ((key : ℕ) (branch : Branch) → branch_at new key ≡ Some branch → (branch_at old key ≡ Some branch)
    ⊎ (result ≡ Ok (inner key))) → IfOk result (λ w. ReachesNew old new w)
joined_reached paths old new (Err error) given = tt
joined_reached paths old new (Ok w) given = record {
  each = λ key branch is. elim (given no_error key branch is) [
    | inl before ↦ inl before
    | inr same ↦ inr (subst (Reaches new w) (same_answer same) (paths.itself new w))
  ];
}
