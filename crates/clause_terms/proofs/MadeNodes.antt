-- The nodes that a clause's diagram makes are of parts of the clause.
use Rattle.std.proofs.Common.{◌≡◌, ◌⊎◌, ◌∙◌, ℕ, Bool, List, ◌∷◌, Some, sym, subst, inl, inr}
use Rattle.std.specs.Prelude.{IsTrue}
use Rattle.std.specs.List.{list_any}
use Rattle.node_table.specs.declared.node.Node.{Node}
use Rattle.node_table.specs.declared.node.Branch.{Branch}
use Rattle.node_table.specs.Diagram.{Graph, IsReduced, KeepsNodes, branch_at, is_node}
use Rattle.node_table.specs.Laws.{Cofactors, Growth, Subfunctions}
use Rattle.node_table.specs.Made.{MakesOnly, inner}
use Rattle.node_table.specs.Table.{HasChildren}
use Rattle.node_table.specs.Value.{Levels, value_of, IsSubfunction}
use Rattle.clause_terms.specs.declared.placed.Placed.{Placed}
use Rattle.clause_terms.specs.Placed.{placed_holds, placed_function}
use Rattle.clause_terms.specs.ClauseDiagram.{high_of, low_of}
use Rattle.clause_terms.proofs.StepValue.{value_step}

-- equal values are the same function
pub by_values : (old new : Graph) (f g : Levels → Bool) → ((a : Levels) → f a ≡ g a) → MakesOnly old new f → MakesOnly old new g
by_values old new f g same made = subst (MakesOnly old new) (λ i a. same a i) made

pub same_children : {graph : Graph} {level : ℕ} {high low same_high same_low node : Node} → high ≡ same_high → low ≡ same_low
    → HasChildren graph level high low node → HasChildren graph level same_high same_low node
same_children is_high is_low has = record {
  stands = has.stands;
  not_above = has.not_above;
  high_child = has.high_child
      ∙ is_high;
  low_child = has.low_child ∙ is_low;
}

pub made_literal : Subfunctions → Cofactors → Growth → (old new : Graph) → IsReduced old → IsReduced new → KeepsNodes old new
    → (p : Placed) (more : List Placed) (below : Node)
    → IsTrue (is_node old below) → ((a : Levels) → value_of old a below ≡ list_any (placed_holds a) more)
    → (high low : Node) → high ≡ high_of p below → low ≡ low_of p below
    → ((key : ℕ) (branch : Branch) → branch_at new key ≡ Some branch → (branch_at old key ≡ Some branch)
    ⊎ HasChildren new p.level high low (inner key))
    → MakesOnly old new (placed_function (p ∷ more))
made_literal parts cofactors growth old new old_reduced reduced keeps p more below stands value high low is_high is_low only = record {
  each = λ key branch is. elim (only key branch is) [
    | inl there ↦ inl there
    | inr has ↦ inr (subst (IsSubfunction (placed_function (p ∷ more)))
        (λ i a. (sym (value_step cofactors growth old new old_reduced reduced keeps p more below (inner key) stands value
        (same_children is_high is_low has) a)) i)
        (parts.same (placed_function (p ∷ more))))
  ];
}
