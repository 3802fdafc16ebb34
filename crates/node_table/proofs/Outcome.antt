-- What a call that makes a node says of nodes, as it succeeds or is refused.
use Rattle.std.proofs.Common.{◌≡◌, ◌≢◌, ◌⊎◌, ℕ, Result, Ok, Err, Some, refl, sym, ap, ◌∙◌, subst, inl, inr}
use Rattle.std.specs.Prelude.{IfOk, IfErr}
use Rattle.node_table.specs.declared.node.Node.{Node}
use Rattle.node_table.specs.declared.node.Node.TheVariants.{Inner}
use Rattle.node_table.specs.declared.node.Branch.{Branch}
use Rattle.node_table.specs.declared.error.TableError.{TableError}
use Rattle.node_table.specs.declared.error.TableError.TheVariants.{WriteFault}
use Rattle.node_table.specs.Diagram.{Graph, IsNew, branch_at}
use Rattle.node_table.specs.Made.{inner}
use Rattle.node_table.specs.Table.{TableState, HasChildren, IsMade, IsSame, new_branch}
use Rattle.node_table.proofs.Grown.{joined_at, joined_cases}
use Rattle.node_table.proofs.HasChildren.{children_of}

-- a node of a graph that one joined: it was there, or is the new one
new_cases : (old new : Graph) (key : ℕ) (branch : Branch) → IsNew old new key branch → (other : ℕ) (b : Branch) → branch_at new other
    ≡ Some b
    → ((other ≡ key) × (b ≡ branch)) ⊎ (branch_at old other ≡ Some b)
new_cases old new key branch is other b at = joined_cases old key branch other b (sym (ap (λ (g : Graph). branch_at g other) is.joined)
    ∙ at)

-- no other node is new
pub new_only : (old new : Graph) (key : ℕ) (branch : Branch) → IsNew old new key branch → (other : ℕ) (b : Branch) → branch_at new other
    ≡ Some b
    → (branch_at old other ≡ Some b) ⊎ HasChildren new branch.level branch.high branch.low (inner other)
new_only old new key branch is other b at =
    elim (new_cases old new key branch is other b at) [
      | inl here ↦ inr (children_of new branch.level branch.high branch.low (record { index = other }) b at
          (ap (λ (x : Branch). x.level) here.1) (ap (λ (x : Branch). x.high) here.1) (ap (λ (x : Branch). x.low) here.1))
      | inr there ↦ inl there
    ]

module _ {S : Type 0} (old new : TableState S) (level : ℕ) (high low : Node) where
  made_children : (variable : ℕ) (node : Node) → IsMade old new level high low variable node → HasChildren new.graph level high low node
  made_children variable node made =
      let b = new_branch old.book.state level high low variable in
      let at : branch_at new.graph made.key.index ≡ Some b = ap (λ (g : Graph). branch_at g made.key.index) made.joined.joined
      ∙ joined_at old.graph made.key.index b in
      subst (HasChildren new.graph level high low) (sym made.named) (children_of new.graph level high low made.key b at refl refl refl)

  pub outcome_children : (result : Result Node TableError) → IfOk result (λ node. (variable : ℕ)
      × IsMade old new level high low variable node)
      → IfOk result (λ node. HasChildren new.graph level high low node)
  outcome_children (Ok node) made = made_children made.0 node made.1
  outcome_children (Err e) made = made

  pub outcome_given : (result : Result Node TableError) → IfOk result (λ node. (variable : ℕ)
      × IsMade old new level high low variable node)
      → IfErr result (λ e. e ≢ WriteFault → IsSame old new) → result ≢ Err WriteFault → (key : ℕ) (b : Branch) → branch_at new.graph key
      ≡ Some b
      → (branch_at old.graph key ≡ Some b) ⊎ (result ≡ Ok (inner key))
  outcome_given (Ok node) made refused whole key b at =
      elim (new_cases old.graph new.graph made.1.key.index (new_branch old.book.state level high low made.0) made.1.joined key b at) [
        | inl here ↦ inr (ap Ok (made.1.named ∙ ap (λ i. Inner (record { index = i })) (sym here.0)))
        | inr there ↦ inl there
      ]
  outcome_given (Err e) made refused whole key b at =
      inl (sym (ap (λ (t : TableState S). branch_at t.graph key) (refused (λ is. whole (ap Err is)))) ∙ at)
