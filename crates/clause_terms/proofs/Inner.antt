-- A node of different cofactors at a level is an inner node of that level with these children.
use Rattle.std.proofs.Common.{◌≡◌, ◌≢◌, ℕ, Option, None, Some, refl, sym, ap, ◌∙◌, inl, inr, eq-eqb, ne_eqb}
use Rattle.std.specs.Prelude.{if◌then◌else◌}
use Rattle.std.proofs.lemmas.Bool.{cases_eq}
use Rattle.node_table.specs.declared.node.Node.{Node}
use Rattle.node_table.specs.declared.node.Node.TheVariants.{False, True, Inner}
use Rattle.node_table.specs.declared.node.NodeKey.{NodeKey}
use Rattle.node_table.specs.declared.node.Branch.{Branch}
use Rattle.node_table.specs.Diagram.{Graph, branch_at, child_in}
use Rattle.node_table.specs.Table.{HasChildren}

pub record IsInnerOf (graph : Graph) (level : ℕ) (high low node : Node) : Type 0 where
  pub key : NodeKey
  pub branch : Branch
  pub named : node ≡ Inner key
  pub stands : branch_at graph key.index ≡ Some branch
  pub of_level : branch.level ≡ level
  pub is_high : branch.high ≡ high
  pub is_low : branch.low ≡ low

at_branch : (graph : Graph) (level : ℕ) (high low : Node) (key : NodeKey) (o : Option Branch) → branch_at graph key.index ≡ o → high ≢ low
    → child_in (λ b. b.high) level (Inner key) o ≡ high → child_in (λ b. b.low) level (Inner key) o ≡ low
    → IsInnerOf graph level high low (Inner key)
at_branch graph level high low key None at differ is_high is_low = absurd (differ (sym is_high ∙ is_low))
at_branch graph level high low key (Some b) at differ is_high is_low = elim (cases_eq b.level level) [
  | inl same ↦ record {
    key = key;
    branch = b;
    named = refl;
    stands = at;
    of_level = same;
    is_high = sym (ap (λ t. if t then b.high else Inner key) (eq-eqb b.level level same)) ∙ is_high;
    is_low = sym (ap (λ t. if t then b.low else Inner key) (eq-eqb b.level level same)) ∙ is_low;
  }
  | inr other ↦ absurd (differ
      (sym (sym (ap (λ t. if t then b.high else Inner key) (ne_eqb b.level level other)) ∙ is_high)
      ∙ (sym (ap (λ t. if t then b.low else Inner key) (ne_eqb b.level level other)) ∙ is_low)))
]

pub inner_of : (graph : Graph) (level : ℕ) (high low node : Node) → high ≢ low → HasChildren graph level high low node
    → IsInnerOf graph level high low node
inner_of graph level high low False differ has = absurd (differ (sym has.high_child ∙ has.low_child))
inner_of graph level high low True differ has = absurd (differ (sym has.high_child ∙ has.low_child))
inner_of graph level high low (Inner key) differ has = at_branch graph level high low key
    (branch_at graph key.index) refl differ has.high_child has.low_child
