-- What stays of a graph that grows, and that a node that fits in leaves it reduced.
use Rattle.std.proofs.Common.{◌≡◌, ◌≢◌, ℕ, ◌<◌, true, length, None, Some, is_some, cond, refl, sym, ap, ◌∙◌, subst, arith, inl, inr, ◌⊎◌}
use Rattle.std.proofs.Common.{eq-eqb, ne_eqb}
use Rattle.std.proofs.lemmas.Bool.{cases_eq}
use Rattle.node_table.specs.declared.node.Node.{Node}
use Rattle.node_table.specs.declared.node.Node.TheVariants.{False, True, Inner}
use Rattle.node_table.specs.declared.node.Branch.{Branch}
use Rattle.node_table.specs.Diagram.{Graph, IsReduced, IsBelow, FitsIn, KeepsNodes, branch_at, is_node, levels, level_of, with_branch}
use Rattle.node_table.proofs.Keyed.{branch_at-with_branch}
use Rattle.node_table.proofs.Values.{branch_of_node, level_of-inner}

pub KeepsNodes-none : (graph : Graph) → KeepsNodes graph graph
KeepsNodes-none graph = record { order = refl; nodes = λ key branch is. is }

pub KeepsNodes-further : (one two three : Graph) → KeepsNodes one two → KeepsNodes two three → KeepsNodes one three
KeepsNodes-further one two three first second = record {
  order = second.order ∙ first.order;
  nodes = λ key branch is. second.nodes key branch (first.nodes key branch is);
}

levels-kept : (old new : Graph) → KeepsNodes old new → levels new ≡ levels old
levels-kept old new keeps = ap length keeps.order

pub is_node-kept : (old new : Graph) → KeepsNodes old new → (node : Node) → is_node old node ≡ true → is_node new node ≡ true
is_node-kept old new keeps False is = refl
is_node-kept old new keeps True is = refl
is_node-kept old new keeps (Inner key) is =
    let branch = branch_of_node old key is in
    ap is_some (keeps.nodes key.index branch.0 branch.1)

pub level_of-kept : (old new : Graph) → KeepsNodes old new → (node : Node) → is_node old node ≡ true → level_of new node ≡ level_of old node
level_of-kept old new keeps False is = levels-kept old new keeps
level_of-kept old new keeps True is = levels-kept old new keeps
level_of-kept old new keeps (Inner key) is =
    let branch = branch_of_node old key is in
    level_of-inner new key branch.0 (keeps.nodes key.index branch.0 branch.1) ∙ sym (level_of-inner old key branch.0 branch.1)

pub IsBelow-kept : (old new : Graph) → KeepsNodes old new → (level : ℕ) (node : Node) → IsBelow old level node → IsBelow new level node
IsBelow-kept old new keeps level node below = record {
  stands = is_node-kept old new keeps node below.stands;
  below = omega (arith, below.below, level_of-kept old new keeps node below.stands);
}

-- one node more: it is there, and so are the others
pub joined_at : (graph : Graph) (key : ℕ) (branch : Branch) → branch_at (with_branch graph key branch) key ≡ Some branch
joined_at graph key branch = branch_at-with_branch graph key key branch
    ∙ ap (λ b. cond b (Some branch) (branch_at graph key)) (eq-eqb key key refl)

pub joined_cases : (graph : Graph) (key : ℕ) (branch : Branch) (other : ℕ) (b : Branch) → branch_at (with_branch graph key branch) other
    ≡ Some b
    → ((other ≡ key) × (b ≡ branch)) ⊎ (branch_at graph other ≡ Some b)
joined_cases graph key branch other b is =
    elim (cases_eq other key) [
      | inl same ↦ let here : Some branch ≡ Some b = sym (joined_at graph key branch)
          ∙ ap (branch_at (with_branch graph key branch)) (sym same) ∙ is in inl (same, cc)
      | inr differ ↦ inr (sym (branch_at-with_branch graph key other branch
          ∙ ap (λ c. cond c (Some branch) (branch_at graph other)) (ne_eqb other key differ)) ∙ is)
    ]

pub KeepsNodes-joined : (graph : Graph) (key : ℕ) (branch : Branch) → branch_at graph key ≡ None
    → KeepsNodes graph (with_branch graph key branch)
KeepsNodes-joined graph key branch unused = record {
  order = refl;
  nodes = λ other b is. elim (cases_eq other key) [
    | inl same ↦ absurd (let none : branch_at graph other ≡ None = ap (branch_at graph) same ∙ unused in cc)
    | inr differ ↦ branch_at-with_branch graph key other branch ∙ ap (λ c. cond c (Some branch) (branch_at graph other))
        (ne_eqb other key differ) ∙ is
  ];
}

-- what holds of the old nodes and of the new one holds of all
each_joined : (graph : Graph) (key : ℕ) (branch : Branch) (P : Branch → Type 0) → P branch
    → ((other : ℕ) (b : Branch) → branch_at graph other ≡ Some b → P b)
    → (other : ℕ) (b : Branch) → branch_at (with_branch graph key branch) other ≡ Some b → P b
each_joined graph key branch P new old other b is =
    elim (joined_cases graph key branch other b is) [
      | inl here ↦ subst P (sym here.1) new
      | inr there ↦ old other b there
    ]

pub IsReduced-joined : (graph : Graph) → IsReduced graph → (key : ℕ) (branch : Branch) → branch_at graph key ≡ None → FitsIn graph branch
    → levels graph < branch.variable
    → ((other : ℕ) (b : Branch) → branch_at graph other ≡ Some b → b.variable ≡ branch.variable → ⊥)
    → IsReduced (with_branch graph key branch)
IsReduced-joined graph reduced key branch unused fits above own =
    let new = with_branch graph key branch in
    let keeps = KeepsNodes-joined graph key branch unused in
    record {
      level = each_joined graph key branch (λ b. b.level < levels graph) fits.level reduced.level;
      high = each_joined graph key branch (λ b. IsBelow new b.level b.high)
          (IsBelow-kept graph new keeps branch.level branch.high fits.high)
          (λ other b is. IsBelow-kept graph new keeps b.level b.high (reduced.high other b is));
      low = each_joined graph key branch (λ b. IsBelow new b.level b.low) (IsBelow-kept graph new keeps branch.level branch.low fits.low)
          (λ other b is. IsBelow-kept graph new keeps b.level b.low (reduced.low other b is));
      differ = each_joined graph key branch (λ b. b.high ≢ b.low) fits.differ reduced.differ;
      unique = λ one other a b is also alike. elim (joined_cases graph key branch one a is) [
        | inl here ↦ elim (joined_cases graph key branch other b also) [
          | inl there ↦ here.0 ∙ sym there.0
          | inr there ↦ absurd (fits.alone other b there (record {
            level = sym (ap (λ (x : Branch). x.level) (sym here.1) ∙ alike.level);
            high = sym (ap (λ (x : Branch). x.high) (sym here.1) ∙ alike.high);
            low = sym (ap (λ (x : Branch). x.low) (sym here.1) ∙ alike.low);
          }))
        ]
        | inr here ↦ elim (joined_cases graph key branch other b also) [
          | inl there ↦ absurd (fits.alone one a here (record {
            level = alike.level ∙ ap (λ (x : Branch). x.level) there.1;
            high = alike.high ∙ ap (λ (x : Branch). x.high) there.1;
            low = alike.low ∙ ap (λ (x : Branch). x.low) there.1;
          }))
          | inr there ↦ reduced.unique one other a b here there alike
        ]
      ];
      above = each_joined graph key branch (λ b. levels graph < b.variable) above reduced.above;
      apart = λ one other a b is also same. elim (joined_cases graph key branch one a is) [
        | inl here ↦ elim (joined_cases graph key branch other b also) [
          | inl there ↦ here.0 ∙ sym there.0
          | inr there ↦ absurd (own other b there (sym (ap (λ (x : Branch). x.variable) (sym here.1) ∙ same)))
        ]
        | inr here ↦ elim (joined_cases graph key branch other b also) [
          | inl there ↦ absurd (own one a here (same ∙ ap (λ (x : Branch). x.variable) there.1))
          | inr there ↦ reduced.apart one other a b here there same
        ]
      ];
    }
