-- Reachable nodes: by paths one after another, and that they stay reachable as the graph grows.
use Rattle.std.proofs.Common.{◌≡◌, ◌++◌, ℕ, Bool, true, false, List, [], ◌∷◌, Option, None, Some, refl, sym, ap, ◌∙◌, subst, inl, inr}
use Rattle.std.proofs.Common.{eq-eqb, ne_eqb}
use Rattle.std.specs.Prelude.{if◌then◌else◌}
use Rattle.std.proofs.lemmas.Bool.{cases_eq}
use Rattle.node_table.specs.declared.node.Node.{Node}
use Rattle.node_table.specs.declared.node.Node.TheVariants.{False, True, Inner}
use Rattle.node_table.specs.declared.node.Branch.{Branch}
use Rattle.node_table.specs.Diagram.{Graph, IsReduced, KeepsNodes, branch_of, is_node, high_at, low_at, child_in}
use Rattle.node_table.specs.Made.{Reaches, ReachesNew, child_of, end_of, inner}
use Rattle.node_table.proofs.Values.{branch_of_node}
use Rattle.node_table.proofs.Grown.{is_node-kept}
use Rattle.node_table.proofs.Kept.{branch_of-kept}

pub Reaches-itself : (graph : Graph) (node : Node) → Reaches graph node node
Reaches-itself graph node = record { path = []; ends = refl }

end_of-append : (graph : Graph) (node : Node) (first second : List Bool) → end_of graph node (first ++ second)
    ≡ end_of graph (end_of graph node first) second
end_of-append graph node [] second = refl
end_of-append graph node (to_high ∷ first) second = end_of-append graph (child_of to_high node (branch_of graph node)) first second

pub Reaches-further : (graph : Graph) (u v w : Node) → Reaches graph u v → Reaches graph v w → Reaches graph u w
Reaches-further graph u v w first second = record {
  path = first.path ++ second.path;
  ends = end_of-append graph u first.path second.path ∙ ap (λ (n : Node). end_of graph n second.path) first.ends ∙ second.ends;
}

-- a node reaches its cofactors
pub Reaches-child : (graph : Graph) (to_high : Bool) (node : Node) (b : Branch) → branch_of graph node ≡ Some b
    → Reaches graph node (child_of to_high node (Some b))
Reaches-child graph to_high node b at = record { path = to_high ∷ []; ends = ap (child_of to_high node) at }

Reaches-cofactor : (graph : Graph) (to_high : Bool) (level : ℕ) (node : Node)
    → Reaches graph node (child_in (λ b. child_of to_high node (Some b)) level node (branch_of graph node))
Reaches-cofactor graph to_high level node =
    elim (branch_of graph node) as (λ o. branch_of graph node ≡ o
    → Reaches graph node (child_in (λ b. child_of to_high node (Some b)) level node o)) [
      | None ↦ λ _. Reaches-itself graph node
      | Some b ↦ λ at. elim (cases_eq b.level level) [
        | inl same ↦ subst (Reaches graph node) (sym (ap (λ t. if t then child_of to_high node (Some b) else node)
            (eq-eqb b.level level same))) (Reaches-child graph to_high node b at)
        | inr differ ↦ subst (Reaches graph node) (sym (ap (λ t. if t then child_of to_high node (Some b) else node)
            (ne_eqb b.level level differ))) (Reaches-itself graph node)
      ]
    ] refl

pub Reaches-high_at : (graph : Graph) (level : ℕ) (node : Node) → Reaches graph node (high_at graph level node)
Reaches-high_at graph level node = Reaches-cofactor graph true level node

pub Reaches-low_at : (graph : Graph) (level : ℕ) (node : Node) → Reaches graph node (low_at graph level node)
Reaches-low_at graph level node = Reaches-cofactor graph false level node

-- paths stay
one_stands : (graph : Graph) → (to_high : Bool) (high low : Node) → is_node graph high ≡ true → is_node graph low ≡ true
    → is_node graph (if to_high then high else low) ≡ true
one_stands graph true high low first second = first
one_stands graph false high low first second = second

pub child_stands : (graph : Graph) → IsReduced graph → (to_high : Bool) (node : Node) → is_node graph node ≡ true
    → is_node graph (child_of to_high node (branch_of graph node)) ≡ true
child_stands graph reduced to_high False is = refl
child_stands graph reduced to_high True is = refl
child_stands graph reduced to_high (Inner key) is =
    let branch = branch_of_node graph key is in
    let high = reduced.high key.index branch.0 branch.1 in
    let low = reduced.low key.index branch.0 branch.1 in
    subst (λ (o : Option Branch). is_node graph (child_of to_high (Inner key) o)
    ≡ true) (sym branch.1) (one_stands graph to_high branch.0.high branch.0.low high.stands low.stands)

end_of-kept : (old new : Graph) → IsReduced old → KeepsNodes old new → (node : Node) → is_node old node ≡ true → (path : List Bool)
    → end_of new node path ≡ end_of old node path
end_of-kept old new reduced keeps node is [] = refl
end_of-kept old new reduced keeps node is (to_high ∷ path) =
    ap (λ (o : Option Branch). end_of new (child_of to_high node o) path) (branch_of-kept old new keeps node is)
    ∙ end_of-kept old new reduced keeps (child_of to_high node (branch_of old node)) (child_stands old reduced to_high node is) path

pub Reaches-kept : (old new : Graph) → IsReduced old → KeepsNodes old new → (node other : Node) → is_node old node ≡ true
    → Reaches old node other → Reaches new node other
Reaches-kept old new reduced keeps node other is reaches = record {
  path = reaches.path;
  ends = end_of-kept old new reduced keeps node is reaches.path ∙ reaches.ends;
}

pub Reaches-back : (old new : Graph) → IsReduced old → KeepsNodes old new → (node other : Node) → is_node old node ≡ true
    → Reaches new node other → Reaches old node other
Reaches-back old new reduced keeps node other is reaches = record {
  path = reaches.path;
  ends = sym (end_of-kept old new reduced keeps node is reaches.path) ∙ reaches.ends;
}

-- a call that makes no node
pub ReachesNew-same : (graph : Graph) (root : Node) → ReachesNew graph graph root
ReachesNew-same graph root = record { each = λ key b at. inl at }

-- Two calls, and a third one whose result reaches those of both.
pub ReachesNew-joined : (old one two new : Graph) → IsReduced one → IsReduced two → KeepsNodes one two → KeepsNodes two new
    → (high low root : Node)
    → is_node one high ≡ true → is_node two low ≡ true → ReachesNew old one high → ReachesNew one two low → ReachesNew two new root
    → Reaches new root high → Reaches new root low → ReachesNew old new root
ReachesNew-joined old one two new reduced_one reduced_two first second high low root high_stands low_stands by_high by_low by_root to_high
    to_low = record {
      each = λ key b at. elim (by_root.each key b at) [
        | inr own ↦ inr own
        | inl in_two ↦ elim (by_low.each key b in_two) [
          | inr own ↦ inr (Reaches-further new root low (inner key) to_low
              (Reaches-kept two new reduced_two second low (inner key) low_stands own))
          | inl in_one ↦ elim (by_high.each key b in_one) [
            | inr own ↦
                let in_two : Reaches two high (inner key) = Reaches-kept one two reduced_one first high (inner key) high_stands own in
                inr (Reaches-further new root high (inner key) to_high
                (Reaches-kept two new reduced_two second high (inner key) (is_node-kept one two first high high_stands) in_two))
            | inl before ↦ inl before
          ]
        ]
      ];
    }
