-- The function of a node that is missing is that of no other node: one above its level would have equal children, and
-- one that isn't has its cofactors. (Bryant 1986, theorem 1.)
use Rattle.std.proofs.Common.{◌≡◌, ◌<◌, ◌≤◌, ℕ, Bool, true, false, Some, sym, ap, ◌∙◌, arith, inl, inr, eq-eqb, ne_eqb}
use Rattle.std.specs.Prelude.{if◌then◌else◌, ◌==◌}
use Rattle.std.proofs.lemmas.Bool.{cases_eq, cases_lt}
use Rattle.node_table.specs.declared.node.Node.{Node}
use Rattle.node_table.specs.declared.node.Node.TheVariants.{False, True, Inner}
use Rattle.node_table.specs.declared.node.NodeKey.{NodeKey}
use Rattle.node_table.specs.declared.node.Branch.{Branch}
use Rattle.node_table.specs.Diagram.{Graph, IsReduced, IsBelow, branch_at, is_node, levels, level_of, high_at, low_at, child_in}
use Rattle.node_table.specs.Value.{Levels, value_of}
use Rattle.node_table.specs.Table.{IsWanted}
use Rattle.node_table.proofs.Values.{branch_of_node, level_of-inner}
use Rattle.node_table.proofs.Canonical.{canonical, value-agree, value-below, value-high, value-low, with_level, with_level-here}
use Rattle.node_table.proofs.Canonical.{with_level-other}
use Rattle.node_table.proofs.Kept.{value-split, cofactors-below}

module _ (graph : Graph) (reduced : IsReduced graph) (level : ℕ) (high low : Node) (small : level
    < levels graph) (high_below : IsBelow graph level high) (low_below : IsBelow graph level low) where
  abbrev joined : Levels → Bool
  joined a = if a level then value_of graph a high else value_of graph a low

  abbrev HasJoined : Node → Type 0
  HasJoined node = (a : Levels) → value_of graph a node ≡ joined a

  -- it depends on no level above
  unseen : (a : Levels) (l : ℕ) (choice : Bool) → l < level → joined (with_level a l choice) ≡ joined a
  unseen a l choice above =
      let here : with_level a l choice level ≡ a level = with_level-other a l choice level (λ same. omega (arith, same, above)) in
      let on_high : value_of graph (with_level a l choice) high ≡ value_of graph a high =
      value-agree graph reduced (with_level a l choice) a high high_below.stands
      (λ i below. with_level-other a l choice i (λ same. omega (arith, same, above, below, high_below.below))) in
      let on_low : value_of graph (with_level a l choice) low ≡ value_of graph a low =
      value-agree graph reduced (with_level a l choice) a low low_below.stands
      (λ i below. with_level-other a l choice i (λ same. omega (arith, same, above, below, low_below.below))) in
      (λ i. if here i then on_high i else on_low i)

  -- a node above the level would have equal children
  not_above_it : (key : NodeKey) (b : Branch) → branch_at graph key.index ≡ Some b → b.level < level → HasJoined (Inner key) → ⊥
  not_above_it key b at above same =
      let high_child = reduced.high key.index b at in
      let low_child = reduced.low key.index b at in
      reduced.differ key.index b at (canonical graph reduced b.high b.low high_child.stands low_child.stands (λ a.
      sym (value-high graph reduced a key b at) ∙ same (with_level a b.level true) ∙ unseen a b.level true above
      ∙ sym (unseen a b.level false above) ∙ sym (same (with_level a b.level false)) ∙ value-low graph reduced a key b at))

  -- one that isn't has these cofactors
  module _ (node : Node) (is : is_node graph node ≡ true) (same : HasJoined node) (not_above : level ≤ level_of graph node) where
    high_same : high_at graph level node ≡ high
    high_same =
        let below = (cofactors-below graph reduced level node is not_above small).0 in
        canonical graph reduced (high_at graph level node) high below.stands high_below.stands (λ a.
        let b = with_level a level true in
        sym (value-below graph reduced a level true (high_at graph level node) below)
        ∙ sym (value-split graph reduced b level node is
        ∙ ap (λ t. if t then value_of graph b (high_at graph level node) else value_of graph b (low_at graph level node))
        (with_level-here a level true))
        ∙ same b ∙ ap (λ t. if t then value_of graph b high else value_of graph b low) (with_level-here a level true)
        ∙ value-below graph reduced a level true high high_below)

    low_same : low_at graph level node ≡ low
    low_same =
        let below = (cofactors-below graph reduced level node is not_above small).1 in
        canonical graph reduced (low_at graph level node) low below.stands low_below.stands (λ a.
        let b = with_level a level false in
        sym (value-below graph reduced a level false (low_at graph level node) below)
        ∙ sym (value-split graph reduced b level node is
        ∙ ap (λ t. if t then value_of graph b (high_at graph level node) else value_of graph b (low_at graph level node))
        (with_level-here a level false))
        ∙ same b ∙ ap (λ t. if t then value_of graph b high else value_of graph b low) (with_level-here a level false)
        ∙ value-below graph reduced a level false low low_below)

  pub missing_nowhere : IsWanted graph level high low → (node : Node) → is_node graph node ≡ true → HasJoined node → ⊥
  missing_nowhere wanted False is same = wanted.differ (sym (high_same False is same (omega (arith, small)))
      ∙ low_same False is same (omega (arith, small)))
  missing_nowhere wanted True is same = wanted.differ (sym (high_same True is same (omega (arith, small)))
      ∙ low_same True is same (omega (arith, small)))
  missing_nowhere wanted (Inner key) is same =
      let branch = branch_of_node graph key is in
      let b = branch.0 in
      let here = level_of-inner graph key b branch.1 in
      elim (cases_lt b.level level) [
        | inl above ↦ not_above_it key b branch.1 above same
        | inr below ↦
            let not_above : level ≤ level_of graph (Inner key) = omega (arith, here, below) in
            let high_is : high_at graph level (Inner key) ≡ (if b.level == level then b.high else Inner key) = ap
            (child_in (λ x. x.high) level (Inner key)) branch.1 in
            let low_is : low_at graph level (Inner key) ≡ (if b.level == level then b.low else Inner key) = ap
            (child_in (λ x. x.low) level (Inner key)) branch.1 in
            elim (cases_eq b.level level) [
              | inl equal ↦
                  wanted.missing key.index b branch.1 equal
                  (sym (high_is ∙ ap (λ t. if t then b.high else Inner key) (eq-eqb b.level level equal))
                  ∙ high_same (Inner key) is same not_above)
                  (sym (low_is ∙ ap (λ t. if t then b.low else Inner key) (eq-eqb b.level level equal))
                  ∙ low_same (Inner key) is same not_above)
              | inr differ ↦
                  wanted.differ (sym (high_same (Inner key) is same not_above) ∙ high_is
                  ∙ ap (λ t. if t then b.high else Inner key) (ne_eqb b.level level differ)
                  ∙ sym (low_is ∙ ap (λ t. if t then b.low else Inner key) (ne_eqb b.level level differ))
                  ∙ low_same (Inner key) is same not_above)
            ]
      ]
