-- The quantification by its cofactors, above its level and at it.
use Rattle.std.proofs.Common.{◌≡◌, ◌+◌, ◌<◌, ◌≤◌, ◌||◌, ℕ, Bool, true, false, sym, ap, ◌∙◌, subst, arith}
use Rattle.std.proofs.Common.{length}
use Rattle.std.specs.Prelude.{if◌then◌else◌}
use Rattle.node_table.specs.declared.node.Node.{Node}
use Rattle.node_table.specs.Diagram.{Graph, IsBelow, IsReduced, KeepsNodes, high_at, is_node, level_of, levels, low_at}
use Rattle.node_table.specs.Laws.{Canonical, Cofactors, Growth, Subfunctions}
use Rattle.node_table.specs.Table.{TableState, IsSound, Extends, HasChildren}
use Rattle.node_table.specs.Value.{Levels, IsSubfunction, fixed_to, value_of}
use Rattle.operations.specs.Results.{Disjoined, Quantified, with_level}
use Rattle.operations.specs.Entries.{Quantification, Fitting}
use Rattle.quantify.specs.declared.quantify.Above.{Above}
use Rattle.quantify.specs.Disjunction.{disjunction_of}
use Rattle.quantify.specs.Quantification.{IsAbove, quantification_of}
use Rattle.quantify.specs.Runs.{HasSides}
use Rattle.quantify.proofs.Disjunctions.{choose_either, disjunction_of-kept}
use Rattle.quantify.proofs.Levels.{either_same, other_level, set_fixed, set_level}

-- one quantification alone stands in a reduced graph
pub only_quantification : Canonical → (graph : Graph) → IsReduced graph → (u : Node) (level : ℕ) (w other : Node)
    → Quantified graph u level w → Quantified graph u level other → w ≡ other
only_quantification canonical graph reduced u level w other one two = canonical graph reduced w other one.stands two.stands
    (λ a. one.value a ∙ sym (two.value a))

-- what was found stays right as the table grows
pub quantified_kept : {S : Type 0} → Fitting S → (old new : TableState S) → IsSound old → Extends old new
    → (u : Node) (level : ℕ) (w : Node) → is_node old.graph u ≡ true
    → Quantified old.graph u level w → Quantified new.graph u level w
quantified_kept fitting old new sound extends u level w stands found =
    let kept = fitting.one old new (Quantification u level w) sound extends (stands, found) in kept.1

-- the function stays as the graph grows
pub quantification_of-kept : Growth → (old new : Graph) → IsReduced old → KeepsNodes old new → (u : Node) (level : ℕ) → is_node old u ≡ true
    → quantification_of new u level ≡ quantification_of old u level
quantification_of-kept growth old new reduced keeps u level stands =
    λ i a. growth.value old new reduced keeps (with_level a level true) u stands i
    || growth.value old new reduced keeps (with_level a level false) u stands i

module _ (laws : Cofactors) (graph : Graph) (reduced : IsReduced graph) where
  -- a node below the level doesn't depend on it
  value_below : (level : ℕ) (node : Node) → IsBelow graph level node → (value : Bool) (a : Levels)
      → value_of graph (with_level a level value) node ≡ value_of graph a node
  value_below level node below value a = laws.below graph reduced (with_level a level value) a node below.stands
      (λ i later. other_level a level value i (λ is. absurd (omega (arith, later, below.below, is))))

  -- nor on a level that is no variable's
  value_beyond : (level : ℕ) (node : Node) → is_node graph node ≡ true → levels graph ≤ level → (value : Bool) (a : Levels)
      → value_of graph (with_level a level value) node ≡ value_of graph a node
  value_beyond level node stands beyond value a = laws.inside graph reduced (with_level a level value) a node stands
      (λ i small. other_level a level value i (λ is. absurd (omega (arith, small, beyond, is))))

  pub quantified_beyond : (level : ℕ) (node : Node) → is_node graph node ≡ true → levels graph ≤ level → Quantified graph node level node
  quantified_beyond level node stands beyond = record {
    stands = stands;
    not_above = omega arith;
    value = λ a. either_same (value_of graph a node) ∙ (λ i. sym (value_beyond level node stands beyond true a) i
        || sym (value_beyond level node stands beyond false a) i);
  }

  pub quantified_below : (level : ℕ) (node : Node) → IsBelow graph level node → Quantified graph node level node
  quantified_below level node below = record {
    stands = below.stands;
    not_above = omega arith;
    value = λ a. either_same (value_of graph a node) ∙ (λ i. sym (value_below level node below true a) i
        || sym (value_below level node below false a) i);
  }

  -- at the level: the disjunction of the children
  module _ (level : ℕ) (node : Node) (stands : is_node graph node ≡ true) (at : level_of graph node ≡ level) (small : level
      < levels graph) where
    pub children_below : IsBelow graph level (high_at graph level node) × IsBelow graph level (low_at graph level node)
    children_below = (
      laws.high graph reduced level node stands (omega (arith, at)) small,
      laws.low graph reduced level node stands (omega (arith, at)) small,
    )

    value_at : (value : Bool) (a : Levels) → value_of graph (with_level a level value) node
        ≡ (if value then value_of graph a (high_at graph level node) else value_of graph a (low_at graph level node))
    value_at value a =
        laws.value graph reduced (with_level a level value) level node stands
        ∙ (λ i. if set_level a level value i then value_below level
        (high_at graph level node) children_below.0 value a i else value_below level (low_at graph level node) children_below.1 value a i)

    pub quantification_at : disjunction_of graph (high_at graph level node) (low_at graph level node) ≡ quantification_of graph node level
    quantification_at = λ i a. sym (value_at true a) i || sym (value_at false a) i

    pub quantification_by : (high low : Node) → high ≡ high_at graph level node → low ≡ low_at graph level node
        → disjunction_of graph high low ≡ quantification_of graph node level
    quantification_by high low is_high is_low = (λ i. disjunction_of graph (is_high i) (is_low i)) ∙ quantification_at

  -- above the level
  module _ (p : Above) (above : IsAbove graph p) where
    own_within : p.own < levels graph
    own_within = omega (arith, above.above, above.level)

    pub high_child_below : IsBelow graph p.own p.high
    high_child_below = subst (IsBelow graph p.own) (sym above.high)
        (laws.high graph reduced p.own p.node above.stands (omega (arith, above.own)) own_within)

    pub low_child_below : IsBelow graph p.own p.low
    low_child_below = subst (IsBelow graph p.own) (sym above.low)
        (laws.low graph reduced p.own p.node above.stands (omega (arith, above.own)) own_within)

    -- what was found of a node below stands below
    found_below : (u w : Node) → IsBelow graph p.own u → Quantified graph u p.level w → IsBelow graph p.own w
    found_below u w below found = record { stands = found.stands; below = omega (arith, below.below, found.not_above) }

    value_above : (value : Bool) (a : Levels)
        → (if a p.own then value_of graph (with_level a p.level value) p.high else value_of graph (with_level a p.level value) p.low)
        ≡ value_of graph (with_level a p.level value) p.node
    value_above value a =
        (λ i. if sym (other_level a p.level value p.own (λ is. absurd (omega (arith, above.above, is)))) i then value_of graph
        (with_level a p.level value) (above.high i) else value_of graph (with_level a p.level value) (above.low i))
        ∙ sym (laws.value graph reduced (with_level a p.level value) p.own p.node above.stands)

    module _ (high low : Node) (on_high : Quantified graph p.high p.level high) (on_low : Quantified graph p.low p.level low) where
      pub high_found_below : IsBelow graph p.own high
      high_found_below = found_below p.high high high_child_below on_high

      pub low_found_below : IsBelow graph p.own low
      low_found_below = found_below p.low low low_child_below on_low

      -- the quantification is the node of both
      pub quantification_sides : HasSides (value_of graph) p.own high low (quantification_of graph p.node p.level)
      quantification_sides a =
          choose_either (a p.own) (value_of graph a high) (value_of graph a low)
          (value_of graph (with_level a p.level true) p.high) (value_of graph (with_level a p.level true) p.low)
          (value_of graph (with_level a p.level false) p.high) (value_of graph (with_level a p.level false) p.low)
          (on_high.value a) (on_low.value a)
          ∙ (λ i. value_above true a i || value_above false a i)

    -- the quantification of a child is that of the node with the levels down to this one true, or false
    module _ (parts : Subfunctions) where
      fixed_value : (fixed : Levels) (value : Bool) (a : Levels)
          → value_of graph (fixed_to (p.own + 1) fixed (with_level a p.level value)) p.node
          ≡ value_of graph (with_level (fixed_to (p.own + 1) fixed a) p.level value) p.node
      fixed_value fixed value a = ap (λ (b : Levels). value_of graph b p.node)
          (set_fixed a fixed (p.own + 1) p.level value (omega (arith, above.above)))

      high_fixed : (value : Bool) (a : Levels) → value_of graph (with_level a p.level value) p.high
          ≡ value_of graph (with_level (fixed_to (p.own + 1) (λ i. true) a) p.level value) p.node
      high_fixed value a =
          ap (value_of graph (with_level a p.level value)) above.high
          ∙ parts.high_value graph reduced p.own p.node above.stands (omega (arith, above.own)) own_within (with_level a p.level value)
          ∙ fixed_value (λ i. true) value a

      low_fixed : (value : Bool) (a : Levels) → value_of graph (with_level a p.level value) p.low
          ≡ value_of graph (with_level (fixed_to (p.own + 1) (λ i. false) a) p.level value) p.node
      low_fixed value a =
          ap (value_of graph (with_level a p.level value)) above.low
          ∙ parts.low_value graph reduced p.own p.node above.stands (omega (arith, above.own)) own_within (with_level a p.level value)
          ∙ fixed_value (λ i. false) value a

      pub high_quantified_part : IsSubfunction (quantification_of graph p.node p.level) (quantification_of graph p.high p.level)
      high_quantified_part = record { level = p.own + 1; fixed = λ i. true; same = λ a. (λ i. high_fixed true a i || high_fixed false a i) }

      pub low_quantified_part : IsSubfunction (quantification_of graph p.node p.level) (quantification_of graph p.low p.level)
      low_quantified_part = record { level = p.own + 1; fixed = λ i. false; same = λ a. (λ i. low_fixed true a i || low_fixed false a i) }

-- a split stays one as the graph grows
pub above_kept : Growth → (old new : Graph) → KeepsNodes old new → (p : Above) → IsAbove old p → IsAbove new p
above_kept growth old new keeps p above = record {
  stands = growth.stands old new keeps p.node above.stands;
  own = growth.level old new keeps p.node above.stands ∙ above.own;
  above = above.above;
  level = subst (λ (n : ℕ). p.level < n) (sym (ap length keeps.order)) above.level;
  high = above.high ∙ sym (growth.high old new keeps p.own p.node above.stands);
  low = above.low ∙ sym (growth.low old new keeps p.own p.node above.stands);
}

-- the node of both results
pub quantified_joined : Growth → (old new : Graph) → IsReduced old → KeepsNodes old new → (p : Above) → IsAbove old p → (high low w : Node)
    → HasChildren new p.own high low w
    → ((a : Levels) → value_of new a w ≡ quantification_of old p.node p.level a) → Quantified new p.node p.level w
quantified_joined growth old new reduced keeps p above high low w children value =
    let now = above_kept growth old new keeps p above in record {
      stands = children.stands;
      not_above = omega (arith, now.own, children.not_above);
      value = λ a. value a ∙ (λ i. sym (quantification_of-kept growth old new reduced keeps p.node p.level above.stands) i a);
    }

-- the disjunction of the children of a node of the level, which it was when it was called for
pub quantified_disjoined : Cofactors → Growth → (old new : Graph) → IsReduced old → KeepsNodes old new → (level : ℕ) (node : Node)
    → is_node old node ≡ true → level_of old node ≡ level → level < levels old
    → (w : Node) → Disjoined new (high_at old level node) (low_at old level node) w → Quantified new node level w
quantified_disjoined laws growth old new reduced keeps level node stands at small w found =
    let below = children_below laws old reduced level node stands at small in
    let high_level : level_of new (high_at old level node) ≡ level_of old (high_at old level node) = growth.level old new keeps
    (high_at old level node) below.0.stands in
    let low_level : level_of new (low_at old level node) ≡ level_of old (low_at old level node) = growth.level old new keeps
    (low_at old level node) below.1.stands in
    let own : level_of new node ≡ level_of old node = growth.level old new keeps node stands in
    record {
      stands = found.stands;
      not_above = found.not_above (level_of new node) (omega (arith, own, at, high_level, below.0.below))
          (omega (arith, own, at, low_level, below.1.below));
      value = λ a.
          found.value a
          ∙ (λ i. disjunction_of-kept growth old new reduced keeps (high_at old level node)
          (low_at old level node) below.0.stands below.1.stands i a)
          ∙ (λ i. quantification_at laws old reduced level node stands at small i a)
          ∙ (λ i. sym (quantification_of-kept growth old new reduced keeps node level stands) i a);
    }
