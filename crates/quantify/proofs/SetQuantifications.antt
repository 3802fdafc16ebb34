-- The quantification of a node by a set of levels: from the level of the node on, by its children, and as the graph grows.
use Rattle.std.proofs.Common.{◌≡◌, ◌∙◌, ◌+◌, ◌<◌, ◌≤◌, ◌||◌, ℕ, Bool, true, false, List, ◌∷◌, sym, ap, arith, drop, length, subst}
use Rattle.std.specs.Prelude.{if◌then◌else◌}
use Rattle.node_table.specs.declared.node.Node.{Node}
use Rattle.node_table.specs.Diagram.{Graph, IsBelow, IsReduced, KeepsNodes, is_node, level_of, levels}
use Rattle.node_table.specs.Laws.{Cofactors, Growth, Subfunctions}
use Rattle.node_table.specs.Table.{HasChildren}
use Rattle.node_table.specs.Value.{Levels, value_of}
use Rattle.operations.specs.Results.{Disjoined, with_level}
use Rattle.quantify.specs.declared.quantify_set.SetSides.{SetSides}
use Rattle.quantify.specs.Disjunction.{disjunction_of}
use Rattle.quantify.specs.ExistsCache.{ExistsCache}
use Rattle.quantify.specs.Runs.{HasSides}
use Rattle.quantify.specs.SetQuantification.{AreRight, AreSides, from_level}
use Rattle.quantify.specs.SomeValues.{AreRising, IsFromPlace, SetQuantified, function_of, some_values}
use Rattle.quantify.proofs.Disjunctions.{disjunction_of-kept}
use Rattle.quantify.proofs.Levels.{other_level, set_level}
use Rattle.quantify.proofs.RunningFor.{function_kept}
use Rattle.quantify.proofs.SomeValues.{IsFrom, part_chosen, part_fixed, some_from, some_later, some_sides}

module _ (laws : Cofactors) (graph : Graph) (reduced : IsReduced graph) where
  pub function_from : (own : ℕ) (u : Node) → is_node graph u ≡ true → own ≤ level_of graph u → IsFrom own (function_of graph u)
  function_from own u stands not_above a b same = laws.below graph reduced a b u stands
      (λ i later. same i (omega (arith, later, not_above)))

  -- the levels that stand before a node quantify nothing
  pub quantified_later : (own : ℕ) (u : Node) → is_node graph u ≡ true → own ≤ level_of graph u → (set : List ℕ) (w : Node)
      → SetQuantified graph u (from_level own set) w → SetQuantified graph u set w
  quantified_later own u stands not_above set w found = record {
    stands = found.stands;
    not_above = found.not_above;
    value = λ a. found.value a ∙ sym (some_later own set (function_of graph u) (function_from own u stands not_above) a);
  }

  module _ (set : List ℕ) (p : SetSides) (sides : AreSides graph set p) where
    pub high_side_below : IsBelow graph p.own p.high
    high_side_below = subst (IsBelow graph p.own) (sym sides.high)
        (laws.high graph reduced p.own p.node sides.stands (omega (arith, sides.own)) sides.within)

    pub low_side_below : IsBelow graph p.own p.low
    low_side_below = subst (IsBelow graph p.own) (sym sides.low)
        (laws.low graph reduced p.own p.node sides.stands (omega (arith, sides.own)) sides.within)

    -- by the levels behind its own, a node is by its sides
    by_sides : (a : Levels) → some_values (drop p.next set) (function_of graph p.node) a
        ≡ (if a p.own then some_values (drop p.next set) (function_of graph p.high) a
        else some_values (drop p.next set) (function_of graph p.low) a)
    by_sides = some_sides p.own (levels graph) (drop p.next set) sides.later (function_of graph p.node) (function_of graph p.high)
        (function_of graph p.low)
        (λ a. laws.value graph reduced a p.own p.node sides.stands
        ∙ (λ i. if a p.own then value_of graph a (sym sides.high i) else value_of graph a (sym sides.low i)))

    -- a side with the node's own level set is the side
    side_set : (u : Node) → IsBelow graph p.own u → (value : Bool) (a : Levels)
        → some_values (drop p.next set) (function_of graph u) (with_level a p.own value)
        ≡ some_values (drop p.next set) (function_of graph u) a
    side_set u below value a = some_from (drop p.next set) (function_of graph u) (p.own + 1)
        (function_from (p.own + 1) u below.stands (omega (arith, below.below))) (with_level a p.own value) a
        (λ i later. other_level a p.own value i (λ same. absurd (omega (arith, same, later))))

    by_side : (value : Bool) (a : Levels) → some_values (drop p.next set) (function_of graph p.node) (with_level a p.own value)
        ≡ (if value then some_values (drop p.next set) (function_of graph p.high) a
        else some_values (drop p.next set) (function_of graph p.low) a)
    by_side value a =
        by_sides (with_level a p.own value)
        ∙ (λ i. if set_level a p.own value i then side_set p.high high_side_below value a i else side_set p.low low_side_below value a i)

    module _ (high low : Node) (on_high : SetQuantified graph p.high (drop p.next set) high)
        (on_low : SetQuantified graph p.low (drop p.next set) low) where
      pub high_answer_below : IsBelow graph p.own high
      high_answer_below = record { stands = on_high.stands; below = omega (arith, high_side_below.below, on_high.not_above) }

      pub low_answer_below : IsBelow graph p.own low
      low_answer_below = record { stands = on_low.stands; below = omega (arith, low_side_below.below, on_low.not_above) }

      -- at a level that isn't the set's: the node of both
      pub answers_joined : p.chosen ≡ false
          → HasSides (value_of graph) p.own high low (some_values (drop p.place set) (function_of graph p.node))
      answers_joined chosen a =
          (λ i. if a p.own then on_high.value a i else on_low.value a i)
          ∙ sym (by_sides a)
          ∙ (λ i. some_values (sym same i) (function_of graph p.node) a)
        where
          same : drop p.place set ≡ drop p.next set
          same = sides.next ∙ (λ i. if chosen i then (p.own ∷ drop p.next set) else drop p.next set)

      -- at a level of the set: the disjunction of both
      pub answers_disjoined : p.chosen ≡ true → disjunction_of graph high low ≡ some_values (drop p.place set) (function_of graph p.node)
      answers_disjoined chosen =
          (λ i a. (on_high.value a ∙ sym (by_side true a)) i || (on_low.value a ∙ sym (by_side false a)) i)
          ∙ (λ i. some_values (sym same i) (function_of graph p.node))
        where
          same : drop p.place set ≡ p.own ∷ drop p.next set
          same = sides.next ∙ (λ i. if chosen i then (p.own ∷ drop p.next set) else drop p.next set)

    -- what a child becomes from some place on are parts of what the node does from there
    pub high_places : Subfunctions → (part : Levels → Bool) → IsFromPlace (function_of graph p.high) (drop p.next set) part
        → IsFromPlace (function_of graph p.node) (drop p.place set) part
    high_places parts part is = subst (λ (s : List ℕ). IsFromPlace (function_of graph p.node) s part) (sym sides.next)
        (part_chosen p.chosen p.own (drop p.next set) (function_of graph p.node) part
        (part_fixed (p.own + 1) (levels graph) (drop p.next set) sides.later (function_of graph p.node) (function_of graph p.high)
        (λ i. true) (λ a. ap (value_of graph a) sides.high
        ∙ parts.high_value graph reduced p.own p.node sides.stands (omega (arith, sides.own)) sides.within a) part is))

    pub low_places : Subfunctions → (part : Levels → Bool) → IsFromPlace (function_of graph p.low) (drop p.next set) part
        → IsFromPlace (function_of graph p.node) (drop p.place set) part
    low_places parts part is = subst (λ (s : List ℕ). IsFromPlace (function_of graph p.node) s part) (sym sides.next)
        (part_chosen p.chosen p.own (drop p.next set) (function_of graph p.node) part
        (part_fixed (p.own + 1) (levels graph) (drop p.next set) sides.later (function_of graph p.node) (function_of graph p.low)
        (λ i. false) (λ a. ap (value_of graph a) sides.low
        ∙ parts.low_value graph reduced p.own p.node sides.stands (omega (arith, sides.own)) sides.within a) part is))

module _ (growth : Growth) (old new : Graph) (reduced : IsReduced old) (keeps : KeepsNodes old new) where
  -- what was found stays right as the graph grows
  pub set_kept : (u : Node) (set : List ℕ) (w : Node) → is_node old u ≡ true → SetQuantified old u set w → SetQuantified new u set w
  set_kept u set w stands found =
      let level_u : level_of new u ≡ level_of old u = growth.level old new keeps u stands in
      let level_w : level_of new w ≡ level_of old w = growth.level old new keeps w found.stands in record {
        stands = growth.stands old new keeps w found.stands;
        not_above = omega (arith, level_u, level_w, found.not_above);
        value = λ a. growth.value old new reduced keeps a w found.stands ∙ found.value a
            ∙ (λ i. some_values set (sym (function_kept growth old new reduced keeps u stands) i) a);
      }

  pub right_kept : (set : List ℕ) (found : ExistsCache) → AreRight old set found → AreRight new set found
  right_kept set found right u place w there =
      let one = right u place w there in (growth.stands old new keeps u one.0, set_kept u (drop place set) w one.0 one.1)

  pub sides_kept : (set : List ℕ) (p : SetSides) → AreSides old set p → AreSides new set p
  sides_kept set p sides =
      let same : levels old ≡ levels new = sym (ap length keeps.order) in record {
        stands = growth.stands old new keeps p.node sides.stands;
        own = growth.level old new keeps p.node sides.stands ∙ sides.own;
        within = subst (λ (n : ℕ). p.own < n) same sides.within;
        some = sides.some;
        next = sides.next;
        later = subst (λ (n : ℕ). AreRising (p.own + 1) n (drop p.next set)) same sides.later;
        high = sides.high ∙ sym (growth.high old new keeps p.own p.node sides.stands);
        low = sides.low ∙ sym (growth.low old new keeps p.own p.node sides.stands);
      }

  module _ (set : List ℕ) (p : SetSides) (sides : AreSides old set p) (high low w : Node) where
    function_back : (a : Levels) → some_values (drop p.place set) (function_of old p.node) a
        ≡ some_values (drop p.place set) (function_of new p.node) a
    function_back a = λ i. some_values (drop p.place set) (sym (function_kept growth old new reduced keeps p.node sides.stands) i) a

    -- the node of both answers, and their disjunction
    pub set_joined : HasChildren new p.own high low w
        → ((a : Levels) → value_of new a w ≡ some_values (drop p.place set) (function_of old p.node) a)
        → SetQuantified new p.node (drop p.place set) w
    set_joined children value =
        let own : level_of new p.node ≡ level_of old p.node = growth.level old new keeps p.node sides.stands in record {
          stands = children.stands;
          not_above = omega (arith, own, sides.own, children.not_above);
          value = λ a. value a ∙ function_back a;
        }

    pub set_disjoined : IsBelow old p.own high → IsBelow old p.own low
        → disjunction_of old high low ≡ some_values (drop p.place set) (function_of old p.node) → Disjoined new high low w
        → SetQuantified new p.node (drop p.place set) w
    set_disjoined high_below low_below same found =
        let own : level_of new p.node ≡ level_of old p.node = growth.level old new keeps p.node sides.stands in
        let first : level_of new high ≡ level_of old high = growth.level old new keeps high high_below.stands in
        let second : level_of new low ≡ level_of old low = growth.level old new keeps low low_below.stands in record {
          stands = found.stands;
          not_above = found.not_above (level_of new p.node) (omega (arith, own, sides.own, first, high_below.below))
              (omega (arith, own, sides.own, second, low_below.below));
          value = λ a. found.value a
              ∙ (λ i. disjunction_of-kept growth old new reduced keeps high low high_below.stands low_below.stands i a)
              ∙ (λ i. same i a) ∙ function_back a;
        }
