-- The additions over the levels: those of both sides, and two more.
use Rattle.std.proofs.Common.{◌≡◌, ◌≤◌, ◌<◌, ◌+◌, ◌-◌, ℕ, zero, suc, true, Option, None, ap, subst, arith, length}
use Rattle.std.specs.Prelude.{min}
use Rattle.node_table.specs.declared.error.TableError.{TableError}
use Rattle.node_table.specs.declared.node.Node.{Node}
use Rattle.node_table.specs.Diagram.{Graph, KeepsNodes, is_node, levels, level_of}
use Rattle.node_table.specs.Table.{TableState, IsSound}
use Rattle.node_table.specs.Progress.{Steps}
use Rattle.node_table.specs.Laws.{Growth, StepByStep}
use Rattle.operations.specs.declared.operands.Operands.{Operands}
use Rattle.operations.specs.Operands.{AreSplit, Splitting, levels_from}
use Rattle.operations.specs.Budget.{Budget, most_additions}

-- more levels, more additions; those of both sides and two more are within
most_more : (few more : ℕ) → few ≤ more → most_additions few ≤ most_additions more
most_more zero more h = omega arith
most_more (suc few) zero h = absurd (omega (arith, h))
most_more (suc few) (suc more) h = let less : most_additions few ≤ most_additions more = most_more few more (omega (arith, h)) in
    omega (arith, less)

pub within_both : (one two all : ℕ) → one < all → two < all → most_additions one + (most_additions two + 2) ≤ most_additions all
within_both one two zero first second = absurd (omega (arith, first))
within_both one two (suc all) first second =
    let high : most_additions one ≤ most_additions all = most_more one all (omega (arith, first)) in
    let low : most_additions two ≤ most_additions all = most_more two all (omega (arith, second)) in
    omega (arith, high, low)

pub levels_kept : Growth → (old new : Graph) → KeepsNodes old new → (u v : Node) → is_node old u ≡ true → is_node old v ≡ true
    → levels_from new u v ≡ levels_from old u v
levels_kept growth old new keeps u v first second =
    let all : levels new ≡ levels old = ap length keeps.order in
    let one : level_of new u ≡ level_of old u = growth.level old new keeps u first in
    let two : level_of new v ≡ level_of old v = growth.level old new keeps v second in
    levels_by (levels old) (levels new) (level_of old u) (level_of new u) (level_of old v) (level_of new v) all one two
  where
    levels_by : (n m u one v two : ℕ) → m ≡ n → one ≡ u → two ≡ v → m - min one two ≡ n - min u v
    levels_by n m u one v two all first second = λ i. all i - min (first i) (second i)

-- There are fewer levels from the cofactors on, and the steps are those of both sides and of the last one.
module _ (splits : Splitting) (growth : Growth) {S : Type 0} (old : TableState S) (sound : IsSound old) (o : Operands)
    (split : AreSplit old.graph o) where
  pub high_falls : levels_from old.graph o.u_high o.v_high < levels_from old.graph o.u o.v
  high_falls =
      splits.fewer old.graph sound.tied.reduced o split o.u_high o.v_high (splits.u_high old.graph sound.tied.reduced o split)
      (splits.v_high old.graph sound.tied.reduced o split)

  module _ (one : TableState S) (sound_one : IsSound one) (keeps : KeepsNodes old.graph one.graph) where
    split_one : AreSplit one.graph o
    split_one = splits.kept old.graph one.graph keeps o split

    pub low_falls : levels_from one.graph o.u_low o.v_low < levels_from old.graph o.u o.v
    low_falls =
        subst (λ (n : ℕ). levels_from one.graph o.u_low o.v_low < n)
        (levels_kept growth old.graph one.graph keeps o.u o.v (splits.first old.graph o split) (splits.second old.graph o split))
        (splits.fewer one.graph sound_one.tied.reduced o split_one o.u_low o.v_low
        (splits.u_low one.graph sound_one.tied.reduced o split_one) (splits.v_low one.graph sound_one.tied.reduced o split_one))

  module _ (law : StepByStep S) where
    pub steps_high : (one : TableState S) (error : Option TableError)
        → Steps old one
        (most_additions (levels_from old.graph o.u_high o.v_high)) error
        → Steps old one (most_additions (levels_from old.graph o.u o.v)) error
    steps_high one error steps =
        law.at_most _ _ _ _ _ (most_more (levels_from old.graph o.u_high o.v_high) (levels_from old.graph o.u o.v)
        (omega (arith, high_falls))) steps

    module _ (one : TableState S) (first : Steps old one
        (most_additions (levels_from old.graph o.u_high o.v_high)) None) where
      enough : most_additions (levels_from old.graph o.u_high o.v_high) + (most_additions (levels_from one.graph o.u_low o.v_low) + 2)
          ≤ most_additions (levels_from old.graph o.u o.v)
      enough =
          within_both (levels_from old.graph o.u_high o.v_high) (levels_from one.graph o.u_low o.v_low)
          (levels_from old.graph o.u o.v) high_falls
          (low_falls one first.leaves.sound first.extends.nodes)

      pub steps_low : (two : TableState S) (error : Option TableError)
          → Steps one two
          (most_additions (levels_from one.graph o.u_low o.v_low)) error
          → Steps old two (most_additions (levels_from old.graph o.u o.v)) error
      steps_low two error second =
          law.at_most _ _ _ _ _ (fewer_of _ _ _ enough) (law.further _ _ _ _ _ _ first second)
        where
          fewer_of : (a b c : ℕ) → a + (b + 2) ≤ c → a + b ≤ c
          fewer_of a b c h = omega arith

      pub steps_both : (two three : TableState S) (error : Option TableError)
          → Steps one two
          (most_additions (levels_from one.graph o.u_low o.v_low)) None
          → Steps two three 2 error
          → Steps old three (most_additions (levels_from old.graph o.u o.v)) error
      steps_both two three error second third =
          law.at_most _ _ _ _ _ enough (law.further _ _ _ _ _ _ first (law.further _ _ _ _ _ _ second third))

pub budgeted : {S : Type 0} → Splitting → Growth → StepByStep S → Budget S
budgeted splits growth law = record {
  high = λ old new o error sound split. steps_high splits growth old sound o split law new error;
  low = λ old one new o error sound split first. steps_low splits growth old sound o split law one first new error;
  both = λ old one two new o error sound split first. steps_both splits growth old sound o split law one first two new error;
}
