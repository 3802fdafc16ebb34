-- What a call pays that is split: the pairs that its sides use, and its own, each of which two clauses were added for.
use Rattle.std.proofs.Common.{◌≡◌, ◌∙◌, ◌≤◌, ◌<◌, ◌-◌, ◌*◌, ℕ, true, false, List, [], ◌∷◌, length, Option, None, Some, refl, ap, subst}
use Rattle.std.proofs.Common.{arith}
use Rattle.std.specs.Prelude.{if◌then◌else◌, min}
use Rattle.node_table.specs.declared.error.TableError.{TableError}
use Rattle.node_table.specs.declared.node.Node.{Node}
use Rattle.node_table.specs.Diagram.{Graph, IsReduced, KeepsNodes, is_node, levels, level_of, high_at, low_at}
use Rattle.node_table.specs.Made.{Reaches}
use Rattle.node_table.specs.Laws.{Growth, Reachability}
use Rattle.node_table.specs.Table.{TableState, AddsAtMost}
use Rattle.operations.specs.declared.operands.Operands.{Operands}
use Rattle.operations.specs.Operands.{AreSplit, Splitting, levels_from}
use Rattle.op_cache.specs.Cache.{Cache}
use Rattle.op_cache.specs.Laws.{AreInFront, UsedInFront}
use Rattle.operations.specs.Caches.{with_key}
use Rattle.operations.specs.Pairs.{IsNoConstant, Pair, is_one, same_pair}
use Rattle.operations.specs.Price.{AreAmong, CoverReached, HoldsReached, PaysEach, Pays, Prices, Pricing, SameAbove}
use Rattle.operations.proofs.Pairs.{among_more, no_longer, one_more, other_same, pairs_of, pairs_of-has, pairs_of-length}

levels_kept : Growth → (old new : Graph) → KeepsNodes old new → (u v : Node) → is_node old u ≡ true → is_node old v ≡ true
    → levels_from new u v ≡ levels_from old u v
levels_kept growth old new keeps u v first second =
    let all : levels new ≡ levels old = ap length keeps.order in
    let one : level_of new u ≡ level_of old u = growth.level old new keeps u first in
    let two : level_of new v ≡ level_of old v = growth.level old new keeps v second in
    λ i. all i - min (one i) (two i)

-- the sides reach no more than the operands
module _ (paths : Reachability) (splits : Splitting) where
  cover_high : (graph : Graph) (o : Operands) → AreSplit graph o → (all : List Pair) → CoverReached graph o.u o.v all
      → CoverReached graph o.u_high o.v_high all
  cover_high graph o split all cover a b to_a to_b =
      cover a b
      (paths.further graph o.u (high_at graph o.level o.u) a (paths.high graph o.level o.u)
      (subst (λ (n : Node). Reaches graph n a) split.first_high to_a))
      (paths.further graph o.v (high_at graph o.level o.v) b (paths.high graph o.level o.v)
      (subst (λ (n : Node). Reaches graph n b) split.second_high to_b))

  cover_low : (graph : Graph) (o : Operands) → AreSplit graph o → (all : List Pair) → CoverReached graph o.u o.v all
      → CoverReached graph o.u_low o.v_low all
  cover_low graph o split all cover a b to_a to_b =
      cover a b
      (paths.further graph o.u (low_at graph o.level o.u) a (paths.low graph o.level o.u)
      (subst (λ (n : Node). Reaches graph n a) split.first_low to_a))
      (paths.further graph o.v (low_at graph o.level o.v) b (paths.low graph o.level o.v)
      (subst (λ (n : Node). Reaches graph n b) split.second_low to_b))

  cover_low_grown : (old one : Graph) → IsReduced old → KeepsNodes old one → (o : Operands) → AreSplit old o → (all : List Pair)
      → CoverReached old o.u o.v all → CoverReached one o.u_low o.v_low all
  cover_low_grown old one reduced keeps o split all cover a b to_a to_b =
      cover_low old o split all cover a b
      (paths.kept_back old one reduced keeps o.u_low a (splits.u_low old reduced o split).stands to_a)
      (paths.kept_back old one reduced keeps o.v_low b (splits.v_low old reduced o split).stands to_b)

-- pairs that stand in front differ, so that they are no more than those that they are among
module _ {V : Type 0} (all used : List Pair) (cache : Cache Pair V) (front : AreInFront same_pair cache.entries used)
    (among : AreAmong used all) where
  no_more : length used ≤ length all
  no_more = no_longer used all front.distinct among

  one_left : (own : Pair) → is_one used own ≡ false → is_one all own ≡ true → length used < length all
  one_left own unused there = one_more used all own front.distinct among unused there

among_both : (all used : List Pair) (own : Pair) → AreAmong used all → is_one all own ≡ true → AreAmong (own ∷ used) all
among_both all used own among there pair is = among_more used all own among there pair is

-- pairs above a call are used as they were, its operands among them until it ends
module _ (growth : Growth) (splits : Splitting) (old one : Graph) (reduced : IsReduced old) (reduced_one : IsReduced one)
    (keeps : KeepsNodes old one) (o : Operands) (split : AreSplit old o)
    (used first second : List Pair) (by_high : SameAbove old o.u_high o.v_high used first)
    (by_low : SameAbove one o.u_low o.v_low first second) where
  split_one : AreSplit one o
  split_one = splits.kept old one keeps o split

  high_fewer : levels_from old o.u_high o.v_high < levels_from old o.u o.v
  high_fewer = splits.fewer old reduced o split o.u_high o.v_high (splits.u_high old reduced o split) (splits.v_high old reduced o split)

  low_fewer : levels_from one o.u_low o.v_low < levels_from one o.u o.v
  low_fewer = splits.fewer one reduced_one o split_one o.u_low o.v_low (splits.u_low one reduced_one o split_one)
      (splits.v_low one reduced_one o split_one)

  same_levels : (x y : Node) → is_node old x ≡ true → is_node old y ≡ true → levels_from one x y ≡ levels_from old x y
  same_levels x y first_stands second_stands = levels_kept growth old one keeps x y first_stands second_stands

  not_below : (x y : Node) → is_node old x ≡ true → is_node old y ≡ true → levels_from old o.u o.v ≤ levels_from old x y
      → is_one second (x, y) ≡ is_one used (x, y)
  not_below x y x_stands y_stands more =
      let own = same_levels o.u o.v (splits.first old o split) (splits.second old o split) in
      let theirs = same_levels x y x_stands y_stands in
      by_low x y (growth.stands old one keeps x x_stands) (growth.stands old one keeps y y_stands)
      (omega (arith, low_fewer, own, theirs, more))
      ∙ by_high x y x_stands y_stands (omega (arith, high_fewer, more))

  still_unused : is_one used (o.u, o.v) ≡ false → is_one second (o.u, o.v) ≡ false
  still_unused unused = not_below o.u o.v (splits.first old o split) (splits.second old o split) (omega arith) ∙ unused

  above_low : SameAbove old o.u o.v used second
  above_low x y x_stands y_stands more = not_below x y x_stands y_stands (omega (arith, more))

  above_both : SameAbove old o.u o.v used ((o.u, o.v) ∷ second)
  above_both x y x_stands y_stands more =
      other_same second (o.u, o.v) (x, y) differ ∙ not_below x y x_stands y_stands (omega (arith, more))
    where
      differ : ◌≡◌ {A = Pair} (x, y) (o.u, o.v) → ⊥
      differ is = let same : levels_from old x y ≡ levels_from old o.u o.v = ap (λ (p : Pair). levels_from old p.0 p.1) is in
          omega (arith, same, more)

module _ {S V : Type 0} where
  -- the call itself behind both sides
  paid_all : (old one two three : TableState S) (after : Cache Pair V) (u v : Node) (all used first second : List Pair)
      (error : Option TableError) → length used ≤ length first → length first ≤ length second
      → length second < length all → AddsAtMost (2 * (length first - length used)) old one
      → AddsAtMost (2 * (length second - length first)) one two → AddsAtMost 2 two three
      → (error ≡ None → AreInFront same_pair after.entries ((u, v) ∷ second)) → AreAmong ((u, v) ∷ second) all
      → SameAbove old.graph u v used ((u, v) ∷ second) → Pays old three after u v all used error
  paid_all old one two three after u v all used first second (Some came) more again few one_adds two_adds own front among above = omega
      (arith, more, again, few, one_adds, two_adds, own)
  paid_all old one two three after u v all used first second None more again few one_adds two_adds own front among above = record {
    used = (u, v) ∷ second;
    in_front = front refl;
    among = among;
    same_above = above;
    no_fewer = omega (arith, more, again);
    adds = omega (arith, more, again, one_adds, two_adds, own);
  }

  -- a call that is answered at once, without the cache or by it
  paid_plain : (table : TableState S) (cache : Cache Pair V) (u v : Node) (all used : List Pair) → AreInFront same_pair cache.entries used
      → AreAmong used all → PaysEach table table cache u v all used
  paid_plain table cache u v all used front among = record {
    used = used;
    in_front = front;
    among = among;
    same_above = λ x y first second more. refl;
    no_fewer = omega arith;
    adds = omega arith;
  }

  paid_none : (table : TableState S) (cache : Cache Pair V) (u v : Node) (all used : List Pair) (error : Option TableError)
      → AreInFront same_pair cache.entries used → AreAmong used all
      → Pays table table cache u v all used error
  paid_none table cache u v all used None front among = paid_plain table cache u v all used front among
  paid_none table cache u v all used (Some came) front among = omega arith

  paid_looked : (table : TableState S) (after : Cache Pair V) (u v : Node) (all used : List Pair)
      → AreInFront same_pair after.entries (with_key same_pair used (u, v)) → AreAmong used all
      → is_one all (u, v) ≡ true → PaysEach table table after u v all used
  paid_looked table after u v all used front among own =
      elim (is_one used (u, v)) as (λ b. AreInFront same_pair after.entries (if b then used else (u, v) ∷ used)
      → PaysEach table table after u v all used) [
        | true ↦ λ stands. paid_plain table after u v all used stands among
        | false ↦ λ stands. record {
          used = (u, v) ∷ used;
          in_front = stands;
          among = among_both all used (u, v) among own;
          same_above = λ x y first second more. other_same used (u, v) (x, y) (differ x y more);
          no_fewer = omega arith;
          adds = omega arith;
        }
      ] front
    where
      differ : (x y : Node) → levels_from table.graph u v < levels_from table.graph x y → ◌≡◌ {A = Pair} (x, y) (u, v) → ⊥
      differ x y more is = let same : levels_from table.graph x y
          ≡ levels_from table.graph u v = ap (λ (p : Pair). levels_from table.graph p.0 p.1) is in omega (arith, same, more)

  -- a call that begins with no pair used pays for each that it may come to
  paid_in_all : (old new : TableState S) (after : Cache Pair V) (u v : Node) (all : List Pair) (error : Option TableError)
      → Pays old new after u v all [] error → AddsAtMost (2 * length all) old new
  paid_in_all old new after u v all (Some came) pays = omega (arith, pays)
  paid_in_all old new after u v all None pays = let few = no_more all pays.used after pays.in_front pays.among in
      omega (arith, few, pays.adds)

cover_of : (graph : Graph) (u v : Node) (us vs : List Node) → HoldsReached graph u us → HoldsReached graph v vs
    → CoverReached graph u v (pairs_of us vs)
cover_of graph u v us vs first second a b to_a to_b a_inner b_inner = pairs_of-has us vs a b (first a to_a a_inner) (second b to_b b_inner)

module _ {S V : Type 0} where
  -- a call that ends with its high side
  as_high : Splitting → (old new : TableState S) (after : Cache Pair V) (o : Operands) (all used : List Pair) (error : Option TableError)
      → IsReduced old.graph → AreSplit old.graph o
      → Pays old new after o.u_high o.v_high all used error → Pays old new after o.u o.v all used error
  as_high splits old new after o all used (Some came) reduced split pays = pays
  as_high splits old new after o all used None reduced split pays = record {
    used = pays.used;
    in_front = pays.in_front;
    among = pays.among;
    same_above = λ x y first second more.
        let fewer = splits.fewer old.graph reduced o split o.u_high o.v_high (splits.u_high old.graph reduced o split)
        (splits.v_high old.graph reduced o split) in
        pays.same_above x y first second (omega (arith, fewer, more));
    no_fewer = pays.no_fewer;
    adds = pays.adds;
  }

  -- or with its low side
  as_low : Splitting → Growth → (old one new : TableState S) (between after : Cache Pair V) (o : Operands) (all used : List Pair)
      (error : Option TableError) → IsReduced old.graph → IsReduced one.graph
      → KeepsNodes old.graph one.graph → AreSplit old.graph o → (high : PaysEach old one between o.u_high o.v_high all used)
      → Pays one new after o.u_low o.v_low all high.used error → Pays old new after o.u o.v all used error
  as_low splits growth old one new between after o all used (Some came) reduced still keeps split high low =
      let few = no_more all high.used between high.in_front high.among in omega (arith, high.no_fewer, few, high.adds, low)
  as_low splits growth old one new between after o all used None reduced still keeps split high low = record {
    used = low.used;
    in_front = low.in_front;
    among = low.among;
    same_above = above_low growth splits old.graph one.graph reduced still keeps o split used high.used low.used high.same_above
        low.same_above;
    no_fewer = omega (arith, high.no_fewer, low.no_fewer);
    adds = omega (arith, high.no_fewer, low.no_fewer, high.adds, low.adds);
  }

-- A call from its sides.
module _ (paths : Reachability) (splits : Splitting) (growth : Growth) {S V : Type 0} (old one two : TableState S)
    (before cache_one cache_two : Cache Pair V) (o : Operands) (split : AreSplit old.graph o) where
  high_only : (error : Option TableError) → IsReduced old.graph → Prices old before o.u_high o.v_high one cache_one error
      → Prices old before o.u o.v one cache_one error
  high_only error reduced high = record {
    pays = λ all used cover room front among. as_high splits old one cache_one o all used error reduced split
        (high.pays all used (cover_high paths splits old.graph o split all cover) room front among);
  }

  module _ (reduced : IsReduced old.graph) (keeps : KeepsNodes old.graph one.graph) (same : cache_one.capacity
      ≡ before.capacity) (high : Prices old before o.u_high o.v_high one cache_one None) where
    low_last : (error : Option TableError) → IsReduced one.graph → Prices one cache_one o.u_low o.v_low two cache_two error
        → Prices old before o.u o.v two cache_two error
    low_last error reduced_one low = record {
      pays = λ all used cover room front among.
          let each = high.pays all used (cover_high paths splits old.graph o split all cover) room front among in
          as_low splits growth old one two cache_one cache_two o all used error reduced reduced_one keeps split each
          (low.pays all each.used (cover_low_grown paths splits old.graph one.graph reduced keeps o split all cover)
          (omega (arith, room, same)) each.in_front each.among);
    }

    -- two clauses for each pair that was used, these operands among them
    module _ (reduced_one : IsReduced one.graph) (same_two : cache_two.capacity
        ≡ cache_one.capacity) (low : Prices one cache_one o.u_low o.v_low two cache_two None)
        (first : IsNoConstant o.u) (second : IsNoConstant o.v) (unknown : (used : List Pair) → AreInFront same_pair before.entries used
        → is_one used (o.u, o.v) ≡ false) where
      closed : (new : TableState S) (after : Cache Pair V) (error : Option TableError) → AddsAtMost 2 two new
          → ((used : List Pair) → AreInFront same_pair cache_two.entries used → is_one used (o.u, o.v) ≡ false → length used
          < cache_two.capacity → error ≡ None
          → AreInFront same_pair after.entries ((o.u, o.v) ∷ used)) → Prices old before o.u o.v new after error
      closed new after error own_adds in_front = record {
        pays = λ all used cover room front among.
            let each = high.pays all used (cover_high paths splits old.graph o split all cover) room front among in
            let more = low.pays all each.used (cover_low_grown paths splits old.graph one.graph reduced keeps o split all cover)
            (omega (arith, room, same)) each.in_front each.among in
            let own = cover o.u o.v (paths.itself old.graph o.u) (paths.itself old.graph o.v) first second in
            let unused = still_unused growth splits old.graph one.graph reduced reduced_one keeps o split used each.used more.used
            each.same_above more.same_above (unknown used front) in
            let fewer = one_left all more.used cache_two more.in_front more.among (o.u, o.v) unused own in
            let room_two : length more.used < cache_two.capacity = omega (arith, fewer, room, same, same_two) in
            paid_all old one two new after o.u o.v all used each.used more.used error each.no_fewer more.no_fewer fewer each.adds more.adds
            own_adds (in_front more.used more.in_front unused room_two)
            (among_both all more.used (o.u, o.v) more.among own)
            (above_both growth splits old.graph one.graph reduced reduced_one keeps o split used each.used more.used each.same_above
            more.same_above);
      }

-- by the numbers of nodes that the operands reach
priced : {S V : Type 0} → UsedInFront Pair V same_pair → (old new : TableState S) (before after : Cache Pair V) (u v : Node)
    (us vs : List Node) (error : Option TableError) → Prices old before u v new after error
    → HoldsReached old.graph u us → HoldsReached old.graph v vs → length us * length vs ≤ before.capacity
    → AddsAtMost (2 * (length us * length vs)) old new
priced used old new before after u v us vs error prices first second room =
    let all = pairs_of-length us vs in
    subst (λ (n : ℕ). AddsAtMost (2 * n) old new) all
    (paid_in_all old new after u v (pairs_of us vs) error
    (prices.pays (pairs_of us vs) [] (cover_of old.graph u v us vs first second) (omega (arith, all, room)) (used.none before.entries)
    (λ pair is. cc)))

pub pricing : {S V : Type 0} → Reachability → Splitting → Growth → UsedInFront Pair V same_pair → Pricing S V
pricing paths splits growth in_front = record {
  none = λ table cache u v error. record { pays = λ all used cover room front among. paid_none table cache u v all used error front among };
  looked = λ table before after u v first second look. record {
    pays = λ all used cover room front among. paid_looked table after u v all used (look used front) among
        (cover u v (paths.itself table.graph u) (paths.itself table.graph v) first second);
  };
  high_only = λ old one before cache_one o error reduced split. high_only paths splits growth old one one before cache_one cache_one o split
      error reduced;
  low_last = λ old one two before cache_one cache_two o error reduced reduced_one keeps split same high low.
      low_last paths splits growth old one two before cache_one cache_two o split reduced keeps same high error reduced_one low;
  closed = λ old one two new before cache_one cache_two after o error reduced reduced_one keeps split first second unknown same same_two
      high low.
      closed paths splits growth old one two before cache_one cache_two o split reduced keeps same high reduced_one same_two low first
      second unknown new after error;
  whole = priced in_front;
}
