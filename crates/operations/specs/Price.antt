-- How many clauses a call adds where its cache is as large as the pairs that it may come to: two for each pair that is
-- kept. The pairs that were used stand in front of the cache, and none of them is pushed out.
use Rattle.std.specs.Prelude.{◌≡◌, ◌≤◌, ◌<◌, ◌*◌, ◌-◌, ◌∷◌, List, Option, None, Some, IsTrue, IsFalse, Contains, length}
use Rattle.node_table.specs.declared.error.TableError.{TableError}
use Rattle.node_table.specs.declared.node.Node.{Node}
use Rattle.node_table.specs.Diagram.{Graph, IsReduced, KeepsNodes, is_node}
use Rattle.node_table.specs.Made.{Reaches}
use Rattle.node_table.specs.Table.{TableState, AddsAtMost}
use Rattle.op_cache.specs.Cache.{Cache}
use Rattle.op_cache.specs.Laws.{AreInFront}
use Rattle.operations.specs.declared.operands.Operands.{Operands}
use Rattle.operations.specs.Operands.{AreSplit, levels_from}
use Rattle.operations.specs.Caches.{with_key}
use Rattle.operations.specs.Pairs.{IsNoConstant, Pair, is_one, same_pair}

-- the inner nodes that a node reaches are all among these
abbrev pub HoldsReached : Graph → Node → List Node → Type 0
HoldsReached graph node nodes = (other : Node) → Reaches graph node other → IsNoConstant other → Contains nodes other

-- An inner node that u reaches, and one that v reaches, are one of these pairs.
abbrev pub CoverReached : Graph → Node → Node → List Pair → Type 0
CoverReached graph u v pairs = (a b : Node) → Reaches graph u a → Reaches graph v b → IsNoConstant a → IsNoConstant b
    → IsTrue (is_one pairs (a, b))

-- these pairs are all among those
abbrev pub AreAmong : List Pair → List Pair → Type 0
AreAmong few more = (pair : Pair) → IsTrue (is_one few pair) → IsTrue (is_one more pair)

-- Pairs of nodes above those of a call are used as they were.
abbrev pub SameAbove : Graph → Node → Node → List Pair → List Pair → Type 0
SameAbove graph u v before after = (x y : Node) → IsTrue (is_node graph x) → IsTrue (is_node graph y) → levels_from graph u v
    < levels_from graph x y
    → is_one after (x, y) ≡ is_one before (x, y)

-- A call that ended well: for each pair that it used first at most two clauses were added.
pub record PaysEach {S V : Type 0} (old new : TableState S) (after : Cache Pair V) (u v : Node) (all before : List Pair) : Type 0 where
  pub used : List Pair
  pub in_front : AreInFront same_pair after.entries used
  pub among : AreAmong used all
  pub same_above : SameAbove old.graph u v before used
  pub no_fewer : length before ≤ length used
  pub adds : AddsAtMost (2 * (length used - length before)) old new

-- However the call ends, it adds no more than two clauses for each pair that isn't used yet.
abbrev pub Pays : {S V : Type 0} → TableState S → TableState S → Cache Pair V → Node → Node → List Pair → List Pair → Option TableError
    → Type 0
Pays old new after u v all before None = PaysEach old new after u v all before
Pays old new after u v all before (Some error) = AddsAtMost (2 * (length all - length before)) old new

-- The call began with this cache, and with some pairs used. It pays where the cache has room for all that it may come to.
pub record Prices {S V : Type 0} (old : TableState S) (before : Cache Pair V) (u v : Node) (new : TableState S) (after : Cache Pair V)
    (error : Option TableError) : Type 0 where
  pub pays : (all used : List Pair) → CoverReached old.graph u v all → length all ≤ before.capacity
      → AreInFront same_pair before.entries used → AreAmong used all
      → Pays old new after u v all used error

-- What a call pays, from its sides: none or both are there, or it ends as one of them does.
pub record Pricing (S V : Type 0) : Type 0 where
  -- nothing changes
  pub none : (table : TableState S) (cache : Cache Pair V) (u v : Node) (error : Option TableError)
      → Prices table cache u v table cache error
  -- the operands come to be used by a look-up
  pub looked : (table : TableState S) (before after : Cache Pair V) (u v : Node) → IsNoConstant u → IsNoConstant v
      → ((used : List Pair) → AreInFront same_pair before.entries used
      → AreInFront same_pair after.entries (with_key same_pair used (u, v))) → Prices table before u v table after None
  pub high_only : (old one : TableState S) (before cache_one : Cache Pair V) (o : Operands) (error : Option TableError)
      → IsReduced old.graph → AreSplit old.graph o
      → Prices old before o.u_high o.v_high one cache_one error → Prices old before o.u o.v one cache_one error
  pub low_last : (old one two : TableState S) (before cache_one cache_two : Cache Pair V) (o : Operands) (error : Option TableError)
      → IsReduced old.graph → IsReduced one.graph → KeepsNodes old.graph one.graph
      → AreSplit old.graph o → cache_one.capacity ≡ before.capacity → Prices old before o.u_high o.v_high one cache_one None
      → Prices one cache_one o.u_low o.v_low two cache_two error
      → Prices old before o.u o.v two cache_two error
  -- the operands come to be used behind both sides
  pub closed : (old one two new : TableState S) (before cache_one cache_two after : Cache Pair V) (o : Operands) (error : Option TableError)
      → IsReduced old.graph → IsReduced one.graph
      → KeepsNodes old.graph one.graph → AreSplit old.graph o → IsNoConstant o.u → IsNoConstant o.v
      → ((used : List Pair) → AreInFront same_pair before.entries used → IsFalse (is_one used (o.u, o.v)))
      → cache_one.capacity ≡ before.capacity → cache_two.capacity ≡ cache_one.capacity
      → Prices old before o.u_high o.v_high one cache_one None → Prices one cache_one o.u_low o.v_low two cache_two None
      → AddsAtMost 2 two new
      → ((used : List Pair) → AreInFront same_pair cache_two.entries used → IsFalse (is_one used (o.u, o.v)) → length used
      < cache_two.capacity → error ≡ None
      → AreInFront same_pair after.entries ((o.u, o.v) ∷ used)) → Prices old before o.u o.v new after error
  -- by the numbers of inner nodes that the operands reach
  pub whole : (old new : TableState S) (before after : Cache Pair V) (u v : Node) (us vs : List Node) (error : Option TableError)
      → Prices old before u v new after error
      → HoldsReached old.graph u us → HoldsReached old.graph v vs → length us * length vs ≤ before.capacity
      → AddsAtMost (2 * (length us * length vs)) old new
