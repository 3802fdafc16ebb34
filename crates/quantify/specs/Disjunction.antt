-- The disjunction as an operation on diagrams: what is asked, a whole call, however it ends, and the step that closes one
-- that was split. (Bryant: Graph-Based Algorithms for Boolean Function Manipulation, 1986, section 4.3: apply.)
use Rattle.std.specs.Prelude.{◌≡◌, ◌≢◌, ◌⊎◌, ◌||◌, Bool, Some, Result, Ok, Contains, IfOk, IsTrue, min}
use Rattle.node_table.specs.declared.error.TableError.{TableError}
use Rattle.node_table.specs.declared.node.Node.{Node}
use Rattle.node_table.specs.declared.node.Node.TheVariants.{False, True}
use Rattle.node_table.specs.Diagram.{Graph, is_node, level_of}
use Rattle.node_table.specs.Value.{Levels, value_of}
use Rattle.node_table.specs.Table.{TableState, IsSound, HasChildren}
use Rattle.node_table.specs.Made.{ReachesNew}
use Rattle.operations.specs.declared.operands.Operands.{Operands}
use Rattle.operations.specs.Operands.{AreSplit, IsInner}
use Rattle.operations.specs.Machine.{Calls}
use Rattle.operations.specs.Results.{Disjoined}
use Rattle.operations.specs.Entries.{Disjunction, Fits, HaveSame}
use Rattle.operations.specs.Pairs.{Pair}
use Rattle.quantify.specs.OrCache.{OrCache, MakesRoomFor, RemembersDisjunctions, disjunctions}
use Rattle.quantify.specs.Runs.{Runs}

-- the function of either
abbrev pub disjunction_of : Graph → Node → Node → Levels → Bool
disjunction_of graph u v a = value_of graph a u || value_of graph a v

-- The disjunction w of a constant with a node, or of a node with itself.
abbrev pub IsPlain : Node → Node → Node → Type 0
IsPlain u v w = (((u ≡ True) ⊎ (v ≡ True)) × (w ≡ True)) ⊎ (((u ≡ False) × (w ≡ v)) ⊎ (((v ≡ False) × (w ≡ u)) ⊎ ((u ≡ v) × (w ≡ u))))

-- What a call may begin with.
pub record CanDisjoin {S : Type 0} (table : TableState S) (cache : OrCache) (u v : Node) : Type 0 where
  pub sound : IsSound table
  pub first : IsTrue (is_node table.graph u)
  pub second : IsTrue (is_node table.graph v)
  pub fits : Fits table (disjunctions cache)

-- No plain pair, and no entry has it.
pub record IsUnknown (graph : Graph) (cache : OrCache) (u v : Node) : Type 0 where
  pub differ : u ≢ v
  pub first : IsInner graph u
  pub second : IsInner graph v
  pub none : (w : Node) → Contains (disjunctions cache) (Disjunction u v w) → ⊥

-- The call for u and v began with this table and this cache, and ended with those and this result.
pub record Disjoins {S : Type 0} (old : TableState S) (before : OrCache) (u v : Node) (new : TableState S) (after : OrCache)
    (result : Result Node TableError) : Type 0 where
  pub runs : Runs old (disjunctions before) (disjunction_of old.graph u v) new (disjunctions after) result
  pub remembers : RemembersDisjunctions before after
  pub disjoined : IfOk result (λ w. Disjoined new.graph u v w)
  pub reachable : IfOk result (λ w. ReachesNew old.graph new.graph w)
  pub kept : u ≢ v → IsInner old.graph u → IsInner old.graph v → IfOk result (λ w. Contains (disjunctions after) (Disjunction u v w))
  pub known : (w : Node) → Contains (disjunctions before) (Disjunction u v w) → (result ≡ Ok w) × (new ≡ old)
      × HaveSame (disjunctions before) (disjunctions after)
  pub plain : (w : Node) → IsPlain u v w → (result ≡ Ok w) × (new ≡ old) × (after ≡ before)

-- What the last step may begin with: the results of both sides.
pub record CanClose {S : Type 0} (table : TableState S) (cache : OrCache) (o : Operands) (high low : Node) : Type 0 where
  pub sound : IsSound table
  pub fits : Fits table (disjunctions cache)
  pub split : AreSplit table.graph o
  pub on_high : Disjoined table.graph o.u_high o.v_high high
  pub on_low : Disjoined table.graph o.u_low o.v_low low

-- The step from the results of both sides to the disjunction of these operands, which is kept.
pub record Closes {S : Type 0} (old : TableState S) (before : OrCache) (o : Operands) (high low : Node) (new : TableState S) (after : OrCache)
    (result : Result Node TableError) : Type 0 where
  pub runs : Runs old (disjunctions before) (disjunction_of old.graph o.u o.v) new (disjunctions after) result
  pub room : MakesRoomFor before after o.u o.v
  pub disjoined : IfOk result (λ w. Disjoined new.graph o.u o.v w)
  pub kept : IfOk result (λ w. Contains (disjunctions after) (Disjunction o.u o.v w))
  pub children : IfOk result (λ w. HasChildren new.graph o.level high low w)
  pub reachable : IfOk result (λ w. ReachesNew old.graph new.graph w)

-- A pair is split into that of its high cofactors and that of its low ones.
abbrev pub disjoining : {S : Type 0} → Calls S OrCache Pair Operands Node
disjoining = record {
  can = λ table cache pair. CanDisjoin table cache pair.0 pair.1;
  ends = λ old before pair new after result. Disjoins old before pair.0 pair.1 new after result;
  can_close = CanClose;
  closes = Closes;
  high = λ o. (o.u_high, o.v_high);
  low = λ o high. Some (o.u_low, o.v_low);
  level = λ o. o.level;
  floor = λ table pair. min (level_of table.graph pair.0) (level_of table.graph pair.1);
}
