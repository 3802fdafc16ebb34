-- A whole call of a conjunction, however it ends: as one relation, from which the calls around it go on. Beside it the last
-- step of a call that was split, and the operation of both.
use Rattle.std.specs.Prelude.{◌≡◌, ◌≢◌, ◌<◌, ◌∷◌, ℕ, List, Some, Result, Ok, Err, Contains, IfOk, IsFalse, IsTrue, length, min}
use Rattle.node_table.specs.declared.error.TableError.{TableError}
use Rattle.node_table.specs.declared.error.TableError.TheVariants.{NodeLimit}
use Rattle.node_table.specs.declared.node.Node.{Node}
use Rattle.node_table.specs.declared.node.Justification.{Justification}
use Rattle.node_table.specs.declared.node.Justification.TheVariants.{Trivial, Clause}
use Rattle.node_table.specs.Diagram.{is_node, level_of}
use Rattle.node_table.specs.Table.{TableState, IsSound, HasChildren}
use Rattle.node_table.specs.Made.{LacksPart, MakesOnly, ReachesNew}
use Rattle.node_table.specs.Progress.{Steps, error_of}
use Rattle.operations.specs.declared.operands.Operands.{Operands}
use Rattle.operations.specs.Operands.{AreSplit, levels_from}
use Rattle.operations.specs.Machine.{Calls}
use Rattle.operations.specs.Results.{Conjoined}
use Rattle.operations.specs.Accounts.{AccountsFor}
use Rattle.operations.specs.Caches.{MakesRoom, Remembers}
use Rattle.operations.specs.Entries.{Conjunction, Fits, HaveSame}
use Rattle.operations.specs.Pairs.{IsNoConstant}
use Rattle.operations.specs.Price.{Prices}
use Rattle.apply_and.specs.Conjunction.{IsPlain, conjunction_of, most_additions}
use Rattle.apply_and.specs.Cache.{AndCache, Pair, StandInFront, entries, entry_of, is_one, most_entries}

-- The call for u and v began with this table and this cache, and ended with those and this result: what it found, made,
-- kept and retired, and how many clauses it added.
pub record Conjoins {S : Type 0} (old : TableState S) (before : AndCache) (u v : Node) (new : TableState S) (after : AndCache)
    (result : Result (Node × Justification) TableError) : Type 0 where
  pub conjoined : IfOk result (λ found. Conjoined new.graph new.book.state.live u v found.0 found.1)
  pub steps : Steps old new (most_additions (levels_from old.graph u v))
      (error_of result)
  pub accounts : AccountsFor old new (entries before) (entries after) (error_of result)
  pub unretired : IfOk result (λ found. (id : ℕ) → found.1 ≡ Clause id → Contains new.retired id → ⊥)
  pub kept : u ≢ v → IsNoConstant u → IsNoConstant v → IfOk result (λ found. Contains (entries after) (Conjunction u v found.0 found.1))
  pub remembers : Remembers entry_of before.results after.results
  pub price : Prices old before.results u v new after.results (error_of result)
  pub made : MakesOnly old.graph new.graph (conjunction_of old.graph u v)
  pub reachable : IfOk result (λ found. ReachesNew old.graph new.graph found.0)
  pub lacks : result ≡ Err NodeLimit → LacksPart new.graph (conjunction_of old.graph u v)

-- The step from the results of both sides to the conjunction of these operands, which is kept.
pub record Closes {S : Type 0} (old : TableState S) (before : AndCache) (o : Operands) (high low : Node × Justification) (new : TableState S) (after : AndCache)
    (result : Result (Node × Justification) TableError) : Type 0 where
  pub conjoined : IfOk result (λ found. Conjoined new.graph new.book.state.live o.u o.v found.0 found.1)
  pub steps : Steps old new 2 (error_of result)
  pub accounts : AccountsFor old new (entries before) (entries after) (error_of result)
  pub unretired : IfOk result (λ found. (id : ℕ) → found.1 ≡ Clause id → Contains new.retired id → ⊥)
  pub kept : IfOk result (λ found. Contains (entries after) (Conjunction o.u o.v found.0 found.1))
  pub room : MakesRoom entry_of before.results after.results (o.u, o.v)
  pub used : (used : List Pair) → StandInFront before used → IsFalse (is_one used (o.u, o.v)) → length used < most_entries before
      → IfOk result (λ found. StandInFront after ((o.u, o.v) ∷ used))
  pub children : IfOk result (λ found. HasChildren new.graph o.level high.0 low.0 found.0)
  pub made : MakesOnly old.graph new.graph (conjunction_of old.graph o.u o.v)
  pub reachable : IfOk result (λ found. ReachesNew old.graph new.graph found.0)
  pub lacks : result ≡ Err NodeLimit → LacksPart new.graph (conjunction_of old.graph o.u o.v)

-- No plain pair, and no entry has it, so that it isn't one of those that stand in front.
pub record IsUnknown (cache : AndCache) (u v : Node) : Type 0 where
  pub differ : u ≢ v
  pub first : IsNoConstant u
  pub second : IsNoConstant v
  pub none : (w : Node) (just : Justification) → Contains (entries cache) (Conjunction u v w just) → ⊥
  pub unused : (used : List Pair) → StandInFront cache used → IsFalse (is_one used (u, v))

-- What a call may begin with.
pub record CanConjoin {S : Type 0} (table : TableState S) (cache : AndCache) (u v : Node) : Type 0 where
  pub sound : IsSound table
  pub first : IsTrue (is_node table.graph u)
  pub second : IsTrue (is_node table.graph v)
  pub fits : Fits table (entries cache)

-- What the last step may begin with: the results of both sides.
pub record CanClose {S : Type 0} (table : TableState S) (cache : AndCache) (o : Operands) (high low : Node × Justification) : Type 0 where
  pub sound : IsSound table
  pub fits : Fits table (entries cache)
  pub split : AreSplit table.graph o
  pub on_high : Conjoined table.graph table.book.state.live o.u_high o.v_high high.0 high.1
  pub on_low : Conjoined table.graph table.book.state.live o.u_low o.v_low low.0 low.1

-- A call, and what a plain pair and one that is kept are answered.
pub record Answers {S : Type 0} (old : TableState S) (before : AndCache) (u v : Node) (new : TableState S) (after : AndCache)
    (result : Result (Node × Justification) TableError) : Type 0 where
  pub call : Conjoins old before u v new after result
  pub known : (w : Node) (just : Justification) → Contains (entries before) (Conjunction u v w just) → (result ≡ Ok (w, just)) × (new ≡ old)
      × HaveSame (entries before) (entries after)
  pub plain : (w : Node) → IsPlain u v w → (result ≡ Ok (w, Trivial)) × (new ≡ old) × (after ≡ before)

-- The conjunction as an operation on diagrams: a pair is split into that of its high cofactors and that of its low ones.
abbrev pub conjunctions : {S : Type 0} → Calls S AndCache Pair Operands (Node × Justification)
conjunctions = record {
  can = λ table cache pair. CanConjoin table cache pair.0 pair.1;
  ends = λ old before pair new after result. Answers old before pair.0 pair.1 new after result;
  can_close = CanClose;
  closes = Closes;
  high = λ o. (o.u_high, o.v_high);
  low = λ o high. Some (o.u_low, o.v_low);
  level = λ o. o.level;
  floor = λ table pair. min (level_of table.graph pair.0) (level_of table.graph pair.1);
}
