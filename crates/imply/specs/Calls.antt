-- A whole call of an implication, however it ends: as one relation, from which the calls around it go on. Beside it the last
-- step of a call that was split, and the operation of both.
use Rattle.std.specs.Prelude.{◌≡◌, ◌≢◌, ◌<◌, ◌∷◌, ℕ, List, Option, None, Some, Result, Ok, Err, Contains, IfOk, IsFalse, IsTrue}
use Rattle.std.specs.Prelude.{length, min}
use Rattle.node_table.specs.declared.error.TableError.{TableError}
use Rattle.node_table.specs.declared.error.TableError.TheVariants.{NodeLimit, IdLimit}
use Rattle.node_table.specs.declared.node.Node.{Node}
use Rattle.node_table.specs.declared.node.Justification.{Justification}
use Rattle.node_table.specs.declared.node.Justification.TheVariants.{Clause}
use Rattle.node_table.specs.Diagram.{is_node, level_of}
use Rattle.node_table.specs.Table.{TableState, IsSound, IsUsedUp}
use Rattle.node_table.specs.Progress.{Steps, error_of}
use Rattle.operations.specs.declared.operands.Operands.{Operands}
use Rattle.operations.specs.Operands.{AreSplit, levels_from}
use Rattle.operations.specs.Machine.{Calls}
use Rattle.operations.specs.Results.{Implied}
use Rattle.operations.specs.Accounts.{AccountsFor}
use Rattle.operations.specs.Budget.{most_additions}
use Rattle.operations.specs.Caches.{MakesRoom, Remembers}
use Rattle.operations.specs.Entries.{Implication, Fits, HaveSame}
use Rattle.operations.specs.Pairs.{IsNoConstant, Pair, is_one}
use Rattle.operations.specs.Price.{Prices}
use Rattle.imply.specs.Cache.{ImplyCache, StandInFront, entries, entry_of, most_entries}
use Rattle.imply.specs.Implication.{IsDecided, IsPlain}

-- The call for u and v began with this table and this cache, and ended with those and this result: what it found, kept and
-- retired, and how many clauses it added.
pub record Implies {S : Type 0} (old : TableState S) (before : ImplyCache) (u v : Node) (new : TableState S) (after : ImplyCache)
    (result : Result (Option Justification) TableError) : Type 0 where
  pub decided : IfOk result (λ answer. IsDecided new.graph new.book.state.live u v answer)
  pub steps : Steps old new (most_additions (levels_from old.graph u v))
      (error_of result)
  pub nodes : new.graph ≡ old.graph
  pub no_node_limit : result ≢ Err NodeLimit
  pub id_limit : result ≡ Err IdLimit → IsUsedUp new
  pub accounts : AccountsFor old new (entries before) (entries after) (error_of result)
  pub unretired : (id : ℕ) → result ≡ Ok (Some (Clause id)) → Contains new.retired id → ⊥
  pub kept : u ≢ v → IsNoConstant u → IsNoConstant v → (just : Justification) → result ≡ Ok (Some just)
      → Contains (entries after) (Implication u v just)
  pub remembers : Remembers entry_of before.results after.results
  pub price : Prices old before.results u v new after.results (error_of result)

-- The step from the justifications of both sides to that of the operands, which is kept.
pub record IsClosed {S : Type 0} (old : TableState S) (before : ImplyCache) (o : Operands) (new : TableState S) (after : ImplyCache)
    (result : Result (Option Justification) TableError) : Type 0 where
  pub decided : IfOk result (λ answer. IsDecided new.graph new.book.state.live o.u o.v answer)
  pub steps : Steps old new 2 (error_of result)
  pub nodes : new.graph ≡ old.graph
  pub no_node_limit : result ≢ Err NodeLimit
  pub id_limit : result ≡ Err IdLimit → IsUsedUp new
  pub accounts : AccountsFor old new (entries before) (entries after) (error_of result)
  pub unretired : (id : ℕ) → result ≡ Ok (Some (Clause id)) → Contains new.retired id → ⊥
  pub kept : (just : Justification) → result ≡ Ok (Some just) → Contains (entries after) (Implication o.u o.v just)
  pub room : MakesRoom entry_of before.results after.results (o.u, o.v)
  pub used : (used : List Pair) → StandInFront before used → IsFalse (is_one used (o.u, o.v)) → length used < most_entries before
      → error_of result ≡ None → StandInFront after ((o.u, o.v) ∷ used)

-- Where the low side doesn't hold, neither does the whole, and nothing changes.
abbrev pub Closes : {S : Type 0} → TableState S → ImplyCache → Operands → Option Justification → TableState S
    → ImplyCache → Result (Option Justification) TableError → Type 0
Closes old before o None new after result = (result ≡ Ok None) × (new ≡ old) × (after ≡ before)
Closes old before o (Some low) new after result = IsClosed old before o new after result

-- No plain pair, and no entry has it, so that it isn't one of those that stand in front.
pub record IsUnknown (cache : ImplyCache) (u v : Node) : Type 0 where
  pub differ : u ≢ v
  pub first : IsNoConstant u
  pub second : IsNoConstant v
  pub none : (just : Justification) → Contains (entries cache) (Implication u v just) → ⊥
  pub unused : (used : List Pair) → StandInFront cache used → IsFalse (is_one used (u, v))

-- What a call may begin with.
pub record CanImply {S : Type 0} (table : TableState S) (cache : ImplyCache) (u v : Node) : Type 0 where
  pub sound : IsSound table
  pub first : IsTrue (is_node table.graph u)
  pub second : IsTrue (is_node table.graph v)
  pub fits : Fits table (entries cache)

-- What the last step may begin with: the high side holds, and the low side is decided.
pub record CanClose {S : Type 0} (table : TableState S) (cache : ImplyCache) (o : Operands) (high low : Option Justification) : Type 0 where
  pub sound : IsSound table
  pub fits : Fits table (entries cache)
  pub split : AreSplit table.graph o
  pub just : Justification
  pub given : high ≡ Some just
  pub on_high : Implied table.graph table.book.state.live o.u_high o.v_high just
  pub on_low : IsDecided table.graph table.book.state.live o.u_low o.v_low low

-- A call, and what a plain pair and one that is kept are answered.
pub record Answers {S : Type 0} (old : TableState S) (before : ImplyCache) (u v : Node) (new : TableState S) (after : ImplyCache)
    (result : Result (Option Justification) TableError) : Type 0 where
  pub call : Implies old before u v new after result
  pub known : (just : Justification) → Contains (entries before) (Implication u v just) → (result ≡ Ok (Some just)) × (new ≡ old)
      × HaveSame (entries before) (entries after)
  pub plain : (answer : Option Justification) → IsPlain u v answer → (result ≡ Ok answer) × (new ≡ old) × (after ≡ before)

-- the low side is asked only where the high one holds
abbrev pub low_question : Operands → Option Justification → Option Pair
low_question o None = None
low_question o (Some just) = Some (o.u_low, o.v_low)

-- The implication as an operation on diagrams: a pair is split into that of its high cofactors and that of its low ones.
abbrev pub implications : {S : Type 0} → Calls S ImplyCache Pair Operands (Option Justification)
implications = record {
  can = λ table cache pair. CanImply table cache pair.0 pair.1;
  ends = λ old before pair new after result. Answers old before pair.0 pair.1 new after result;
  can_close = CanClose;
  closes = λ old before o high low new after result. Closes old before o low new after result;
  high = λ o. (o.u_high, o.v_high);
  low = low_question;
  level = λ o. o.level;
  floor = λ table pair. min (level_of table.graph pair.0) (level_of table.graph pair.1);
}
