-- The existential quantification by one variable, as an operation on diagrams: what is asked, a whole call, however it
-- ends, and the step that closes one that was split. (Bryant: Graph-Based Algorithms for Boolean Function Manipulation, 1986,
-- sections 4.3 and 4.4: apply and restrict.)
use Rattle.std.specs.Prelude.{◌≡◌, ◌≤◌, ◌<◌, ◌||◌, ℕ, Bool, true, false, Option, None, Some, Result, Ok, Err, Contains, IfOk, IsTrue}
use Rattle.node_table.specs.declared.error.TableError.{TableError}
use Rattle.node_table.specs.declared.node.Node.{Node}
use Rattle.node_table.specs.Diagram.{Graph, is_node, level_of, levels, high_at, low_at}
use Rattle.node_table.specs.Value.{Levels, value_of}
use Rattle.node_table.specs.Table.{TableState, IsSound, HasChildren}
use Rattle.node_table.specs.Made.{ReachesNew}
use Rattle.operations.specs.Machine.{Calls}
use Rattle.operations.specs.Results.{Quantified, with_level}
use Rattle.operations.specs.Entries.{Quantification, Fits, HaveSame}
use Rattle.quantify.specs.declared.quantify.Above.{Above}
use Rattle.quantify.specs.declared.quantify.BothCaches.{BothCaches}
use Rattle.quantify.specs.ExistsCache.{ExistsCache, MakesRoomFor, Question, RemembersQuantifications, both_caches, quantifications}
use Rattle.quantify.specs.OrCache.{OrCache, RemembersDisjunctions}
use Rattle.quantify.specs.Runs.{Runs}

-- the function that holds where some value of this level's variable makes u hold
abbrev pub quantification_of : Graph → Node → ℕ → Levels → Bool
quantification_of graph u level a = value_of graph (with_level a level true) u || value_of graph (with_level a level false) u

-- What a call may begin with.
pub record CanQuantify {S : Type 0} (table : TableState S) (cache : ExistsCache) (ors : OrCache) (u : Node) (level : ℕ) : Type 0 where
  pub sound : IsSound table
  pub stands : IsTrue (is_node table.graph u)
  pub within : level < levels table.graph
  pub fits : Fits table (both_caches cache ors)

-- no entry is of this question
abbrev pub IsMissed : ExistsCache → Node → ℕ → Type 0
IsMissed cache u level = (w : Node) → Contains (quantifications cache) (Quantification u level w) → ⊥

-- The call for u and this level began with this table and these caches, and ended with those and this result.
pub record Quantifies {S : Type 0} (old : TableState S) (before : ExistsCache) (ors : OrCache) (u : Node) (level : ℕ)
    (new : TableState S) (after : ExistsCache) (ors_after : OrCache) (result : Result Node TableError) : Type 0 where
  pub runs : Runs old (both_caches before ors) (quantification_of old.graph u level) new
      (both_caches after ors_after) result
  pub remembers : RemembersQuantifications before after
  pub remembers_ors : RemembersDisjunctions ors ors_after
  pub quantified : IfOk result (λ w. Quantified new.graph u level w)
  pub reachable : IfOk result (λ w. ReachesNew old.graph new.graph w)
  pub kept : level_of old.graph u ≤ level → IfOk result (λ w. Contains (quantifications after) (Quantification u level w))
  pub known : (w : Node) → Contains (quantifications before) (Quantification u level w)
      → (result ≡ Ok w) × (new ≡ old) × HaveSame (quantifications before) (quantifications after) × (ors_after ≡ ors)
  pub plain : level < level_of old.graph u → (result ≡ Ok u) × (new ≡ old) × (after ≡ before) × (ors_after ≡ ors)

-- A call that isn't split: it has ended, or its node stands above the level, and no entry is of it.
abbrev pub IsAnswered : {S : Type 0} → TableState S → ExistsCache → OrCache → Node → ℕ → TableState S
    → ExistsCache → OrCache → Result (Option Node) TableError → Type 0
IsAnswered old before ors u level new after ors_after
    (Err error) = Quantifies old before ors u level new after ors_after (Err error)
IsAnswered old before ors u level new after ors_after
    (Ok (Some w)) = Quantifies old before ors u level new after ors_after (Ok w)
IsAnswered old before ors u level new after ors_after (Ok None) =
    (new ≡ old) × (after ≡ before) × (ors_after ≡ ors) × (level_of old.graph u < level) × IsMissed before u level

-- A node above the level that is quantified, its own level, and its children.
pub record IsAbove (graph : Graph) (p : Above) : Type 0 where
  pub stands : IsTrue (is_node graph p.node)
  pub own : level_of graph p.node ≡ p.own
  pub above : p.own < p.level
  pub level : p.level < levels graph
  pub high : p.high ≡ high_at graph p.own p.node
  pub low : p.low ≡ low_at graph p.own p.node

-- What the last step may begin with: the results of both sides.
pub record CanClose {S : Type 0} (table : TableState S) (cache : ExistsCache) (ors : OrCache) (p : Above) (high low : Node) : Type 0 where
  pub sound : IsSound table
  pub fits : Fits table (both_caches cache ors)
  pub above : IsAbove table.graph p
  pub on_high : Quantified table.graph p.high p.level high
  pub on_low : Quantified table.graph p.low p.level low

-- The step from the results of both sides to the quantification, which is kept.
pub record Closes {S : Type 0} (old : TableState S) (before : ExistsCache) (ors : OrCache) (p : Above) (high low : Node)
    (new : TableState S) (after : ExistsCache) (ors_after : OrCache) (result : Result Node TableError) : Type 0 where
  pub runs : Runs old (both_caches before ors) (quantification_of old.graph p.node p.level) new
      (both_caches after ors_after) result
  pub room : MakesRoomFor before after p.node p.level
  pub same_ors : ors_after ≡ ors
  pub quantified : IfOk result (λ w. Quantified new.graph p.node p.level w)
  pub kept : IfOk result (λ w. Contains (quantifications after) (Quantification p.node p.level w))
  pub children : IfOk result (λ w. HasChildren new.graph p.own high low w)
  pub reachable : IfOk result (λ w. ReachesNew old.graph new.graph w)

-- the caches are lent by the same references
pub record AreLent (before after : BothCaches) : Type 0 where
  pub exists : after.exists.ghost_name ≡ before.exists.ghost_name
  pub ors : after.ors.ghost_name ≡ before.ors.ghost_name

-- A node above the level is split into its children.
abbrev pub quantifying : {S : Type 0} → Calls S BothCaches Question Above Node
quantifying = record {
  can = λ table caches question. CanQuantify table caches.exists.now caches.ors.now question.0 question.1;
  ends = λ old before question new after result.
      Quantifies old before.exists.now before.ors.now question.0 question.1 new after.exists.now after.ors.now result
      × AreLent before after;
  can_close = λ table caches p high low. CanClose table caches.exists.now caches.ors.now p high low;
  closes = λ old before p high low new after result.
      Closes old before.exists.now before.ors.now p high low new after.exists.now after.ors.now result
      × AreLent before after;
  high = λ p. (p.high, p.level);
  low = λ p high. Some (p.low, p.level);
  level = λ p. p.own;
  floor = λ table question. level_of table.graph question.0;
}
