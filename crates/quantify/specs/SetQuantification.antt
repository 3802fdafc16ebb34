-- The existential quantification by a set of levels, as an operation on diagrams: what is asked, a whole call, however it
-- ends, and what the step that closes one begins with. A call asks for a node and a place in the set: by which levels of the
-- set the node is quantified, those from this place on. (Bryant: Graph-Based Algorithms for Boolean Function Manipulation,
-- 1986, sections 4.3 and 4.4: apply and restrict.)
use Rattle.std.specs.Prelude.{◌≡◌, ◌+◌, ◌<◌, ◌^◌, ℕ, List, [], ◌∷◌, Some, Result, Contains, IfOk, IsTrue, drop, length}
use Rattle.std.specs.Prelude.{nat_lt, if◌then◌else◌}
use Rattle.node_table.specs.declared.error.TableError.{TableError}
use Rattle.node_table.specs.declared.node.Node.{Node}
use Rattle.node_table.specs.Diagram.{Graph, is_node, level_of, levels, high_at, low_at}
use Rattle.node_table.specs.Table.{TableState, IsSound, UnlessTorn}
use Rattle.operations.specs.Machine.{Calls}
use Rattle.operations.specs.Entries.{Quantification, Fits}
use Rattle.quantify.specs.declared.quantify_set.SetCaches.{SetCaches}
use Rattle.quantify.specs.declared.quantify_set.SetSides.{SetSides}
use Rattle.quantify.specs.ExistsCache.{ExistsCache, Question, quantifications}
use Rattle.quantify.specs.OrCache.{RemembersDisjunctions, disjunctions}
use Rattle.quantify.specs.RunsFor.{RunsFor}
use Rattle.quantify.specs.SomeValues.{AreLevels, AreRising, IsFromPlace, SetQuantified, function_of}

-- the levels of the set from this one on
abbrev pub from_level : ℕ → List ℕ → List ℕ
from_level own [] = []
from_level own (level ∷ more) = if nat_lt level own then from_level own more else (level ∷ more)

-- Each result that is kept is right: it is that of its node by the levels from its place on.
abbrev pub AreRight : Graph → List ℕ → ExistsCache → Type 0
AreRight graph set found = (u : Node) (place : ℕ) (w : Node) → Contains (quantifications found) (Quantification u place w)
    → IsTrue (is_node graph u) × SetQuantified graph u (drop place set) w

-- What a call for this node, and the step that closes one, may begin with.
pub record CanQuantifySet {S : Type 0} (table : TableState S) (caches : SetCaches) (u : Node) : Type 0 where
  pub sound : IsSound table
  pub stands : IsTrue (is_node table.graph u)
  pub set : AreLevels table.graph caches.set.now
  pub short : length caches.set.now < 2 ^ 32
  pub fits : Fits table (disjunctions caches.ors.now)
  pub right : AreRight table.graph caches.set.now caches.found.now

-- the set is the same, and the caches are lent by the same references
pub record AreLent (before after : SetCaches) : Type 0 where
  pub set : after.set ≡ before.set
  pub found : after.found.ghost_name ≡ before.found.ghost_name
  pub ors : after.ors.ghost_name ≡ before.ors.ghost_name

-- The call for u and the levels of the set from this place on began with this table and these caches, and ended with those
-- and this result.
pub record QuantifiesSet {S : Type 0} (set : List ℕ) (old : TableState S) (before : SetCaches) (u : Node) (place : ℕ) (new : TableState S)
    (after : SetCaches) (result : Result Node TableError) : Type 0 where
  pub runs : RunsFor old (disjunctions before.ors.now) (IsFromPlace (function_of old.graph u) (drop place set)) new
      (disjunctions after.ors.now) result
  pub remembers : RemembersDisjunctions before.ors.now after.ors.now
  pub right : UnlessTorn result (AreRight new.graph set after.found.now)
  pub quantified : IfOk result (λ w. SetQuantified new.graph u (drop place set) w)
  pub lent : AreLent before after

-- A node that no level of the set from a place on stands before, its level and its children, and the place from which on these
-- are quantified: the next one where the node's own level is the set's there.
pub record AreSides (graph : Graph) (set : List ℕ) (p : SetSides) : Type 0 where
  pub stands : IsTrue (is_node graph p.node)
  pub own : level_of graph p.node ≡ p.own
  pub within : p.own < levels graph
  pub some : 0 < length (drop p.place set)
  pub next : drop p.place set ≡ (if p.chosen then (p.own ∷ drop p.next set) else drop p.next set)
  pub later : AreRising (p.own + 1) (levels graph) (drop p.next set)
  pub high : p.high ≡ high_at graph p.own p.node
  pub low : p.low ≡ low_at graph p.own p.node

-- What the last step may begin with: the results of both sides.
pub record CanCloseSet {S : Type 0} (table : TableState S) (caches : SetCaches) (p : SetSides) (high low : Node) : Type 0 where
  pub can : CanQuantifySet table caches p.node
  pub sides : AreSides table.graph caches.set.now p
  pub on_high : SetQuantified table.graph p.high (drop p.next caches.set.now) high
  pub on_low : SetQuantified table.graph p.low (drop p.next caches.set.now) low

-- A node is split into its children; the step that closes the call ends as the call does.
abbrev pub quantifying_set : {S : Type 0} → Calls S SetCaches Question SetSides Node
quantifying_set = record {
  can = λ table caches question. CanQuantifySet table caches question.0;
  ends = λ old before question new after result. QuantifiesSet before.set.now old before question.0 question.1 new after result;
  can_close = CanCloseSet;
  closes = λ old before p high low new after result. QuantifiesSet before.set.now old before p.node p.place new after result;
  high = λ p. (p.high, p.next);
  low = λ p high. Some (p.low, p.next);
  level = λ p. p.own;
  floor = λ table question. level_of table.graph question.0;
}
