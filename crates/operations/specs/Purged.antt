-- The caches before nodes are swept away that nothing reaches: entries that name such a node go, and their clauses are
-- retired. What is left fits the table without those nodes.
use Rattle.std.specs.Prelude.{◌≡◌, ◌∷◌, ◌++◌, ◌&&◌, ℕ, ℤ, Bool, true, false, List, Option, Some, Contains, nat_eq}
use Rattle.std.specs.List.{IsDistinct, filter}
use Rattle.lrat_rules.specs.State.{Live, clause_at}
use Rattle.node_table.specs.declared.node.Justification.TheVariants.{Trivial}
use Rattle.node_table.specs.Deleted.{IsClear}
use Rattle.node_table.specs.Diagram.{Graph, IsReduced}
use Rattle.node_table.specs.Marks.{AreMarks, is_marked}
use Rattle.node_table.specs.Swept.{IsSwept}
use Rattle.node_table.specs.Table.{TableState, IsAddedTo, IsSound}
use Rattle.operations.specs.Accounts.{RetiresOne}
use Rattle.operations.specs.Entries.{Entry, Conjunction, Implication, Disjunction, Quantification, AreApart, Fits, FitsEntry, IsAccounted}
use Rattle.operations.specs.Entries.{IsClauseOf, IsNamed, Names, just_of}

-- the nodes that an entry names are marked
abbrev pub are_marked : List Bool → Entry → Bool
are_marked marks (Conjunction u v w just) = is_marked marks u && is_marked marks v && is_marked marks w
are_marked marks (Implication u v just) = is_marked marks u && is_marked marks v
are_marked marks (Disjunction u v w) = is_marked marks u && is_marked marks v && is_marked marks w
are_marked marks (Quantification u level w) = is_marked marks u && is_marked marks w

-- Those entries stay whose nodes are marked, in their order; the clauses of the others are retired, each once, and no others.
pub record IsPurged {S : Type 0} (old new : TableState S) (marks : List Bool) (before after : List Entry) : Type 0 where
  pub stays : after ≡ filter (are_marked marks) before
  pub more : List ℕ
  pub table : new ≡ record old { retired = old.retired ++ more }
  pub named : (id : ℕ) → Contains more id → (entry : Entry) × Contains before entry × (are_marked marks entry ≡ false) × Names entry id
  pub each : (entry : Entry) (id : ℕ) → Contains before entry → are_marked marks entry ≡ false → Names entry id → Contains more id
  pub once : IsDistinct nat_eq old.retired → IsDistinct nat_eq new.retired

-- What purging leaves.
pub record Purging (S : Type 0) : Type 0 where
  -- caches one after another
  pub joined : (old middle new : TableState S) (marks : List Bool) (one one_after other other_after : List Entry)
      → IsPurged old middle marks one one_after → IsPurged middle new marks other other_after
      → IsPurged old new marks (one ++ other) (one_after ++ other_after)
  -- entries that name no clauses
  pub plain : (table : TableState S) (marks : List Bool) (entries : List Entry)
      → ((entry : Entry) → Contains entries entry → just_of entry ≡ Trivial)
      → IsPurged table table marks entries (filter (are_marked marks) entries)
  -- the table stays sound, and the entries that stay fit it
  pub sound : (old new : TableState S) (marks : List Bool) (before after : List Entry) → IsSound old → Fits old before
      → IsPurged old new marks before after → IsSound new
  pub fits : (old new : TableState S) (marks : List Bool) (before after : List Entry) → IsSound old → Fits old before
      → IsPurged old new marks before after → Fits new after
  -- and so do those of other caches, beside them
  pub beside : (old new : TableState S) (marks : List Bool) (before after others : List Entry) → IsSound old → Fits old (before ++ others)
      → AreApart before others
      → IsPurged old new marks before after → Fits new (after ++ others) × AreApart after others
  pub fewer : (old new : TableState S) (marks : List Bool) (before after : List Entry) (entry : Entry) → IsPurged old new marks before after
      → Contains after entry → Contains before entry
  pub marked : (old new : TableState S) (marks : List Bool) (before after : List Entry) (entry : Entry)
      → IsPurged old new marks before after → Contains after entry
      → are_marked marks entry ≡ true
  -- the clause of an entry over marked nodes holds no extension variable of another
  pub clear : (graph : Graph) (live : Live) (marks : List Bool) (entry : Entry) (id : ℕ) (clause : List ℤ) → IsReduced graph
      → FitsEntry graph live entry → Names entry id
      → are_marked marks entry ≡ true → clause_at live id ≡ Some clause → IsClear graph marks clause
  -- nothing is lost: what was accounted for is so still
  pub accounted : (old new : TableState S) (marks : List Bool) (before after : List Entry) (id : ℕ) → IsPurged old new marks before after
      → IsAccounted old before id → IsAccounted new after id
  -- entries over marked nodes fit the swept table, where the clauses that they name are live still
  pub swept : (old new : TableState S) (marks : List Bool) (entries : List Entry) → IsSound old → AreMarks old.graph marks
      → IsSwept old.graph new.graph marks
      → ((entry : Entry) → Contains entries entry → are_marked marks entry ≡ true) → Fits old entries
      → ((id : ℕ) → IsNamed entries id → clause_at new.book.state.live id ≡ clause_at old.book.state.live id) → new.inputs ≡ old.inputs
      → new.retired ≡ old.retired → Fits new entries

-- The clause of an entry was added, and isn't retired.
pub record MayRetire {S : Type 0} (table : TableState S) (entry : Entry) : Type 0 where
  pub own : (id : ℕ) → Names entry id → IsAddedTo table id
  pub unretired : (id : ℕ) → Names entry id → Contains table.retired id → ⊥

-- Purging entry by entry, the last one first.
pub record PurgingTurns (S : Type 0) : Type 0 where
  -- the entry before those that were looked at stays,
  pub stays : (old new : TableState S) (marks : List Bool) (before after : List Entry) (entry : Entry) → IsPurged old new marks before after
      → are_marked marks entry ≡ true
      → IsPurged old new marks (entry ∷ before) (entry ∷ after)
  -- or it goes, and its clause is retired
  pub goes : (old middle new : TableState S) (marks : List Bool) (before after : List Entry) (entry : Entry) (given : Option ℕ)
      → IsPurged old middle marks before after → are_marked marks entry ≡ false
      → IsClauseOf (just_of entry) given → MayRetire middle entry → RetiresOne middle new given
      → IsPurged old new marks (entry ∷ before) after
  -- as it may be, since no other entry names it
  pub may : (old middle : TableState S) (marks : List Bool) (before after : List Entry) (entry : Entry) → Fits old (entry ∷ before)
      → (Contains before entry → ⊥)
      → IsPurged old middle marks before after → MayRetire middle entry
