-- The computed caches as one list: what operations found before. A clause that an entry names was added and is not
-- retired, and no two entries name one clause. (Brace, Rudell, Bryant: Efficient Implementation of a BDD Package, DAC 1990.)
use Rattle.std.specs.Prelude.{◌≡◌, ◌⊎◌, ◌<◌, ◌≤◌, ◌++◌, ℕ, List, [], Option, Contains, IsTrue, MatchOption}
use Rattle.lrat_rules.specs.State.{State, Live, clause_at}
use Rattle.node_table.specs.declared.node.Node.{Node}
use Rattle.node_table.specs.declared.node.Justification.{Justification}
use Rattle.node_table.specs.declared.node.Justification.TheVariants.{Trivial, Clause}
use Rattle.node_table.specs.Diagram.{Graph, is_node}
use Rattle.node_table.specs.Table.{TableState, IsSound, Extends, IsAddedTo}
use Rattle.operations.specs.Results.{Conjoined, Implied, Disjoined, Quantified}

-- what was asked, what was found, and why its clause holds, if there is one
pub data Entry : Type 0 where
  Conjunction : Node → Node → Node → Justification → Entry
  Implication : Node → Node → Justification → Entry
  Disjunction : Node → Node → Node → Entry
  Quantification : Node → ℕ → Node → Entry

abbrev pub just_of : Entry → Justification
just_of (Conjunction u v w just) = just
just_of (Implication u v just) = just
just_of (Disjunction u v w) = Trivial
just_of (Quantification u level w) = Trivial

-- the entry names this clause
abbrev pub Names : Entry → ℕ → Type 0
Names entry id = just_of entry ≡ Clause id

-- the clause of this justification, if it has one
abbrev pub IsClauseOf : Justification → Option ℕ → Type 0
IsClauseOf just given = MatchOption given (just ≡ Trivial) (λ id. just ≡ Clause id)

-- a clause that some entry names
abbrev pub IsNamed : List Entry → ℕ → Type 0
IsNamed entries id = (entry : Entry) × Contains entries entry × Names entry id

-- the operands stand
pub record AreNodes (graph : Graph) (u v : Node) : Type 0 where
  pub first : IsTrue (is_node graph u)
  pub second : IsTrue (is_node graph v)

-- the entry is right for these nodes and live clauses
abbrev pub FitsEntry : Graph → Live → Entry → Type 0
FitsEntry graph live (Conjunction u v w just) = AreNodes graph u v × Conjoined graph live u v w just
FitsEntry graph live (Implication u v just) = AreNodes graph u v × Implied graph live u v just
FitsEntry graph live (Disjunction u v w) = AreNodes graph u v × Disjoined graph u v w
FitsEntry graph live (Quantification u level w) = IsTrue (is_node graph u) × Quantified graph u level w

-- All entries of the caches fit the table.
pub record Fits {S : Type 0} (table : TableState S) (entries : List Entry) : Type 0 where
  pub each : (entry : Entry) → Contains entries entry → FitsEntry table.graph table.book.state.live entry
  pub own : (id : ℕ) → IsNamed entries id → IsAddedTo table id
  pub unretired : (id : ℕ) → IsNamed entries id → Contains table.retired id → ⊥
  pub apart : (one other : Entry) (id : ℕ) → Contains entries one → Contains entries other → Names one id → Names other id → one ≡ other

-- No clause is named by both, which holds of entries of different operations. An operation retires clauses that its own cache named,
-- so entries of others fit on where they are apart from these.
abbrev pub AreApart : List Entry → List Entry → Type 0
AreApart one other = (id : ℕ) → IsNamed one id → IsNamed other id → ⊥

-- the clause, where one is named, came after the one state and by the other
abbrev pub IsNewJustification : State → State → Justification → Type 0
IsNewJustification old new just = (id : ℕ) → just ≡ Clause id → (old.top < id) × (id ≤ new.top)

-- Each entry was there before, or its clause came since.
pub record NamesOnly (before after : List Entry) (old new : State) : Type 0 where
  pub each : (entry : Entry) → Contains after entry → Contains before entry ⊎ IsNewJustification old new (just_of entry)

-- A clause that an operation retires was retired before, came since, or was named by an entry of its cache.
pub record RetiresOwn {S : Type 0} (old new : TableState S) (before : List Entry) : Type 0 where
  pub each : (id : ℕ) → Contains new.retired id → Contains old.retired id ⊎ ((old.book.state.top < id) ⊎ IsNamed before id)

-- a clause that is retired, or that an entry names
abbrev pub IsAccounted : {S : Type 0} → TableState S → List Entry → ℕ → Type 0
IsAccounted table entries id = Contains table.retired id ⊎ IsNamed entries id

-- No clause is lost: each that was retired or named is so still, and so is each that was added since.
pub record Accounts {S : Type 0} (old new : TableState S) (before after : List Entry) : Type 0 where
  pub still : (id : ℕ) → IsAccounted old before id → IsAccounted new after id
  pub added : (id : ℕ) → old.book.state.top < id → IsAddedTo new id → IsAccounted new after id

-- two lists have the same entries, in whatever order
pub record HaveSame (one other : List Entry) : Type 0 where
  pub there : (entry : Entry) → Contains one entry → Contains other entry
  pub back : (entry : Entry) → Contains other entry → Contains one entry

-- One entry more: it is right, and its clause was added, and is named by none of the others.
pub record IsOneMore {S : Type 0} (table : TableState S) (entries : List Entry) (found : Entry) : Type 0 where
  pub right : FitsEntry table.graph table.book.state.live found
  pub own : (id : ℕ) → Names found id → IsAddedTo table id
  pub unnamed : (id : ℕ) → Names found id → IsNamed entries id → ⊥

-- What growth leaves of entries: they still fit where none of their clauses was retired, and so do fewer of them, and one
-- more. So do the entries of other caches, beside those of an operation that retires its own.
-- Where retired clauses are deleted, all entries stay.
pub record Fitting (S : Type 0) : Type 0 where
  pub none : (table : TableState S) → Fits table []
  pub kept : (old new : TableState S) (entries : List Entry) → IsSound old → IsSound new → Extends old new → Fits old entries
      → ((id : ℕ) → IsNamed entries id → Contains new.retired id → ⊥) → Fits new entries
  pub fewer : (table : TableState S) (few more : List Entry) → ((entry : Entry) → Contains few entry → Contains more entry)
      → Fits table more → Fits table few
  pub one : (old new : TableState S) (entry : Entry) → IsSound old → Extends old new → FitsEntry old.graph old.book.state.live entry
      → FitsEntry new.graph new.book.state.live entry
  pub more : (old new : TableState S) (before after : List Entry) (found : Entry) → IsSound old → IsSound new → Extends old new
      → Fits old before → IsOneMore new before found
      → ((entry : Entry) → Contains after entry → (entry ≡ found) ⊎ Contains before entry)
      → ((id : ℕ) → IsNamed after id → Contains new.retired id → ⊥) → Fits new after
  pub beside : (old new : TableState S) (before after others : List Entry) → IsSound old → IsSound new → Extends old new
      → RetiresOwn old new before
      → NamesOnly before after old.book.state new.book.state → Fits old (before ++ others) → AreApart before others → Fits new after
      → Fits new (after ++ others) × AreApart after others
  pub settled : (old new : TableState S) (entries : List Entry) → new.graph ≡ old.graph → new.inputs ≡ old.inputs → new.retired ≡ []
      → ((id : ℕ) → (Contains old.retired id → ⊥) → clause_at new.book.state.live id ≡ clause_at old.book.state.live id) → Fits old entries
      → Fits new entries
