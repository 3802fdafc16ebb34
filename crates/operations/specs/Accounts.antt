-- Clauses as a call adds, gives, keeps and retires them, and what it leaves of its cache: no clause is lost.
use Rattle.std.specs.Prelude.{◌≡◌, ◌≢◌, ◌≤◌, ◌<◌, ◌⊎◌, ◌++◌, ℕ, List, Option, None, Some, Result, Ok, Err, Contains}
use Rattle.node_table.specs.declared.error.TableError.{TableError}
use Rattle.node_table.specs.declared.error.TableError.TheVariants.{WriteFault}
use Rattle.node_table.specs.declared.node.Node.{Node}
use Rattle.node_table.specs.declared.node.Justification.{Justification}
use Rattle.node_table.specs.declared.node.Justification.TheVariants.{Trivial, Clause}
use Rattle.node_table.specs.HandedOn.{same_error}
use Rattle.node_table.specs.Table.{TableState, AddsNone, Extends, IsAddedTo, IsSound}
use Rattle.node_table.specs.Progress.{Steps, error_of}
use Rattle.operations.specs.Caches.{IsOneKept}
use Rattle.operations.specs.Entries.{Entry, Accounts, AreApart, FitsEntry, Fits, HaveSame, IsClauseOf, Names, NamesOnly, RetiresOwn}
use Rattle.operations.specs.Entries.{just_of}

-- Of the clauses that were added since, one at most is given, which isn't retired; all others are.
pub record GivesOne {S : Type 0} (old new : TableState S) (just : Justification) : Type 0 where
  pub since : (id : ℕ) → just ≡ Clause id → old.book.state.top < id
  pub own : (id : ℕ) → just ≡ Clause id → IsAddedTo new id
  pub unretired : (id : ℕ) → just ≡ Clause id → Contains new.retired id → ⊥
  pub others : (id : ℕ) → old.book.state.top < id → IsAddedTo new id → Contains new.retired id ⊎ (just ≡ Clause id)

-- the justification that is given, if one is
abbrev pub given_just : {E : Type 0} → Result Justification E → Justification
given_just (Ok just) = just
given_just (Err error) = Trivial

-- the clause that is given, if one is
abbrev pub given_clause : {E : Type 0} → Result ℕ E → Justification
given_clause (Ok id) = Clause id
given_clause (Err error) = Trivial

abbrev pub found_just : {E : Type 0} → Result (Node × Justification) E → Justification
found_just (Ok found) = found.1
found_just (Err error) = Trivial

-- only clauses that came since were retired
abbrev pub RetiresNew : {S : Type 0} → TableState S → TableState S → Type 0
RetiresNew old new = (id : ℕ) → Contains new.retired id → Contains old.retired id ⊎ (old.book.state.top < id)

-- A clause is retired, if one is given, and nothing else.
pub record RetiresOne {S : Type 0} (old new : TableState S) (given : Option ℕ) : Type 0 where
  pub steps : Steps old new 0 None
  pub same : new ≡ record old { retired = new.retired }
  pub only : (id : ℕ) → Contains new.retired id → Contains old.retired id ⊎ (given ≡ Some id)
  pub retired : (id : ℕ) → given ≡ Some id → Contains new.retired id

-- no write failed
abbrev pub IsWhole : Option TableError → Type 0
IsWhole error = error ≢ Some WriteFault

pub none_whole : IsWhole None
none_whole is = cc

pub whole_result : {T : Type 0} (result : Result T TableError) → result ≢ Err WriteFault → IsWhole (error_of result)
whole_result (Ok found) whole is = cc
whole_result (Err came) whole is = let same : came ≡ WriteFault = cc in whole (λ i. Err (same i))

pub whole_error : {T : Type 0} (result : Result T TableError) → IsWhole (error_of result) → result ≢ Err WriteFault
whole_error (Ok found) whole is = cc
whole_error (Err came) whole is = whole (λ i. Some (same_error is i))

-- The call accounts for the entries of its cache and for its clauses: each entry fits, and was there or names a clause that
-- came since; what was retired is its own; and unless a write failed, each clause that was added, retired or named is so still.
pub record AccountsFor {S : Type 0} (old new : TableState S) (before after : List Entry) (error : Option TableError) : Type 0 where
  pub fits : IsWhole error → Fits new after
  pub named : IsWhole error → NamesOnly before after old.book.state new.book.state
  pub retires : RetiresOwn old new before
  pub accounts : IsWhole error → Accounts old new before after

-- What a call found and didn't keep yet: only clauses that came since were retired, and one at most is given.
pub record HasFound {S : Type 0} (old new : TableState S) (before : List Entry) (just : Justification) : Type 0 where
  pub sound : IsSound old
  pub fits : Fits old before
  pub still : IsSound new
  pub extends : Extends old new
  pub retires : RetiresNew old new
  pub gives : GivesOne old new just

-- The entry that was found is kept, and its clause isn't retired.
pub record HasKept {S : Type 0} (old new : TableState S) (before after : List Entry) (found : Entry) : Type 0 where
  pub accounts : AccountsFor old new before after None
  pub right : FitsEntry new.graph new.book.state.live found
  pub unretired : (id : ℕ) → Names found id → Contains new.retired id → ⊥

-- How a call comes to account for its entries and clauses: it changes nothing in the table, or goes on behind another one,
-- or ends with what it found, which is kept, or is refused.
pub record Accounting (S : Type 0) : Type 0 where
  -- nothing changes
  pub none : (table : TableState S) (entries : List Entry) (error : Option TableError) → IsSound table → Fits table entries
      → AccountsFor table table entries entries error
  -- the table stays, and the entries in whatever order
  pub same : (table : TableState S) (before after : List Entry) (error : Option TableError) → IsSound table → HaveSame before after
      → Fits table before
      → AccountsFor table table before after error
  -- one call after another
  pub further : (old mid new : TableState S) (first second third : List Entry) (error : Option TableError) → Extends old mid
      → Extends mid new
      → AccountsFor old mid first second None → AccountsFor mid new second third error → AccountsFor old new first third error
  -- and the entries of other caches stand beside
  pub beside : (old new : TableState S) (before after others : List Entry) (count : ℕ)
      (error : Option TableError) → IsSound old
      → Steps old new count error → AccountsFor old new before after error
      → Fits old (before ++ others) → AreApart before others → IsWhole error → Fits new (after ++ others) × AreApart after others
  -- where no clause was added beside definitions, none is given, and what later additions give is given by both
  pub gives_none : (old new : TableState S) → IsSound old → AddsNone old new → GivesOne old new Trivial
  pub gives_further : (old mid new : TableState S) (just : Justification) → IsSound old → AddsNone old mid → Extends old mid → Extends mid new
      → GivesOne mid new just → GivesOne old new just
  pub retires_further : (old mid new : TableState S) → mid.retired ≡ old.retired → old.book.state.top ≤ mid.book.state.top
      → RetiresNew mid new → RetiresNew old new
  -- nothing was found
  pub failed : (old new : TableState S) (before : List Entry) (count : ℕ) (error : Option TableError)
      → IsSound old → Fits old before
      → Steps old new count error → RetiresNew old new → (IsWhole error → GivesOne old new Trivial)
      → AccountsFor old new before before error
  -- it was found: what was kept before still fits
  pub found : (old new : TableState S) (before : List Entry) (just : Justification) → HasFound old new before just → Fits new before
  -- and it is kept, and the clause that is handed back is retired
  pub kept : (old mid new : TableState S) (before after : List Entry) (own : Entry)
      (given : Option ℕ) → HasFound old mid before (just_of own)
      → FitsEntry mid.graph mid.book.state.live own → IsOneKept before after own given → RetiresOne mid new given
      → HasKept old new before after own
  -- or it is refused memory, and its own clause is retired
  pub refused : (old mid new : TableState S) (before : List Entry) (just : Justification) (given : Option ℕ)
      (error : Option TableError)
      → HasFound old mid before just → IsClauseOf just given → RetiresOne mid new given
      → AccountsFor old new before before error
