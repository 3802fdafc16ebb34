-- The units of terms: each is the unit of one term, and no clause that was added beside definitions is lost.
use Rattle.std.specs.Prelude.{◌≡◌, ◌⊎◌, ◌<◌, ℕ, List, [], ◌∷◌, Contains}
use Rattle.node_table.specs.declared.node.Justification.{Justification}
use Rattle.node_table.specs.declared.node.Justification.TheVariants.{Clause, Trivial}
use Rattle.node_table.specs.Table.{TableState, IsAddedTo}
use Rattle.operations.specs.Entries.{Entry, IsAccounted, NamesOnly, RetiresOwn}
use Rattle.bdd_terms.specs.declared.held.HeldTerm.{HeldTerm}

-- none of these units is retired, or named by an entry of the caches
abbrev pub OwnUnits : {S : Type 0} → TableState S → List Entry → List HeldTerm → Type 0
OwnUnits table kept stack = (held : HeldTerm) → Contains stack held → (id : ℕ) → held.unit ≡ Clause id → IsAccounted table kept id → ⊥

-- the unit of one of these terms
pub record IsUnitOf (stack : List HeldTerm) (id : ℕ) : Type 0 where
  pub held : HeldTerm
  pub stacked : Contains stack held
  pub unit : held.unit ≡ Clause id

-- two of the terms never have one unit
abbrev pub UnitsApart : List HeldTerm → Type 0
UnitsApart [] = Unit {0}
UnitsApart (held ∷ stack) = ((id : ℕ) → held.unit ≡ Clause id → IsUnitOf stack id → ⊥) × UnitsApart stack

-- each clause that was added beside definitions is retired, named by an entry, or a term's unit
abbrev pub AllKnown : {S : Type 0} → TableState S → List Entry → List HeldTerm → Type 0
AllKnown table kept stack = (id : ℕ) → IsAddedTo table id → IsAccounted table kept id ⊎ IsUnitOf stack id

-- The units were added beside definitions, each is that of one term and of nothing else, and no other such clause
-- is lost.
pub record HasUnits {S : Type 0} (table : TableState S) (kept : List Entry) (stack : List HeldTerm) : Type 0 where
  pub own : OwnUnits table kept stack
  pub apart : UnitsApart stack
  pub added : (id : ℕ) → IsUnitOf stack id → IsAddedTo table id
  pub known : AllKnown table kept stack

-- What a call leaves of the units, and the one that it gives: that of an operand, or a clause that it added. No clause is
-- lost: each that was retired or named is so still, and so is each that was added since, but for the one given.
pub record GivesUnit {S : Type 0} (old new : TableState S) (before after : List Entry) (operands : List HeldTerm)
    (unit : Justification) : Type 0 where
  pub retires : RetiresOwn old new before
  pub named : NamesOnly before after old.book.state new.book.state
  pub still : (id : ℕ) → IsAccounted old before id → IsAccounted new after id
  pub added : (id : ℕ) → old.book.state.top < id → IsAddedTo new id → IsAccounted new after id ⊎ (unit ≡ Clause id)
  pub given : (id : ℕ) → unit ≡ Clause id → IsUnitOf operands id ⊎ ((old.book.state.top < id) × IsAddedTo new id)
  pub own : (id : ℕ) → unit ≡ Clause id → IsAccounted new after id → ⊥

-- A unit is retired, unless it is the one that is kept, and nothing else.
pub record RetiresBut {S : Type 0} (old new : TableState S) (unit kept : Justification) : Type 0 where
  pub same : new ≡ record old { retired = new.retired }
  pub still : (id : ℕ) → Contains old.retired id → Contains new.retired id
  pub only : (id : ℕ) → Contains new.retired id → Contains old.retired id ⊎ ((unit ≡ Clause id) × (kept ≡ Clause id → ⊥))
  pub gone : (id : ℕ) → unit ≡ Clause id → Contains new.retired id ⊎ (kept ≡ Clause id)

-- The operands' units are retired, but for one that is kept, and nothing else.
pub record RetiresUnits {S : Type 0} (old new : TableState S) (operands : List HeldTerm) (kept : Justification) : Type 0 where
  pub same : new ≡ record old { retired = new.retired }
  pub still : (id : ℕ) → Contains old.retired id → Contains new.retired id
  pub only : (id : ℕ) → Contains new.retired id → Contains old.retired id ⊎ (IsUnitOf operands id × (kept ≡ Clause id → ⊥))
  pub gone : (id : ℕ) → IsUnitOf operands id → Contains new.retired id ⊎ (kept ≡ Clause id)

-- the hint that a justification gives
abbrev pub hint_of : Justification → List ℕ
hint_of Trivial = []
hint_of (Clause id) = id ∷ []
