-- The units of terms are neither retired nor named by an entry, from call to call, so that they stay where the
-- retired clauses are deleted.
use Rattle.std.proofs.Common.{◌≡◌, ◌∙◌, ◌⊎◌, ◌≤◌, ◌<◌, ◌+◌, ℕ, suc, ℤ, true, false, List, [], ◌∷◌, Option, None, Some, Contains, is_some}
use Rattle.std.proofs.Common.{refl, sym, ap, subst, arith, inl, inr}
use Rattle.std.specs.Prelude.{IsFalse}
use Rattle.cnf_base.specs.Formula.{Formula}
use Rattle.lrat_rules.specs.State.{Live, clause_at}
use Rattle.hint_chain.specs.declared.atom.Atom.{Atom}
use Rattle.hint_chain.specs.declared.atom.Atom.TheVariants.{Always, Never, Of}
use Rattle.hint_chain.specs.Atoms.{clause_from_atoms, is_trivial}
use Rattle.node_table.specs.declared.node.Justification.{Justification}
use Rattle.node_table.specs.declared.node.Justification.TheVariants.{Trivial, Clause}
use Rattle.node_table.specs.Diagram.{levels}
use Rattle.node_table.specs.Justification.{IsJustified}
use Rattle.node_table.specs.Table.{TableState, IsSound}
use Rattle.operations.specs.Entries.{Entry, Fits, Fitting, IsAccounted, IsNewJustification, NamesOnly, RetiresOwn}
use Rattle.bdd_terms.specs.OverFormula.{IsOver}

pub later : {X : Type 0} (first : X) (list : List X) (x : X) → Contains list x → Contains (first ∷ list) x
later first list x there = (suc there.0, omega (arith, there.1), there.2)

-- a justified unit's clause is live
one_some : (atom : Atom) → IsFalse (is_trivial (atom ∷ [])) → is_some (clause_from_atoms (atom ∷ [])) ≡ true
one_some Always apart = absurd (let e : true ≡ false = apart in cc)
one_some Never apart = refl
one_some (Of x) apart = refl

unit_live : (live : Live) (atom : Atom) (unit : Justification) (id : ℕ) → IsJustified live (atom ∷ []) unit → unit ≡ Clause id
    → is_some (clause_at live id) ≡ true
unit_live live atom unit id proved is =
    let own : IsJustified live (atom ∷ []) (Clause id) = subst (λ (j : Justification). IsJustified live (atom ∷ []) j) is proved in
    ap is_some own.1 ∙ one_some atom own.0

some_clause : (o : Option (List ℤ)) → is_some o ≡ true → (clause : List ℤ) × (o ≡ Some clause)
some_clause None is = absurd (let e : false ≡ true = is in cc)
some_clause (Some clause) is = (clause, refl)

pub same_clause : (id other : ℕ) → Clause id ≡ Clause other → id ≡ other
same_clause id other is = cc

pub no_clause : (id : ℕ) → Trivial ≡ Clause id → ⊥
no_clause id is = cc

module _ {S : Type 0} where
  -- the last clause, which came since
  pub new_unit : (old new : TableState S) (id : ℕ) → (id ≡ new.book.state.top) × (old.book.state.top < id) → (old.book.state.top < id)
      × (id ≤ new.book.state.top)
  new_unit old new id last = (last.1, omega (arith, last.0))

  pub within_top : (table : TableState S) → IsSound table → (id : ℕ) → is_some (clause_at table.book.state.live id) ≡ true → id
      ≤ table.book.state.top
  within_top table sound id live = let clause = some_clause (clause_at table.book.state.live id) live in
      (sound.tied.numbers id clause.0 clause.1).1

  pub unit_within : (table : TableState S) → IsSound table → (atom : Atom) (unit : Justification) (id : ℕ)
      → IsJustified table.book.state.live (atom ∷ []) unit → unit ≡ Clause id → id ≤ table.book.state.top
  unit_within table sound atom unit id proved is = within_top table sound id (unit_live table.book.state.live atom unit id proved is)

  -- what is retired or named isn't new
  pub accounted_within : (table : TableState S) → IsSound table → (kept : List Entry) → Fits table kept → (id : ℕ)
      → IsAccounted table kept id → id ≤ table.book.state.top
  accounted_within table sound kept fits id accounted = elim accounted [
    | inl gone ↦ within_top table sound id (sound.retired.each id gone).stands
    | inr named ↦ within_top table sound id (fits.own id named).stands
  ]

  -- what is neither retired nor named by an entry stays so through a call
  pub unaccounted_after : (old mid : TableState S) (before after : List Entry) (id : ℕ) → id ≤ old.book.state.top
      → (IsAccounted old before id → ⊥) → RetiresOwn old mid before
      → NamesOnly before after old.book.state mid.book.state → IsAccounted mid after id → ⊥
  unaccounted_after old mid before after id within own retires names accounted = elim accounted [
    | inl gone ↦ elim (retires.each id gone) [
      | inl was ↦ own (inl was)
      | inr since ↦ elim since [
        | inl above ↦ omega (arith, within, above)
        | inr named ↦ own (inr named)
      ]
    ]
    | inr by ↦ elim (names.each by.0 by.1) [
      | inl was ↦ own (inr (by.0, was, by.2))
      | inr came ↦ let above = (came id by.2).0 in omega (arith, within, above)
    ]
  ]

  -- the unit of a conjunction: an operand's, or a new one
  pub unit_own : (mid new : TableState S) (kept : List Entry) (u v unit : Justification) → IsSound mid → Fits mid kept → new.retired ≡ mid.retired
      → ((id : ℕ) → u ≡ Clause id → IsAccounted mid kept id → ⊥) → ((id : ℕ) → v ≡ Clause id → IsAccounted mid kept id → ⊥)
      → (unit ≡ u) ⊎ ((unit ≡ v) ⊎ IsNewJustification mid.book.state new.book.state unit) → (id : ℕ) → unit ≡ Clause id → IsAccounted new kept id → ⊥
  unit_own mid new kept u v unit sound fits same first second given id is accounted =
      let before : IsAccounted mid kept id = elim accounted [
        | inl gone ↦ inl
            (subst (λ (list : List ℕ). Contains list id) same gone)
        | inr named ↦ inr named
      ] in
      elim given [
        | inl own ↦ first id (sym own ∙ is) before
        | inr other ↦ elim other [
          | inl own ↦ second id (sym own ∙ is) before
          | inr came ↦ absurd (let within = accounted_within mid sound kept fits id before in let above = (came id is).0 in
              omega (arith, within, above))
        ]
      ]

-- The retired clauses were deleted.
module _ {S : Type 0} (formula : Formula) (old new : TableState S) (kept : List Entry) (nodes : new.graph ≡ old.graph) (none : new.retired
    ≡ [])
    (stay : (id : ℕ) → (Contains old.retired id → ⊥) → clause_at new.book.state.live id ≡ clause_at old.book.state.live id) where
  pub unit_settled : (atom : Atom) (unit : Justification) → IsJustified old.book.state.live (atom ∷ []) unit
      → ((id : ℕ) → unit ≡ Clause id → Contains old.retired id → ⊥) → IsJustified new.book.state.live (atom ∷ []) unit
  unit_settled atom Trivial proved own = proved
  unit_settled atom (Clause id) proved own = (proved.0, stay id (own id refl) ∙ proved.1)

  pub over_settled : Fitting S → new.inputs ≡ old.inputs → IsSound new → IsOver formula old kept → IsOver formula new kept
  over_settled fitting inputs sound over = record {
    sound = sound;
    fits = fitting.settled old new kept nodes inputs none stay over.fits;
    inputs = λ i small. stay (i + 1) (λ gone. let above = (over.sound.retired.each (i + 1) gone).above in
        omega (arith, above, small, over.counted)) ∙ over.inputs i small;
    counted = omega (arith, over.counted, inputs);
    vars = ap levels nodes ∙ over.vars;
  }
