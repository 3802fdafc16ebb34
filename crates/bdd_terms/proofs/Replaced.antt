-- A found term in its operands' place: each unit is that of one term, and no clause is lost.
use Rattle.std.proofs.Common.{◌≡◌, ◌⊎◌, ◌∙◌, ◌≤◌, ◌++◌, ℕ, zero, suc, List, [], ◌∷◌, Contains, refl, sym, ap, subst, arith, inl, inr}
use Rattle.std.proofs.lemmas.Bool.{cases_lt}
use Rattle.std.proofs.lemmas.List.Elements.{Contains-append_left, Contains-append_right, Contains-append_cases}
use Rattle.node_table.specs.declared.node.Justification.{Justification}
use Rattle.node_table.specs.declared.node.Justification.TheVariants.{Clause}
use Rattle.node_table.specs.Laws.{StepByStep}
use Rattle.node_table.specs.Table.{TableState, Extends, IsAddedTo, IsSound}
use Rattle.operations.specs.Entries.{Entry, IsAccounted, NamesOnly, RetiresOwn}
use Rattle.bdd_terms.specs.declared.held.HeldTerm.{HeldTerm}
use Rattle.bdd_terms.specs.Units.{GivesUnit, HasUnits, IsUnitOf, RetiresUnits, UnitsApart}
use Rattle.bdd_terms.proofs.OwnUnits.{unaccounted_after, within_top}

-- the unit of a term of the one part of the stack, or of the other
pub unit_left : (one rest : List HeldTerm) (id : ℕ) → IsUnitOf one id → IsUnitOf (one ++ rest) id
unit_left one rest id is = record { held = is.held; stacked = Contains-append_left one rest is.held is.stacked; unit = is.unit }

pub unit_right : (one rest : List HeldTerm) (id : ℕ) → IsUnitOf rest id → IsUnitOf (one ++ rest) id
unit_right one rest id is = record { held = is.held; stacked = Contains-append_right one rest is.held is.stacked; unit = is.unit }

pub either_unit : (one rest : List HeldTerm) (id : ℕ) → IsUnitOf (one ++ rest) id → IsUnitOf one id ⊎ IsUnitOf rest id
either_unit one rest id is = elim (Contains-append_cases one rest is.held is.stacked) [
  | inl there ↦ inl (record { held = is.held; stacked = there; unit = is.unit })
  | inr there ↦ inr (record { held = is.held; stacked = there; unit = is.unit })
]

-- that of the first term, or of a later one
pub first_unit : (held : HeldTerm) (rest : List HeldTerm) (id : ℕ) → held.unit ≡ Clause id → IsUnitOf (held ∷ rest) id
first_unit held rest id is = record { held = held; stacked = (zero, omega arith, refl); unit = is }

pub later_unit : (held : HeldTerm) (rest : List HeldTerm) (id : ℕ) → IsUnitOf rest id → IsUnitOf (held ∷ rest) id
later_unit held rest id is = unit_right (held ∷ []) rest id is

pub which_unit : (held : HeldTerm) (rest : List HeldTerm) (id : ℕ) → IsUnitOf (held ∷ rest) id → (held.unit ≡ Clause id) ⊎ IsUnitOf rest id
which_unit held rest id is = at is.held is.stacked is.unit
  where
    at : (one : HeldTerm) → Contains (held ∷ rest) one → one.unit ≡ Clause id → (held.unit ≡ Clause id) ⊎ IsUnitOf rest id
    at one (zero, small, same) named = inl (ap (λ (h : HeldTerm). h.unit) same ∙ named)
    at one (suc k, small, same) named = inr (record { held = one; stacked = (k, omega (arith, small), same); unit = named })

pub no_unit : (id : ℕ) → IsUnitOf [] id → ⊥
no_unit id is = let there = is.stacked in absurd (omega (arith, there.1))

apart_rest : (one rest : List HeldTerm) → UnitsApart (one ++ rest) → UnitsApart rest
apart_rest [] rest apart = apart
apart_rest (held ∷ one) rest apart = apart_rest one rest apart.1

pub apart_parts : (one rest : List HeldTerm) → UnitsApart (one ++ rest) → (id : ℕ) → IsUnitOf one id → IsUnitOf rest id → ⊥
apart_parts [] rest apart id is other = no_unit id is
apart_parts (held ∷ one) rest apart id is other = elim (which_unit held one id is) [
  | inl first ↦ apart.0 id first (unit_right one rest id other)
  | inr later ↦ apart_parts one rest apart.1 id later other
]

module _ {S : Type 0} where
  pub none_retired : (table : TableState S) (kept : Justification) → RetiresUnits table table [] kept
  none_retired table kept = record {
    same = refl;
    still = λ id there. there;
    only = λ id there. inl there;
    gone = λ id is. absurd (no_unit id is);
  }

  -- a stacked unit is neither retired nor named after a call
  pub free_after : (old new : TableState S) (before after : List Entry) (stack : List HeldTerm) → IsSound old → HasUnits old before stack
      → RetiresOwn old new before
      → NamesOnly before after old.book.state new.book.state → (id : ℕ) → IsUnitOf stack id → IsAccounted new after id → ⊥
  free_after old new before after stack sound has retires named id is =
      unaccounted_after old new before after id (within_top old sound id (has.added id is).stands)
      (has.own is.held is.stacked id is.unit) retires named

-- The one unit takes the place of the operands'.
module _ {S : Type 0} (laws : StepByStep S) (old new last : TableState S)
    (before after : List Entry) (operands rest : List HeldTerm) (result : HeldTerm)
    (sound : IsSound old) (more : IsSound new) (extends : Extends old new) (has : HasUnits old before (operands ++ rest))
    (gives : GivesUnit old new before after operands result.unit)
    (retires : RetiresUnits new last operands result.unit) where
  within : (id : ℕ) → IsUnitOf (operands ++ rest) id → id ≤ old.book.state.top
  within id is = within_top old sound id (has.added id is).stands

  free_yet : (id : ℕ) → IsUnitOf (operands ++ rest) id → IsAccounted new after id → ⊥
  free_yet id is = free_after old new before after (operands ++ rest) sound has gives.retires gives.named id is

  at_last : (id : ℕ) → IsAddedTo new id → IsAddedTo last id
  at_last id added = subst (λ (table : TableState S). IsAddedTo table id) (sym retires.same) added

  before_last : (id : ℕ) → IsAddedTo last id → IsAddedTo new id
  before_last id added = subst (λ (table : TableState S). IsAddedTo table id) retires.same added

  accounted_still : (id : ℕ) → IsAccounted new after id → IsAccounted last after id
  accounted_still id accounted = elim accounted [ inl gone ↦ inl (retires.still id gone) | inr named ↦ inr named ]

  rest_free : (id : ℕ) → IsUnitOf rest id → IsAccounted last after id → ⊥
  rest_free id is accounted = elim accounted [
    | inl gone ↦ elim (retires.only id gone) [
      | inl was ↦ free_yet id (unit_right operands rest id is) (inl was)
      | inr operand ↦ apart_parts operands rest has.apart id operand.0 is
    ]
    | inr named ↦ free_yet id (unit_right operands rest id is) (inr named)
  ]

  result_free : (id : ℕ) → result.unit ≡ Clause id → IsAccounted last after id → ⊥
  result_free id is accounted = elim accounted [
    | inl gone ↦ elim (retires.only id gone) [
      | inl was ↦ gives.own id is (inl was)
      | inr operand ↦ operand.1 is
    ]
    | inr named ↦ gives.own id is (inr named)
  ]

  result_apart : (id : ℕ) → result.unit ≡ Clause id → IsUnitOf rest id → ⊥
  result_apart id is other = elim (gives.given id is) [
    | inl operand ↦ apart_parts operands rest has.apart id operand other
    | inr came ↦ absurd (let low = within id (unit_right operands rest id other) in let above = came.0 in omega (arith, low, above))
  ]

  added_still : (id : ℕ) → IsUnitOf (operands ++ rest) id → IsAddedTo last id
  added_still id is = at_last id (laws.added old new sound more extends id (has.added id is))

  result_added : (id : ℕ) → result.unit ≡ Clause id → IsAddedTo last id
  result_added id is = elim (gives.given id is) [
    | inl operand ↦ added_still id (unit_left operands rest id operand)
    | inr came ↦ at_last id came.1
  ]

  known_was : (id : ℕ) → IsAddedTo old id → IsAccounted last after id ⊎ IsUnitOf (result ∷ rest) id
  known_was id added = elim (has.known id added) [
    | inl accounted ↦ inl (accounted_still id (gives.still id accounted))
    | inr is ↦ elim (either_unit operands rest id is) [
      | inl operand ↦ elim (retires.gone id operand) [
        | inl gone ↦ inl (inl gone)
        | inr own ↦ inr (first_unit result rest id own)
      ]
      | inr other ↦ inr (later_unit result rest id other)
    ]
  ]

  known_still : (id : ℕ) → IsAddedTo new id → IsAccounted last after id ⊎ IsUnitOf (result ∷ rest) id
  known_still id added = elim (cases_lt old.book.state.top id) [
    | inl above ↦ elim (gives.added id above added) [
      | inl accounted ↦ inl (accounted_still id accounted)
      | inr own ↦ inr (first_unit result rest id own)
    ]
    | inr low ↦ known_was id (laws.was_added old new extends id low added)
  ]

  pub units_replaced : HasUnits last after (result ∷ rest)
  units_replaced = record {
    own = λ held there id named. own_at id (record { held = held; stacked = there; unit = named });
    apart = (result_apart, apart_rest operands rest has.apart);
    added = λ id is. elim (which_unit result rest id is) [
      | inl own ↦ result_added id own
      | inr other ↦ added_still id (unit_right operands rest id other)
    ];
    known = λ id added. known_still id (before_last id added);
  }
    where
      own_at : (id : ℕ) → IsUnitOf (result ∷ rest) id → IsAccounted last after id → ⊥
      own_at id is = elim (which_unit result rest id is) [
        | inl own ↦ result_free id own
        | inr other ↦ rest_free id other
      ]
