-- The terms that own a clause, as one comes or goes at any place of their list.
use Rattle.std.proofs.Common.{◌≡◌, ◌⊎◌, ◌∙◌, ◌++◌, ℕ, zero, suc, List, [], ◌∷◌, Contains, refl, sym, subst, arith, inl, inr}
use Rattle.std.proofs.lemmas.List.Elements.{Contains-append_left, Contains-append_right, Contains-append_cases}
use Rattle.node_table.specs.declared.node.Justification.TheVariants.{Trivial}
use Rattle.node_table.specs.Table.{TableState, IsAddedTo}
use Rattle.operations.specs.Entries.{Entry}
use Rattle.bdd_terms.specs.declared.held.HeldTerm.{HeldTerm}
use Rattle.bdd_terms.specs.Units.{HasUnits, IsUnitOf, RetiresBut, UnitsApart}
use Rattle.bdd_terms.proofs.OwnUnits.{later, no_clause}
use Rattle.bdd_terms.proofs.Replaced.{first_unit, later_unit, which_unit}

-- one in the middle, or another one
pub which_among : (front behind : List HeldTerm) (held one : HeldTerm) → Contains (front ++ held ∷ behind) one → (held ≡ one)
    ⊎ Contains (front ++ behind) one
which_among [] behind held one (zero, small, at) = inl at
which_among [] behind held one (suc k, small, at) = inr (k, omega (arith, small), at)
which_among (first ∷ front) behind held one (zero, small, at) = inr (zero, omega arith, at)
which_among (first ∷ front) behind held one (suc k, small, at) = elim (which_among front behind held one (k, omega (arith, small), at)) [
  | inl is ↦ inl is
  | inr there ↦ inr (later first (front ++ behind) one there)
]

pub among_here : (front behind : List HeldTerm) (held : HeldTerm) → Contains (front ++ held ∷ behind) held
among_here front behind held = Contains-append_right front (held ∷ behind) held (zero, omega arith, refl)

pub among_others : (front behind : List HeldTerm) (held one : HeldTerm) → Contains (front ++ behind) one
    → Contains (front ++ held ∷ behind) one
among_others front behind held one there = elim (Contains-append_cases front behind one there) [
  | inl before ↦ Contains-append_left front (held ∷ behind) one before
  | inr after ↦ Contains-append_right front (held ∷ behind) one (later held behind one after)
]

module _ (front behind : List HeldTerm) (held : HeldTerm) where
  to_front : (one : HeldTerm) → Contains (front ++ held ∷ behind) one → Contains (held ∷ (front ++ behind)) one
  to_front one there = elim (which_among front behind held one there) [
    | inl is ↦ (zero, omega arith, is)
    | inr other ↦ later held (front ++ behind) one other
  ]

  from_front : (one : HeldTerm) → Contains (held ∷ (front ++ behind)) one → Contains (front ++ held ∷ behind) one
  from_front one there = elim (which_among [] (front ++ behind) held one there) [
    | inl is ↦ subst (λ (h : HeldTerm). Contains (front ++ held ∷ behind) h) is (among_here front behind held)
    | inr other ↦ among_others front behind held one other
  ]

unit_of_same : (few more : List HeldTerm) → ((one : HeldTerm) → Contains few one → Contains more one) → (id : ℕ) → IsUnitOf few id
    → IsUnitOf more id
unit_of_same few more all id is = record { held = is.held; stacked = all is.held is.stacked; unit = is.unit }

apart_front : (front behind : List HeldTerm) (held : HeldTerm) → UnitsApart (front ++ held ∷ behind) → UnitsApart (held ∷ (front ++ behind))
apart_front [] behind held apart = apart
apart_front (first ∷ front) behind held apart =
    let rest = apart_front front behind held apart.1 in (
      λ id is other. elim (which_unit first (front ++ behind) id other) [
        | inl one ↦ apart.0 id one (record { held = held; stacked = among_here front behind held; unit = is })
        | inr further ↦ rest.0 id is further
      ],
      (
        λ id is other. apart.0 id is (unit_of_same (front ++ behind) (front ++ held ∷ behind) (among_others front behind held) id other),
        rest.1,
      ),
    )

apart_back : (front behind : List HeldTerm) (held : HeldTerm) → UnitsApart (held ∷ (front ++ behind)) → UnitsApart (front ++ held ∷ behind)
apart_back [] behind held apart = apart
apart_back (first ∷ front) behind held apart = (
  λ id is other. elim (which_unit held (front ++ behind) id (unit_of_same (front ++ held ∷ behind) (held ∷ (front ++ behind))
      (to_front front behind held) id other)) [
        | inl own ↦ apart.0 id own (first_unit first (front ++ behind) id is)
        | inr further ↦ apart.1.0 id is further
      ],
  apart_back front behind held ((λ id is other. apart.0 id is (later_unit first (front ++ behind) id other)), apart.1.1),
)

module _ {S : Type 0} (table : TableState S) (kept : List Entry) where
  units_moved : (before after : List HeldTerm) → ((one : HeldTerm) → Contains before one → Contains after one)
      → ((one : HeldTerm) → Contains after one → Contains before one) → UnitsApart after → HasUnits table kept before
      → HasUnits table kept after
  units_moved before after there back apart has = record {
    own = λ held among id is. has.own held (back held among) id is;
    apart = apart;
    added = λ id is. has.added id (unit_of_same after before back id is);
    known = λ id added. elim (has.known id added) [
      | inl accounted ↦ inl accounted
      | inr is ↦ inr (unit_of_same before after there id is)
    ];
  }

  pub units_front : (front behind : List HeldTerm) (held : HeldTerm) → HasUnits table kept (front ++ held ∷ behind)
      → HasUnits table kept (held ∷ (front ++ behind))
  units_front front behind held has = units_moved (front ++ held ∷ behind) (held ∷ (front ++ behind)) (to_front front behind held)
      (from_front front behind held) (apart_front front behind held has.apart) has

  pub units_back : (front behind : List HeldTerm) (held : HeldTerm) → HasUnits table kept (held ∷ (front ++ behind))
      → HasUnits table kept (front ++ held ∷ behind)
  units_back front behind held has = units_moved (held ∷ (front ++ behind)) (front ++ held ∷ behind) (from_front front behind held)
      (to_front front behind held) (apart_back front behind held has.apart) has

  -- a term without a clause may go
  pub units_of_rest : (held : HeldTerm) (rest : List HeldTerm) → held.unit ≡ Trivial → HasUnits table kept (held ∷ rest)
      → HasUnits table kept rest
  units_of_rest held rest none has = record {
    own = λ one among id is. has.own one (later held rest one among) id is;
    apart = has.apart.1;
    added = λ id is. has.added id (later_unit held rest id is);
    known = λ id added. elim (has.known id added) [
      | inl accounted ↦ inl accounted
      | inr is ↦ elim (which_unit held rest id is) [
        | inl own ↦ absurd (no_clause id (sym none ∙ own))
        | inr other ↦ inr other
      ]
    ];
  }

-- one whose clause is retired goes
pub units_less : {S : Type 0} (old new : TableState S) (kept : List Entry) (held : HeldTerm) (rest : List HeldTerm)
    → RetiresBut old new held.unit Trivial → HasUnits old kept (held ∷ rest) → HasUnits new kept rest
units_less {S} old new kept held rest retires has = record {
  own = λ one among id is accounted. elim accounted [
    | inl gone ↦ elim (retires.only id gone) [
      | inl was ↦ has.own one (later held rest one among) id is (inl was)
      | inr own ↦ has.apart.0 id own.0 (record { held = one; stacked = among; unit = is })
    ]
    | inr named ↦ has.own one (later held rest one among) id is (inr named)
  ];
  apart = has.apart.1;
  added = λ id is. subst (λ (t : TableState S). IsAddedTo t id) (sym retires.same) (has.added id (later_unit held rest id is));
  known = λ id added. elim (has.known id (subst (λ (t : TableState S). IsAddedTo t id) retires.same added)) [
    | inl accounted ↦ elim accounted [
      | inl gone ↦ inl (inl (retires.still id gone))
      | inr named ↦ inl (inr named)
    ]
    | inr is ↦ elim (which_unit held rest id is) [
      | inl own ↦ elim (retires.gone id own) [
        | inl gone ↦ inl (inl gone)
        | inr none ↦ absurd (no_clause id none)
      ]
      | inr other ↦ inr other
    ]
  ];
}
