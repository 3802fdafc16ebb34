-- The unit that a call gives, and no clause lost: through calls one after another, at the start of a run, and where the
-- retired clauses are deleted.
use Rattle.std.proofs.Common.{◌≡◌, ◌⊎◌, ◌∙◌, ◌≤◌, ◌<◌, ℕ, true, false, List, [], ◌∷◌, reverse, Contains, None, Some, is_some, sym, ap}
use Rattle.std.proofs.Common.{subst, arith, inl, inr}
use Rattle.std.specs.Prelude.{IsTrue}
use Rattle.std.proofs.lemmas.Bool.{cases_lt}
use Rattle.lrat_rules.specs.State.{clause_at}
use Rattle.node_table.specs.declared.node.Justification.{Justification}
use Rattle.node_table.specs.declared.node.Justification.TheVariants.{Clause, Trivial}
use Rattle.node_table.specs.Diagram.{Graph, branch_at}
use Rattle.node_table.specs.Laws.{StepByStep}
use Rattle.node_table.specs.Table.{TableState, AddsNone, Extends, IsAddedTo, IsSound}
use Rattle.operations.specs.Accounts.{none_whole}
use Rattle.operations.specs.Entries.{Entry, Accounts, Fits, IsAccounted, IsNewJustification, NamesOnly, RetiresOwn}
use Rattle.bdd_terms.specs.Caches.{KeepsEntries}
use Rattle.bdd_terms.specs.declared.held.HeldTerm.{HeldTerm}
use Rattle.bdd_terms.specs.Units.{GivesUnit, HasUnits, IsUnitOf}
use Rattle.bdd_terms.proofs.OwnUnits.{new_unit, no_clause, unit_own, within_top}
use Rattle.bdd_terms.proofs.Replaced.{first_unit, free_after, later_unit, no_unit}

module _ {S : Type 0} where
  -- an operand's unit, or one that was added since
  pub of_two : (old new : TableState S) (u v : HeldTerm) (unit : Justification) → (unit ≡ u.unit)
      ⊎ ((unit ≡ v.unit) ⊎ IsNewJustification old.book.state new.book.state unit)
      → (unit ≡ u.unit) ⊎ ((unit ≡ v.unit) ⊎ ((id : ℕ) → unit ≡ Clause id → IsAddedTo new id))
      → (id : ℕ) → unit ≡ Clause id → IsUnitOf (v ∷ u ∷ []) id ⊎ ((old.book.state.top < id) × IsAddedTo new id)
  of_two old new u v unit given added id is = elim given [
    | inl own ↦ inl (first own)
    | inr other ↦ elim other [
      | inl own ↦ inl (second own)
      | inr came ↦ elim added [
        | inl own ↦ inl (first own)
        | inr more ↦ elim more [
          | inl own ↦ inl (second own)
          | inr stands ↦ inr ((came id is).0, stands id is)
        ]
      ]
    ]
  ]
    where
      first : unit ≡ u.unit → IsUnitOf (v ∷ u ∷ []) id
      first own = later_unit v (u ∷ []) id (first_unit u [] id (sym own ∙ is))

      second : unit ≡ v.unit → IsUnitOf (v ∷ u ∷ []) id
      second own = first_unit v (u ∷ []) id (sym own ∙ is)

  pub of_one : (old new : TableState S) (u : HeldTerm) (unit : Justification) → (unit ≡ u.unit) ⊎ IsNewJustification old.book.state new.book.state unit
      → (unit ≡ u.unit) ⊎ ((id : ℕ) → unit ≡ Clause id → IsAddedTo new id) → (id : ℕ) → unit ≡ Clause id → IsUnitOf (u ∷ []) id
      ⊎ ((old.book.state.top < id) × IsAddedTo new id)
  of_one old new u unit given added id is = elim given [
    | inl own ↦ inl (first_unit u [] id (sym own ∙ is))
    | inr came ↦ elim added [
      | inl own ↦ inl (first_unit u [] id (sym own ∙ is))
      | inr stands ↦ inr ((came id is).0, stands id is)
    ]
  ]

  -- behind a call that loses no clause, one adds the unit alone and retires none
  pub given_behind : (old mid new : TableState S) (before after : List Entry) (operands : List HeldTerm) (unit : Justification)
      → Accounts old mid before after → RetiresOwn old mid before
      → NamesOnly before after old.book.state mid.book.state → old.book.state.top ≤ mid.book.state.top → mid.book.state.top
      ≤ new.book.state.top → new.retired ≡ mid.retired
      → ((id : ℕ) → IsAddedTo new id → IsAddedTo mid id ⊎ (unit ≡ Clause id))
      → ((id : ℕ) → unit ≡ Clause id → IsUnitOf operands id ⊎ ((mid.book.state.top < id) × IsAddedTo new id))
      → ((id : ℕ) → unit ≡ Clause id → IsAccounted new after id → ⊥) → GivesUnit old new before after operands unit
  given_behind old mid new before after operands unit accounts retires named less more same alone given own = record {
    retires = record { each = λ id gone. retires.each id (subst (λ (ids : List ℕ). Contains ids id) same gone) };
    named = record {
      each = λ entry there. elim (named.each entry there) [
        | inl was ↦ inl was
        | inr came ↦ inr (λ id is. let since = came id is in (since.0, omega (arith, since.1, more)))
      ];
    };
    still = λ id accounted. on id (accounts.still id accounted);
    added = λ id above added. elim (alone id added) [
      | inl was ↦ inl (on id (accounts.added id above was))
      | inr is ↦ inr is
    ];
    given = λ id is. elim (given id is) [
      | inl operand ↦ inl operand
      | inr came ↦ inr (let above = came.0 in omega (arith, above, less), came.1)
    ];
    own = own;
  }
    where
      on : (id : ℕ) → IsAccounted mid after id → IsAccounted new after id
      on id accounted = elim accounted [ inl gone ↦ inl (subst (λ (ids : List ℕ). Contains ids id) (sym same) gone) | inr by ↦ inr by ]

  -- nothing was done yet
  pub none_lost : (table : TableState S) (kept : List Entry) → IsSound table → Accounts table table kept kept
  none_lost table kept sound = record {
    still = λ id accounted. accounted;
    added = λ id above own. absurd (let within = within_top table sound id own.stands in omega (arith, within, above));
  }

  -- behind a call that loses no clause, one that gives the unit
  pub given_further : (old mid new : TableState S) (first second third : List Entry) (operands : List HeldTerm) (unit : Justification)
      → Accounts old mid first second → RetiresOwn old new first
      → NamesOnly first third old.book.state new.book.state → old.book.state.top ≤ mid.book.state.top
      → ((id : ℕ) → id ≤ mid.book.state.top → IsAddedTo new id → IsAddedTo mid id)
      → GivesUnit mid new second third operands unit → GivesUnit old new first third operands unit
  given_further old mid new first second third operands unit accounts retires named less was more = record {
    retires = retires;
    named = named;
    still = λ id accounted. more.still id (accounts.still id accounted);
    added = λ id above own. elim (cases_lt mid.book.state.top id) [
      | inl later ↦ more.added id later own
      | inr low ↦ inl (more.still id (accounts.added id above (was id low own)))
    ];
    given = λ id is. elim (more.given id is) [
      | inl operand ↦ inl operand
      | inr came ↦ inr (let above = came.0 in omega (arith, above, less), came.1)
    ];
    own = more.own;
  }

  -- the unit of a conjunction of two terms
  pub two_give : (old mid new : TableState S) (before after : List Entry) (u v : HeldTerm) (unit : Justification) → IsSound mid
      → ((id : ℕ) → u.unit ≡ Clause id → IsAccounted mid after id → ⊥) → ((id : ℕ) → v.unit ≡ Clause id → IsAccounted mid after id → ⊥)
      → KeepsEntries old mid before after None → Accounts old mid before after → old.book.state.top ≤ mid.book.state.top
      → mid.book.state.top ≤ new.book.state.top → new.retired ≡ mid.retired
      → ((id : ℕ) → IsAddedTo new id → IsAddedTo mid id ⊎ (unit ≡ Clause id)) → (unit ≡ u.unit)
      ⊎ ((unit ≡ v.unit) ⊎ IsNewJustification mid.book.state new.book.state unit)
      → (unit ≡ u.unit) ⊎ ((unit ≡ v.unit) ⊎ ((id : ℕ) → unit ≡ Clause id → IsAddedTo new id))
      → GivesUnit old new before after (v ∷ u ∷ []) unit
  two_give old mid new before after u v unit still free_u free_v keeps accounts less more same alone given added =
      given_behind old mid new before after (v ∷ u ∷ []) unit accounts keeps.retires (keeps.named none_whole) less more same alone
      (of_two mid new u v unit given added)
      (unit_own mid new after u.unit v.unit unit still (keeps.fits none_whole) same free_u free_v given)

  -- that of a node that a term implies
  pub one_give : (old mid new : TableState S) (before after : List Entry) (u : HeldTerm) (unit : Justification) → IsSound mid
      → ((id : ℕ) → u.unit ≡ Clause id → IsAccounted mid after id → ⊥)
      → KeepsEntries old mid before after None → Accounts old mid before after → old.book.state.top ≤ mid.book.state.top
      → mid.book.state.top ≤ new.book.state.top → new.retired ≡ mid.retired
      → ((id : ℕ) → IsAddedTo new id → IsAddedTo mid id ⊎ (unit ≡ Clause id)) → (unit ≡ u.unit)
      ⊎ IsNewJustification mid.book.state new.book.state unit
      → (unit ≡ u.unit) ⊎ ((id : ℕ) → unit ≡ Clause id → IsAddedTo new id) → GivesUnit old new before after (u ∷ []) unit
  one_give old mid new before after u unit still free keeps accounts less more same alone given added =
      given_behind old mid new before after (u ∷ []) unit accounts keeps.retires (keeps.named none_whole) less more same alone
      (of_one mid new u unit given added)
      (unit_own mid new after u.unit u.unit unit still (keeps.fits none_whole) same free free
      (elim given [ inl own ↦ inl own | inr came ↦ inr (inr came) ]))

  -- that of a clause that is pushed
  pub new_gives : (old new : TableState S) (kept : List Entry) (unit : Justification) → IsSound old → Fits old kept → old.book.state.top
      ≤ new.book.state.top → new.retired ≡ old.retired
      → ((id : ℕ) → IsAddedTo new id → IsAddedTo old id ⊎ (unit ≡ Clause id))
      → ((id : ℕ) → unit ≡ Clause id → (id ≡ new.book.state.top) × (old.book.state.top < id))
      → ((id : ℕ) → unit ≡ Clause id → IsAddedTo new id) → GivesUnit old new kept kept [] unit
  new_gives old new kept unit sound fits more same alone last added =
      given_behind old old new kept kept [] unit (none_lost old kept sound) (record { each = λ id gone. inl gone })
      (record { each = λ entry there. inl there }) (omega arith) more same alone
      (λ id is. inr ((last id is).1, added id is))
      (unit_own old new kept Trivial Trivial unit sound fits same (λ id none. absurd (no_clause id none))
      (λ id none. absurd (no_clause id none)) (inr (inr (λ id is. new_unit old new id (last id is)))))

  -- a call that loses no clause leaves the units of all terms
  pub units_behind : StepByStep S
      → (old new : TableState S) (before after : List Entry) (stack : List HeldTerm) → IsSound old → IsSound new → Extends old new
      → HasUnits old before stack → RetiresOwn old new before → NamesOnly before after old.book.state new.book.state
      → Accounts old new before after → HasUnits new after stack
  units_behind laws old new before after stack sound more extends has retires named accounts = record {
    own = λ held there id is. free_after old new before after stack sound has retires named id
        (record { held = held; stacked = there; unit = is });
    apart = has.apart;
    added = λ id is. laws.added old new sound more extends id (has.added id is);
    known = λ id added. elim (cases_lt old.book.state.top id) [
      | inl above ↦ inl (accounts.added id above added)
      | inr low ↦ elim (has.known id (laws.was_added old new extends id low added)) [
        | inl accounted ↦ inl (accounts.still id accounted)
        | inr is ↦ inr is
      ]
    ];
  }

  -- so does one that adds none and retires none
  pub none_added : (old new : TableState S) (kept : List Entry) → IsSound old → new.retired ≡ old.retired → AddsNone old new
      → Accounts old new kept kept
  none_added old new kept sound same none = record {
    still = λ id accounted. elim accounted [ inl gone ↦ inl (subst (λ (ids : List ℕ). Contains ids id) (sym same) gone) | inr by ↦ inr by ];
    added = λ id above own. absurd (let within = within_top old sound id (none id own).stands in omega (arith, within, above));
  }

  -- no clause was added yet, and no term is there
  pub units_none : (table : TableState S) (kept : List Entry) (stack : List HeldTerm) → IsSound table → table.inputs ≡ table.book.state.top
      → stack ≡ [] → HasUnits table kept (reverse stack)
  units_none table kept stack sound fresh empty = subst (λ (list : List HeldTerm). HasUnits table kept (reverse list)) (sym empty) (record {
    own = λ held there id is accounted. omega (arith, there.1);
    apart = tt;
    added = λ id is. absurd (no_unit id is);
    known = λ id own. absurd (let within = within_top table sound id own.stands in let above = own.above in
        omega (arith, within, above, fresh));
  })

-- The retired clauses were deleted.
module _ {S : Type 0} (old new : TableState S) (kept : List Entry) (stack : List HeldTerm) (nodes : new.graph
    ≡ old.graph) (inputs : new.inputs ≡ old.inputs) (none : new.retired ≡ [])
    (gone : (id : ℕ) → Contains old.retired id → clause_at new.book.state.live id ≡ None)
    (stay : (id : ℕ) → (Contains old.retired id → ⊥) → clause_at new.book.state.live id
    ≡ clause_at old.book.state.live id) (has : HasUnits old kept stack) where
  added_still : (id : ℕ) → (Contains old.retired id → ⊥) → IsAddedTo old id → IsAddedTo new id
  added_still id unretired added = record {
    stands = ap is_some (stay id unretired) ∙ added.stands;
    above = let above = added.above in omega (arith, above, inputs);
    defines_none = λ key branch at. added.defines_none key branch (subst (λ (graph : Graph). branch_at graph key ≡ Some branch) nodes at);
  }

  deleted : (id : ℕ) → IsTrue (is_some (clause_at new.book.state.live id)) → Contains old.retired id → ⊥
  deleted id stands there = let e : false ≡ true = sym (ap is_some (gone id there)) ∙ stands in cc

  was_added : (id : ℕ) → IsAddedTo new id → IsAddedTo old id
  was_added id added = record {
    stands = sym (ap is_some (stay id (deleted id added.stands))) ∙ added.stands;
    above = let above = added.above in omega (arith, above, inputs);
    defines_none = λ key branch at. added.defines_none key branch
        (subst (λ (graph : Graph). branch_at graph key ≡ Some branch) (sym nodes) at);
  }

  in_none : (id : ℕ) → Contains new.retired id → ⊥
  in_none id there = let in_empty : Contains [] id = subst (λ (list : List ℕ). Contains list id) none there in
      absurd (omega (arith, in_empty.1))

  pub units_settled : HasUnits new kept stack
  units_settled = record {
    own = λ held there id is accounted. elim accounted [
      | inl retired ↦ in_none id retired
      | inr named ↦ has.own held there id is (inr named)
    ];
    apart = has.apart;
    added = λ id is. added_still id (λ retired. has.own is.held is.stacked id is.unit (inl retired)) (has.added id is);
    known = λ id added. elim (has.known id (was_added id added)) [
      | inl accounted ↦ elim accounted [
        | inl retired ↦ absurd (deleted id added.stands retired)
        | inr named ↦ inl (inr named)
      ]
      | inr is ↦ inr is
    ];
  }
