-- The entries of a cache, and the clauses that are named or retired, through one call after another, and as a call ends.
use Rattle.std.proofs.Common.{◌≡◌, ◌∙◌, ◌≤◌, ◌<◌, ◌⊎◌, ◌++◌, ◌∷◌, ℕ, zero, suc, ℤ, true, List, [], Option, None, Some, Contains}
use Rattle.std.proofs.Common.{is_some, refl, sym, ap, subst, arith, inl, inr}
use Rattle.std.proofs.lemmas.Bool.{cases_lt}
use Rattle.std.proofs.lemmas.List.Elements.{Contains-append_cases, Contains-append_left, Contains-append_right}
use Rattle.lrat_rules.specs.State.{State, clause_at}
use Rattle.node_table.specs.declared.error.TableError.{TableError}
use Rattle.node_table.specs.declared.node.Justification.{Justification}
use Rattle.node_table.specs.declared.node.Justification.TheVariants.{Trivial, Clause}
use Rattle.node_table.specs.Laws.{StepByStep}
use Rattle.node_table.specs.Table.{TableState, IsSound, IsAddedTo, AddsNone, Extends}
use Rattle.operations.specs.Accounts.{Accounting, AccountsFor, GivesOne, HasFound, HasKept, IsWhole, RetiresNew, RetiresOne, none_whole}
use Rattle.operations.specs.Caches.{IsOneKept}
use Rattle.operations.specs.Ended.{sound_left}
use Rattle.operations.specs.Entries.{Entry, Accounts, FitsEntry, Fits, Fitting, HaveSame, IsClauseOf, IsNamed, IsNewJustification, Names, NamesOnly}
use Rattle.operations.specs.Entries.{RetiresOwn, just_of}

no_clause : (id : ℕ) → Trivial ≡ Clause id → ⊥
no_clause id is = cc

pub same_some : {X : Type 0} (x y : X) → Some x ≡ Some y → x ≡ y
same_some x y is = cc

same_clause : (id other : ℕ) → Clause id ≡ Clause other → id ≡ other
same_clause id other is = cc

-- the clause that a justification names
pub just_given : (just : Justification) (given : Option ℕ) → IsClauseOf just given → (id : ℕ) → given ≡ Some id → just ≡ Clause id
just_given just None names id is = cc
just_given just (Some own) names id is = names ∙ ap Clause (same_some own id is)

pub given_of : (just : Justification) (given : Option ℕ) → IsClauseOf just given → (id : ℕ) → just ≡ Clause id → given ≡ Some id
given_of just None names id is = absurd (no_clause id (sym names ∙ is))
given_of just (Some own) names id is = ap Some (same_clause own id (sym names ∙ is))

IsNewJustification-within : (old mid late new : State) → old.top ≤ mid.top → late.top ≤ new.top → (just : Justification) → IsNewJustification mid late just
    → IsNewJustification old new just
IsNewJustification-within old mid late new first second just own id is = let both = own id is in
    (omega (arith, first, both.0), omega (arith, second, both.1))

-- the same entries, in whatever order
NamesOnly-same : (before after : List Entry) (old new : State) → HaveSame before after → NamesOnly before after old new
NamesOnly-same before after old new same = record { each = λ entry there. inl (same.back entry there) }

HaveSame-itself : (list : List Entry) → HaveSame list list
HaveSame-itself list = record { there = λ entry has. has; back = λ entry has. has }

NamesOnly-further : (first second third : List Entry) (old mid new : State) → old.top ≤ mid.top → mid.top ≤ new.top
    → NamesOnly first second old mid → NamesOnly second third mid new → NamesOnly first third old new
NamesOnly-further first second third old mid new one two before after = record {
  each = λ entry there. elim (after.each entry there) [
    | inr own ↦ inr (IsNewJustification-within old mid new new one (omega arith) (just_of entry) own)
    | inl still ↦ elim (before.each entry still) [
      | inr own ↦ inr (IsNewJustification-within old old mid new (omega arith) two (just_of entry) own)
      | inl first_there ↦ inl first_there
    ]
  ];
}

-- an entry that is kept names its clause
NamesOnly-kept : (before after : List Entry) (old new : State) (kept : Entry) → IsNewJustification old new (just_of kept)
    → ((entry : Entry) → Contains after entry → (entry ≡ kept) ⊎ Contains before entry) → NamesOnly before after old new
NamesOnly-kept before after old new kept own within = record {
  each = λ entry there. elim (within entry there) [
    | inl is ↦ inr (subst (λ (e : Entry). IsNewJustification old new (just_of e)) (sym is) own)
    | inr old_one ↦ inl old_one
  ];
}

-- one clause more on the list of the retired
in_one : (own id : ℕ) → Contains (own ∷ []) id → own ≡ id
in_one own id (zero, small, is) = is
in_one own id (suc k, small, is) = absurd (omega (arith, small))

pub one_retired : (retired : List ℕ) (own id : ℕ) → Contains (retired ++ own ∷ []) id → Contains retired id ⊎ (Some own ≡ Some id)
one_retired retired own id there = elim (Contains-append_cases retired (own ∷ []) id there) [
  | inl was ↦ inl was
  | inr here ↦ inr (ap Some (in_one own id here))
]

pub one_there : (retired : List ℕ) (own id : ℕ) → own ≡ id → Contains (retired ++ own ∷ []) id
one_there retired own id same = Contains-append_right retired (own ∷ []) id (zero, omega arith, same)

module _ {S : Type 0} where
  RetiresOwn-none : (old new : TableState S) (before : List Entry) → new.retired ≡ old.retired → RetiresOwn old new before
  RetiresOwn-none old new before same = record { each = λ id there. inl (subst (λ (list : List ℕ). Contains list id) same there) }

  RetiresOwn-new : (old new : TableState S) (before : List Entry) → RetiresNew old new → RetiresOwn old new before
  RetiresOwn-new old new before retires = record {
    each = λ id gone. elim
        (retires id gone) [ inl was ↦ inl was | inr above ↦ inr (inl above) ];
  }

  RetiresOwn-further : (old mid new : TableState S) (before between : List Entry) → old.book.state.top ≤ mid.book.state.top
      → RetiresOwn old mid before
      → NamesOnly before between old.book.state mid.book.state → RetiresOwn mid new between → RetiresOwn old new before
  RetiresOwn-further old mid new before between more first named second = record {
    each = λ id there. elim (second.each id there) [
      | inl was ↦ first.each id was
      | inr own ↦ elim own [
        | inl above ↦ inr (inl (omega (arith, more, above)))
        | inr by ↦ elim (named.each by.0 by.1) [
          | inl had ↦ inr (inr (by.0, had, by.2))
          | inr came ↦ inr (inl (came id by.2).0)
        ]
      ]
    ];
  }

  -- only a clause that is live was added
  not_above : (table : TableState S) → IsSound table → (id : ℕ) → IsAddedTo table id → id ≤ table.book.state.top
  not_above table sound id own =
      let clause = some_clause (clause_at table.book.state.live id) own.stands in
      (sound.tied.numbers id clause.0 clause.1).1
    where
      some_clause : (o : Option (List ℤ)) → is_some o ≡ true → (clause : List ℤ) × (o ≡ Some clause)
      some_clause None is = cc
      some_clause (Some clause) is = (clause, refl)

  -- what is named or retired: as it was, and through one call after another
  Accounts-same : (table : TableState S) → IsSound table → (before after : List Entry) → HaveSame before after
      → Accounts table table before after
  Accounts-same table sound before after same = record {
    still = λ id accounted. elim accounted [
      | inl gone ↦ inl gone
      | inr by ↦ inr (by.0, same.there by.0 by.1, by.2)
    ];
    added = λ id above own. absurd (let within = not_above table sound id own in omega (arith, within, above));
  }

  Accounts-further : (old mid new : TableState S) → ((id : ℕ) → id ≤ mid.book.state.top → IsAddedTo new id → IsAddedTo mid id)
      → (before between after : List Entry) → Accounts old mid before between
      → Accounts mid new between after → Accounts old new before after
  Accounts-further old mid new was before between after first second = record {
    still = λ id accounted. second.still id (first.still id accounted);
    added = λ id above own. elim (cases_lt mid.book.state.top id) [
      | inl later ↦ second.added id later own
      | inr within ↦ second.still id (first.added id above (was id within own))
    ];
  }

  -- no clause was added beside definitions
  gives_none : (old new : TableState S) → IsSound old → AddsNone old new → GivesOne old new Trivial
  gives_none old new sound none = record {
    since = λ id is. absurd (no_clause id is);
    own = λ id is. absurd (no_clause id is);
    unretired = λ id is gone. no_clause id is;
    others = λ id above own. absurd (let within = not_above old sound id (none id own) in omega (arith, above, within));
  }

  gives_further : (old mid new : TableState S) (just : Justification) → IsSound old → AddsNone old mid → old.book.state.top ≤ mid.book.state.top
      → ((id : ℕ) → id ≤ mid.book.state.top → IsAddedTo new id → IsAddedTo mid id) → GivesOne mid new just → GivesOne old new just
  gives_further old mid new just sound none more was gives = record {
    since = λ id is. (let above = gives.since id is in omega (arith, more, above));
    own = gives.own;
    unretired = gives.unretired;
    others = λ id above own. elim (cases_lt mid.book.state.top id) [
      | inl later ↦ gives.others id later own
      | inr within ↦ absurd (let before = not_above old sound id (none id (was id within own)) in omega (arith, above, before))
    ];
  }

  retires_further : (old mid new : TableState S) → mid.retired ≡ old.retired → old.book.state.top ≤ mid.book.state.top → RetiresNew mid new
      → RetiresNew old new
  retires_further old mid new same more retires id gone = elim (retires id gone) [
    | inl was ↦ inl (subst (λ (list : List ℕ). Contains list id) same was)
    | inr above ↦ inr (omega (arith, more, above))
  ]

  -- the list of the retired grows
  still_retired : (old new : TableState S) → Extends old new → (id : ℕ) → Contains old.retired id → Contains new.retired id
  still_retired old new extends id there = subst (λ (list : List ℕ). Contains list id) (sym extends.retired)
      (Contains-append_left old.retired extends.more id there)

module _ {S : Type 0} (law : StepByStep S) (fitting : Fitting S) where
  accounts_same : (table : TableState S) (before after : List Entry) (error : Option TableError) → IsSound table → HaveSame before after
      → Fits table before → AccountsFor table table before after error
  accounts_same table before after error sound same fits = record {
    fits = λ whole. fitting.fewer table after before same.back fits;
    named = λ whole. NamesOnly-same before after table.book.state table.book.state same;
    retires = RetiresOwn-none table table before refl;
    accounts = λ whole. Accounts-same table sound before after same;
  }

  accounts_further : (old mid new : TableState S) (first second third : List Entry) (error : Option TableError) → Extends old mid
      → Extends mid new
      → AccountsFor old mid first second None → AccountsFor mid new second third error → AccountsFor old new first third error
  accounts_further old mid new first second third error one two before after =
      let named = before.named none_whole in
      record {
        fits = after.fits;
        named = λ whole. NamesOnly-further first second third old.book.state mid.book.state new.book.state one.numbers.no_less
            two.numbers.no_less named (after.named whole);
        retires = RetiresOwn-further old mid new first second one.numbers.no_less before.retires named after.retires;
        accounts = λ whole. Accounts-further old mid new (law.was_added mid new two) first second third (before.accounts none_whole)
            (after.accounts whole);
      }

  -- only later clauses were retired
  module _ (old mid : TableState S) (before : List Entry) (sound : IsSound old) (fits : Fits old before) (extends : Extends old mid)
      (retires : RetiresNew old mid) where
    fits_still : IsSound mid → Fits mid before
    fits_still still = fitting.kept old mid before sound still extends fits
        (λ id named gone. elim (retires id gone) [
          | inl was ↦ fits.unretired id named was
          | inr above ↦ absurd (let within = not_above old sound id (fits.own id named) in omega (arith, above, within))
        ])

    -- the call gives none
    accounts_failed : (error : Option TableError) → (IsWhole error → IsSound mid) → (IsWhole error → GivesOne old mid Trivial)
        → AccountsFor old mid before before error
    accounts_failed error still gives = record {
      fits = λ whole. fits_still (still whole);
      named = λ whole. NamesOnly-same before before old.book.state mid.book.state (HaveSame-itself before);
      retires = RetiresOwn-new old mid before retires;
      accounts = λ whole. record {
        still = λ id accounted. elim accounted [
          | inl gone ↦ inl (still_retired old mid extends id gone)
          | inr named ↦ inr named
        ];
        added = λ id above own. elim ((gives whole).others id above own) [
          | inl gone ↦ inl gone
          | inr is ↦ absurd (no_clause id is)
        ];
      };
    }

  -- a result was found, and a clause is retired, if one is given
  module _ (old mid new : TableState S) (before : List Entry) (just : Justification) (has : HasFound old mid before just) (given : Option ℕ) (one : RetiresOne mid new given) where
    sound_new : IsSound new
    sound_new = one.steps.leaves.sound

    fits_mid : Fits mid before
    fits_mid = fits_still old mid before has.sound has.fits has.extends has.retires has.still

    -- the clause that is given is named by none
    unnamed : (id : ℕ) → just ≡ Clause id → IsNamed before id → ⊥
    unnamed id is named =
        let within = not_above old has.sound id (has.fits.own id named) in
        absurd (let above = has.gives.since id is in omega (arith, above, within))

    new_just : IsNewJustification old.book.state new.book.state just
    new_just id is =
        let within = not_above mid has.still id (has.gives.own id is) in
        (has.gives.since id is, omega (arith, within, one.steps.extends.numbers.no_less))

    retired_still : (id : ℕ) → Contains old.retired id → Contains new.retired id
    retired_still id gone = still_retired mid new one.steps.extends id (still_retired old mid has.extends id gone)

    -- what was added since is retired, or is the one that was found
    added_since : (id : ℕ) → old.book.state.top < id → IsAddedTo new id → Contains new.retired id ⊎ (just ≡ Clause id)
    added_since id above own =
        let within = not_above new sound_new id own in
        let top : new.book.state.top ≡ mid.book.state.top = ap (λ (t : TableState S). t.book.state.top) one.same in
        elim (has.gives.others id above (law.was_added mid new one.steps.extends id (omega (arith, within, top)) own)) [
          | inl gone ↦ inl (still_retired mid new one.steps.extends id gone)
          | inr is ↦ inr is
        ]

    -- there was no memory for it: its own clause is retired
    accounts_refused : (error : Option TableError) → IsClauseOf just given → AccountsFor old new before before error
    accounts_refused error own = record {
      fits = λ whole. fitting.kept mid new before has.still sound_new one.steps.extends fits_mid
          (λ id named gone. elim (one.only id gone) [
            | inl was ↦ fits_mid.unretired id named was
            | inr handed ↦ unnamed id (just_given just given own id handed) named
          ]);
      named = λ whole. NamesOnly-same before before old.book.state new.book.state (HaveSame-itself before);
      retires = record {
        each = λ id gone. elim (one.only id gone) [
          | inl was ↦ (RetiresOwn-new old mid before has.retires).each id was
          | inr handed ↦ inr (inl (has.gives.since id (just_given just given own id handed)))
        ];
      };
      accounts = λ whole. record {
        still = λ id accounted. elim accounted [
          | inl gone ↦ inl (retired_still id gone)
          | inr named ↦ inr named
        ];
        added = λ id above clause. elim (added_since id above clause) [
          | inl gone ↦ inl gone
          | inr is ↦ inl (one.retired id (given_of just given own id is))
        ];
      };
    }

  -- it is kept
  module _ (old mid new : TableState S) (before after : List Entry) (found : Entry) (given : Option ℕ)
      (has : HasFound old mid before (just_of found)) (fits : FitsEntry mid.graph mid.book.state.live found)
      (kept : IsOneKept before after found given) (one : RetiresOne mid new given) where
    mid_fits : Fits mid before
    mid_fits = fits_mid old mid new before (just_of found) has given one

    found_unnamed : (id : ℕ) → Names found id → IsNamed before id → ⊥
    found_unnamed = unnamed old mid new before (just_of found) has given one

    right_new : FitsEntry new.graph new.book.state.live found
    right_new = fitting.one mid new found has.still one.steps.extends fits

    names_own : (entry : Entry) (id : ℕ) → entry ≡ found → Names entry id → Names found id
    names_own entry id is names = subst (λ (e : Entry). Names e id) is names

    kept_unretired : (id : ℕ) → IsNamed after id → Contains new.retired id → ⊥
    kept_unretired id by gone = elim (one.only id gone) [
      | inl was ↦ elim (kept.only by.0 by.1) [
        | inl is ↦ has.gives.unretired id (names_own by.0 id is by.2) was
        | inr had ↦ mid_fits.unretired id (by.0, had, by.2) was
      ]
      | inr handed ↦ elim (kept.only by.0 by.1) [
        | inl is ↦ found_unnamed id (names_own by.0 id is by.2) (kept.named id handed)
        | inr had ↦ found_unnamed id (names_own by.0 id (kept.given_up mid_fits.apart by.0 id handed by.2 had by.1) by.2)
            (kept.named id handed)
      ]
    ]

    accounts_kept : AccountsFor old new before after None
    accounts_kept = record {
      fits = λ whole. fitting.more mid new before after found has.still one.steps.leaves.sound one.steps.extends mid_fits
          (record {
            right = right_new;
            own = λ id is. law.added mid new has.still one.steps.leaves.sound one.steps.extends id
                (has.gives.own id is);
            unnamed = found_unnamed;
          })
          kept.only kept_unretired;
      named = λ whole. NamesOnly-kept before after old.book.state new.book.state found
          (new_just old mid new before (just_of found) has given one) kept.only;
      retires = record {
        each = λ id gone. elim (one.only id gone) [
          | inl was ↦ (RetiresOwn-new old mid before has.retires).each id was
          | inr handed ↦ inr (inr (kept.named id handed))
        ];
      };
      accounts = λ whole. record {
        still = λ id accounted. elim accounted [
          | inl gone ↦ inl (retired_still old mid new before (just_of found) has given one id gone)
          | inr by ↦ elim (kept.gone by.0 id by.1 by.2) [
            | inl named ↦ inr named
            | inr handed ↦ inl (one.retired id handed)
          ]
        ];
        added = λ id above own. elim (added_since old mid new before (just_of found) has given one id above own) [
          | inl gone ↦ inl gone
          | inr is ↦ inr (found, kept.kept, is)
        ];
      };
    }

    has_kept : HasKept old new before after found
    has_kept = record { accounts = accounts_kept; right = right_new; unretired = λ id names. kept_unretired id (found, kept.kept, names) }

pub accounting : {S : Type 0} → StepByStep S → Fitting S → Accounting S
accounting law fitting = record {
  none = λ table entries error sound fits. accounts_same law fitting table entries entries error sound (HaveSame-itself entries) fits;
  same = accounts_same law fitting;
  further = accounts_further law fitting;
  beside = λ old new before after others count error sound steps accounts fits apart whole.
      fitting.beside old new before after others sound (sound_left old new error steps.leaves whole) steps.extends
      accounts.retires (accounts.named whole) fits apart (accounts.fits whole);
  gives_none = gives_none;
  gives_further = λ old mid new just sound none first second. gives_further old mid new just sound none first.numbers.no_less
      (law.was_added mid new second);
  retires_further = retires_further;
  failed = λ old new before count error sound fits steps retires.
      accounts_failed law fitting old new before sound fits steps.extends retires error
      (sound_left old new error steps.leaves);
  found = λ old new before just has. fits_still law fitting old new before has.sound has.fits has.extends has.retires has.still;
  kept = λ old mid new before after own given has fits kept one.
      has_kept law fitting old mid new before after own given has fits kept one;
  refused = λ old mid new before just given error has own one.
      accounts_refused law fitting old mid new before just has given one error own;
}
