-- The entries of all caches as one list: what a call leaves of its own caches' entries beside the others.
use Rattle.std.proofs.Common.{◌≡◌, ◌∙◌, ◌⊎◌, ◌++◌, ℕ, zero, suc, List, [], ◌∷◌, map, Contains, Option, None, Result, refl, sym, ap, subst}
use Rattle.std.proofs.Common.{arith, inl, inr}
use Rattle.std.proofs.lemmas.List.Elements.{Contains-append_left, Contains-append_right, Contains-append_cases}
use Rattle.lrat_rules.specs.State.{State}
use Rattle.node_table.specs.declared.error.TableError.{TableError}
use Rattle.node_table.specs.Table.{TableState, AddsNone, Extends, IsSound, UnlessTorn}
use Rattle.node_table.specs.Progress.{error_of}
use Rattle.operations.specs.Accounts.{IsWhole, none_whole, whole_error}
use Rattle.operations.specs.Entries.{Entry, Conjunction, Implication, Disjunction, Quantification, Accounts, AreApart, Fits, Fitting}
use Rattle.operations.specs.Entries.{IsAccounted, IsNamed, Names, NamesOnly, RetiresOwn}
use Rattle.apply_and.specs.Cache.{entries as conjunctions, entry_of as conjunction_entry}
use Rattle.imply.specs.Cache.{entries as implications, entry_of as implication_entry}
use Rattle.quantify.specs.ExistsCache.{ExistsCache, both_caches, quantification, quantifications}
use Rattle.quantify.specs.OrCache.{OrCache, disjunction, disjunctions}
use Rattle.bdd_terms.specs.declared.caches.Caches.{Caches}
use Rattle.bdd_terms.specs.Caches.{KeepsEntries}
use Rattle.bdd_terms.proofs.OwnUnits.{within_top}

-- of which operation an entry is
pub data Kind : Type 0 where
  conjoins : Kind
  implies : Kind
  disjoins : Kind
  quantifies : Kind

abbrev pub kind_of : Entry → Kind
kind_of (Conjunction u v w just) = conjoins
kind_of (Implication u v just) = implies
kind_of (Disjunction u v w) = disjoins
kind_of (Quantification u level w) = quantifies

-- the list's entries are of this operation
abbrev pub AreOf : Kind → List Entry → Type 0
AreOf kind listed = (entry : Entry) → Contains listed entry → kind_of entry ≡ kind

pub all_of : {X : Type 0} (entry_of : X → Entry) (kind : Kind) → ((x : X) → kind_of (entry_of x) ≡ kind) → (xs : List X)
    → AreOf kind (map entry_of xs)
all_of entry_of kind is [] entry there = absurd (omega (arith, there.1))
all_of entry_of kind is (x ∷ xs) entry (zero, small, at) = subst (λ (e : Entry). kind_of e ≡ kind) at (is x)
all_of entry_of kind is (x ∷ xs) entry (suc k, small, at) = all_of entry_of kind is xs entry (k, omega (arith, small), at)

-- such entries name no clause
pub names_none : (entry : Entry) (id : ℕ) → (kind_of entry ≡ disjoins) ⊎ (kind_of entry ≡ quantifies) → Names entry id → ⊥
names_none (Conjunction u v w just) id (inl of) names = cc
names_none (Conjunction u v w just) id (inr of) names = cc
names_none (Implication u v just) id (inl of) names = cc
names_none (Implication u v just) id (inr of) names = cc
names_none (Disjunction u v w) id of names = cc
names_none (Quantification u level w) id of names = cc

both_kinds : (entry : Entry) → kind_of entry ≡ conjoins → kind_of entry ≡ implies → ⊥
both_kinds entry first second = let e : conjoins ≡ implies = sym first ∙ second in cc

-- every entry of the one list is one of the other
abbrev pub AreIn : List Entry → List Entry → Type 0
AreIn few more = (entry : Entry) → Contains few entry → Contains more entry

-- parts of a list in another order
pub exchanged : (one two rest : List Entry) → AreIn (one ++ (two ++ rest)) (two ++ (one ++ rest))
exchanged one two rest entry there = elim (Contains-append_cases one (two ++ rest) entry there) [
  | inl first ↦ Contains-append_right two (one ++ rest) entry (Contains-append_left one rest entry first)
  | inr other ↦ elim (Contains-append_cases two rest entry other) [
    | inl second ↦ Contains-append_left two (one ++ rest) entry second
    | inr last ↦ Contains-append_right two (one ++ rest) entry (Contains-append_right one rest entry last)
  ]
]

pub last_first : (one two rest : List Entry) → AreIn (one ++ (two ++ rest)) (rest ++ (one ++ two))
last_first one two rest entry there = elim (Contains-append_cases one (two ++ rest) entry there) [
  | inl first ↦ Contains-append_right rest (one ++ two) entry (Contains-append_left one two entry first)
  | inr other ↦ elim (Contains-append_cases two rest entry other) [
    | inl second ↦ Contains-append_right rest (one ++ two) entry (Contains-append_right one two entry second)
    | inr last ↦ Contains-append_left rest (one ++ two) entry last
  ]
]

pub first_last : (one two rest : List Entry) → AreIn (rest ++ (one ++ two)) (one ++ (two ++ rest))
first_last one two rest entry there = elim (Contains-append_cases rest (one ++ two) entry there) [
  | inl last ↦ Contains-append_right one (two ++ rest) entry (Contains-append_right two rest entry last)
  | inr other ↦ elim (Contains-append_cases one two entry other) [
    | inl first ↦ Contains-append_left one (two ++ rest) entry first
    | inr second ↦ Contains-append_right one (two ++ rest) entry (Contains-append_left two rest entry second)
  ]
]

-- none of these entries names a clause
abbrev pub AreUnnamed : List Entry → Type 0
AreUnnamed listed = (entry : Entry) → Contains listed entry → (kind_of entry ≡ disjoins) ⊎ (kind_of entry ≡ quantifies)

pub both_unnamed : (cache : ExistsCache) (ors : OrCache) → AreUnnamed (both_caches cache ors)
both_unnamed cache ors entry there = elim (Contains-append_cases (quantifications cache) (disjunctions ors) entry there) [
  | inl first ↦ inr (all_of quantification quantifies (λ x. refl) cache.results.entries entry first)
  | inr second ↦ inl (all_of disjunction disjoins (λ x. refl) ors.results.entries entry second)
]

-- The entries of conjunctions, of implications, and those that name no clause.
pub record AreParts (ands one rest : List Entry) : Type 0 where
  pub first : AreOf conjoins ands
  pub second : AreOf implies one
  pub third : AreUnnamed rest

module _ {S : Type 0} (table : TableState S) (ands one rest : List Entry) (parts : AreParts ands one rest)
    (fits : Fits table (ands ++ (one ++ rest))) where
  -- no conjunction names the clause of an implication
  apart_kinds : (id : ℕ) → IsNamed ands id → IsNamed one id → ⊥
  apart_kinds id first second =
      let same = fits.apart first.0 second.0 id (Contains-append_left ands (one ++ rest) first.0 first.1)
      (Contains-append_right ands (one ++ rest) second.0 (Contains-append_left one rest second.0 second.1)) first.2 second.2 in
      both_kinds first.0 (parts.first first.0 first.1) (ap kind_of same ∙ parts.second second.0 second.1)

  pub conjunctions_apart : AreApart ands (one ++ rest)
  conjunctions_apart id first other = elim (Contains-append_cases one rest other.0 other.1) [
    | inl second ↦ apart_kinds id first (other.0, second, other.2)
    | inr last ↦ names_none other.0 id (parts.third other.0 last) other.2
  ]

  pub implications_apart : AreApart one (ands ++ rest)
  implications_apart id second other = elim (Contains-append_cases ands rest other.0 other.1) [
    | inl first ↦ apart_kinds id (other.0, first, other.2) second
    | inr last ↦ names_none other.0 id (parts.third other.0 last) other.2
  ]

-- What a call leaves of all entries, from what it leaves of those of its own cache.
pub named_in : (few more : List Entry) → AreIn few more → (id : ℕ) → IsNamed few id → IsNamed more id
named_in few more within id named = (named.0, within named.0 named.1, named.2)

pub retires_in : {S : Type 0} (old new : TableState S) (few more : List Entry) → AreIn few more → RetiresOwn old new few
    → RetiresOwn old new more
retires_in old new few more within retires = record {
  each = λ id gone. elim (retires.each id gone) [
    | inl was ↦ inl was
    | inr other ↦ elim other [
      | inl since ↦ inr (inl since)
      | inr named ↦ inr (inr (named_in few more within id named))
    ]
  ];
}

pub names_beside : (before after others : List Entry) (old new : State) → NamesOnly before after old new
    → NamesOnly (before ++ others) (after ++ others) old new
names_beside before after others old new names = record {
  each = λ entry there. elim (Contains-append_cases after others entry there) [
    | inl own ↦ elim (names.each entry own) [
      | inl was ↦ inl (Contains-append_left before others entry was)
      | inr came ↦ inr came
    ]
    | inr other ↦ inl (Contains-append_right before others entry other)
  ];
}

pub names_in : (before more after less : List Entry) (old new : State) → AreIn before more → AreIn less after
    → NamesOnly before after old new → NamesOnly more less old new
names_in before more after less old new within also names = record {
  each = λ entry there. elim (names.each entry (also entry there)) [
    | inl was ↦ inl (within entry was)
    | inr came ↦ inr came
  ];
}

-- entries that name no clause came anew, or not
pub names_unnamed : (before after : List Entry) (old new : State) → AreUnnamed after → NamesOnly before after old new
names_unnamed before after old new none = record {
  each = λ entry there. inr
      (λ id names. absurd (names_none entry id (none entry there) names));
}

-- One call after another, and one that neither keeps an entry nor retires a clause.
module _ {S : Type 0} where
  pub keeps_further : (old mid new : TableState S) (first second third : List Entry) (error : Option TableError) → Extends old mid
      → Extends mid new
      → KeepsEntries old mid first second None → KeepsEntries mid new second third error → KeepsEntries old new first third error
  keeps_further old mid new first second third error extends again before more = record {
    fits = more.fits;
    named = λ whole. record {
      each = λ entry there. elim ((more.named whole).each entry there) [
        | inl was ↦ elim ((before.named none_whole).each entry was) [
          | inl there_first ↦ inl there_first
          | inr came ↦ inr (λ id is. let own = came id is in (own.0, omega (arith, own.1, again.numbers.no_less)))
        ]
        | inr came ↦ inr (λ id is. let own = came id is in (omega (arith, own.0, extends.numbers.no_less), own.1))
      ];
    };
    retires = record {
      each = λ id gone. elim (more.retires.each id gone) [
        | inl was ↦ before.retires.each id was
        | inr other ↦ elim other [
          | inl since ↦ inr (inl (omega (arith, since, extends.numbers.no_less)))
          | inr named ↦ elim ((before.named none_whole).each named.0 named.1) [
            | inl there_first ↦ inr (inr (named.0, there_first, named.2))
            | inr came ↦ inr (inl (came id named.2).0)
          ]
        ]
      ];
    };
  }

  pub keeps_all : Fitting S → (old new : TableState S) (listed : List Entry) (error : Option TableError) → IsSound old
      → (IsWhole error → IsSound new) → Extends old new → new.retired ≡ old.retired → Fits old listed
      → KeepsEntries old new listed listed error
  keeps_all fitting old new listed error sound still extends same fits = record {
    fits = λ whole. fitting.kept old new listed sound (still whole) extends fits
        (λ id named gone. fits.unretired id named (subst (λ (ids : List ℕ). Contains ids id) same gone));
    named = λ whole. record { each = λ entry there. inl there };
    retires = record { each = λ id gone. inl (subst (λ (ids : List ℕ). Contains ids id) same gone) };
  }

-- A conjunction, an implication and a quantification, each over all caches.
pub caches_parts : (caches : Caches) → AreParts (conjunctions caches.ands) (implications caches.implications)
    (both_caches caches.quantifications caches.ors)
caches_parts caches = record {
  first = all_of conjunction_entry conjoins (λ x. refl) caches.ands.results.entries;
  second = all_of implication_entry implies (λ x. refl) caches.implications.results.entries;
  third = both_unnamed caches.quantifications caches.ors;
}

-- the entries of one cache fit by themselves
module _ {S : Type 0} (fitting : Fitting S) (table : TableState S) (ands one rest : List Entry)
    (fits : Fits table (ands ++ (one ++ rest))) where
  pub conjunctions_fit : Fits table ands
  conjunctions_fit = fitting.fewer table ands (ands ++ (one ++ rest))
      (λ entry there. Contains-append_left ands (one ++ rest) entry there) fits

  pub implications_fit : Fits table one
  implications_fit = fitting.fewer table one (ands ++ (one ++ rest))
      (λ entry there. Contains-append_right ands (one ++ rest) entry (Contains-append_left one rest entry there)) fits

  pub quantifications_fit : Fits table rest
  quantifications_fit = fitting.fewer table rest (ands ++ (one ++ rest))
      (λ entry there. Contains-append_right ands (one ++ rest) entry (Contains-append_right one rest entry there)) fits

-- those of disjunctions, which stand behind those of quantifications
pub disjunctions_fit : {S : Type 0} (fitting : Fitting S) (table : TableState S) (ands one first second : List Entry)
    → Fits table (ands ++ (one ++ (first ++ second))) → Fits table second
disjunctions_fit fitting table ands one first second fits =
    fitting.fewer table second (first ++ second) (λ entry there. Contains-append_right first second entry there)
    (quantifications_fit fitting table ands one (first ++ second) fits)

pub others_beside : {S : Type 0} (fitting : Fitting S) (old new : TableState S) (first second after others : List Entry)
    → Fits old ((first ++ second) ++ others) → (Fits old (second ++ (first ++ others)) → Fits new (after ++ (first ++ others)))
    → Fits new ((first ++ after) ++ others)
others_beside fitting old new first second after others fits further =
    fitting.fewer new ((first ++ after) ++ others) (after ++ (first ++ others)) (apart_from after)
    (further (fitting.fewer old (second ++ (first ++ others)) ((first ++ second) ++ others) (together second) fits))
  where
    apart_from : (mid : List Entry) → AreIn ((first ++ mid) ++ others) (mid ++ (first ++ others))
    apart_from mid entry there = elim (Contains-append_cases (first ++ mid) others entry there) [
      | inl own ↦ elim (Contains-append_cases first mid entry own) [
        | inl one ↦ Contains-append_right mid (first ++ others) entry (Contains-append_left first others entry one)
        | inr two ↦ Contains-append_left mid (first ++ others) entry two
      ]
      | inr last ↦ Contains-append_right mid (first ++ others) entry (Contains-append_right first others entry last)
    ]

    together : (mid : List Entry) → AreIn (mid ++ (first ++ others)) ((first ++ mid) ++ others)
    together mid entry there = elim (Contains-append_cases mid (first ++ others) entry there) [
      | inl two ↦ Contains-append_left (first ++ mid) others entry (Contains-append_right first mid entry two)
      | inr other ↦ elim (Contains-append_cases first others entry other) [
        | inl one ↦ Contains-append_left (first ++ mid) others entry (Contains-append_left first mid entry one)
        | inr last ↦ Contains-append_right (first ++ mid) others entry last
      ]
    ]

module _ {S T : Type 0} (fitting : Fitting S) (old new : TableState S) (ands one rest : List Entry) (parts : AreParts ands one rest)
    (fits : Fits old (ands ++ (one ++ rest))) (result : Result T TableError) where
  pub and_keeps : (after : List Entry) → ((others : List Entry) → Fits old (ands ++ others) → AreApart ands others
      → UnlessTorn result (Fits new (after ++ others) × AreApart after others))
      → UnlessTorn result (NamesOnly ands after old.book.state new.book.state) → RetiresOwn old new ands
      → KeepsEntries old new (ands ++ (one ++ rest)) (after ++ (one ++ rest)) (error_of result)
  and_keeps after beside named retires = record {
    fits = λ whole. (beside (one ++ rest) fits (conjunctions_apart old ands one rest parts fits) (whole_error result whole)).0;
    named = λ whole. names_beside ands after (one ++ rest) old.book.state new.book.state (named (whole_error result whole));
    retires = retires_in old new ands (ands ++ (one ++ rest)) (λ entry there. Contains-append_left ands (one ++ rest) entry there) retires;
  }

  pub implication_keeps : (after : List Entry) → ((others : List Entry) → Fits old (one ++ others) → AreApart one others
      → UnlessTorn result (Fits new (after ++ others) × AreApart after others))
      → UnlessTorn result (NamesOnly one after old.book.state new.book.state) → RetiresOwn old new one
      → KeepsEntries old new (ands ++ (one ++ rest)) (ands ++ (after ++ rest)) (error_of result)
  implication_keeps after beside named retires = record {
    fits = λ whole.
        fitting.fewer new (ands ++ (after ++ rest)) (after ++ (ands ++ rest)) (exchanged ands after rest)
        (beside (ands ++ rest) (fitting.fewer old (one ++ (ands ++ rest)) (ands ++ (one ++ rest)) (exchanged one ands rest) fits)
        (implications_apart old ands one rest parts fits) (whole_error result whole)).0;
    named = λ whole.
        names_in (one ++ (ands ++ rest)) (ands ++ (one ++ rest)) (after ++ (ands ++ rest)) (ands
        ++ (after ++ rest)) old.book.state new.book.state (exchanged one ands rest) (exchanged ands after rest)
        (names_beside one after (ands ++ rest) old.book.state new.book.state (named (whole_error result whole)));
    retires = retires_in old new one (ands ++ (one ++ rest)) (λ entry there. Contains-append_right ands (one
        ++ rest) entry (Contains-append_left one rest entry there)) retires;
  }

  pub quantification_keeps : (after : List Entry) → AreUnnamed after
      → ((others : List Entry) → Fits old (rest ++ others) → UnlessTorn result (Fits new (after ++ others))) → new.retired ≡ old.retired
      → KeepsEntries old new (ands ++ (one ++ rest)) (ands ++ (one ++ after)) (error_of result)
  quantification_keeps after none beside same = record {
    fits = λ whole.
        fitting.fewer new (ands ++ (one ++ after)) (after ++ (ands ++ one)) (last_first ands one after)
        (beside (ands ++ one) (fitting.fewer old (rest ++ (ands ++ one)) (ands ++ (one ++ rest)) (first_last ands one rest) fits)
        (whole_error result whole));
    named = λ whole.
        names_in (rest ++ (ands ++ one)) (ands ++ (one ++ rest)) (after ++ (ands ++ one)) (ands
        ++ (one ++ after)) old.book.state new.book.state (first_last ands one rest) (last_first ands one after)
        (names_beside rest after (ands ++ one) old.book.state new.book.state (names_unnamed rest after old.book.state new.book.state none));
    retires = record { each = λ id gone. inl (subst (λ (ids : List ℕ). Contains ids id) same gone) };
  }

-- No clause is lost beside other entries, and in another order.
module _ {S : Type 0} (old new : TableState S) where
  accounted_in : (table : TableState S) (few more : List Entry) → AreIn few more → (id : ℕ) → IsAccounted table few id
      → IsAccounted table more id
  accounted_in table few more within id accounted = elim accounted [
    | inl gone ↦ inl gone
    | inr named ↦ inr
        (named_in few more within id named)
  ]

  pub accounts_in : (before more after less : List Entry) → AreIn more before → AreIn after less → Accounts old new before after
      → Accounts old new more less
  accounts_in before more after less within also accounts = record {
    still = λ id accounted. accounted_in new after less also id (accounts.still id (accounted_in old more before within id accounted));
    added = λ id above own. accounted_in new after less also id (accounts.added id above own);
  }

  pub accounts_beside : (before after others : List Entry) → Accounts old new before after
      → Accounts old new (before ++ others) (after ++ others)
  accounts_beside before after others accounts = record {
    still = λ id accounted. elim accounted [
      | inl gone ↦ widen id (accounts.still id (inl gone))
      | inr named ↦ elim (Contains-append_cases before others named.0 named.1) [
        | inl own ↦ widen id (accounts.still id (inr (named.0, own, named.2)))
        | inr other ↦ inr (named.0, Contains-append_right after others named.0 other, named.2)
      ]
    ];
    added = λ id above own. widen id (accounts.added id above own);
  }
    where
      widen : (id : ℕ) → IsAccounted new after id → IsAccounted new (after ++ others) id
      widen id accounted = accounted_in new after (after ++ others)
          (λ entry there. Contains-append_left after others entry there) id accounted

  pub implication_accounts : (ands one rest after : List Entry) → Accounts old new one after
      → Accounts old new (ands ++ (one ++ rest)) (ands ++ (after ++ rest))
  implication_accounts ands one rest after accounts =
      accounts_in (one ++ (ands ++ rest)) (ands ++ (one ++ rest)) (after ++ (ands ++ rest)) (ands
      ++ (after ++ rest)) (exchanged ands one rest) (exchanged after ands rest)
      (accounts_beside one after (ands ++ rest) accounts)

  pub quantification_accounts : (ands one rest after : List Entry) → AreUnnamed rest → IsSound old → new.retired ≡ old.retired
      → AddsNone old new
      → Accounts old new (ands ++ (one ++ rest)) (ands ++ (one ++ after))
  quantification_accounts ands one rest after unnamed sound same none = record {
    still = λ id accounted. elim accounted [
      | inl gone ↦ inl (subst (λ (ids : List ℕ). Contains ids id) (sym same) gone)
      | inr named ↦ elim (Contains-append_cases ands (one ++ rest) named.0 named.1) [
        | inl first ↦ inr (named.0, Contains-append_left ands (one ++ after) named.0 first, named.2)
        | inr other ↦ elim (Contains-append_cases one rest named.0 other) [
          | inl second ↦ inr (
            named.0,
            Contains-append_right ands (one ++ after) named.0 (Contains-append_left one after named.0 second),
            named.2,
          )
          | inr last ↦ absurd (names_none named.0 id (unnamed named.0 last) named.2)
        ]
      ]
    ];
    added = λ id above own. absurd (let within = within_top old sound id (none id own).stands in omega (arith, within, above));
  }
