-- Entries that name no clause, on a list of their own and beside others; and what caches remember.
use Rattle.std.proofs.Common.{◌≡◌, ◌∙◌, ◌++◌, ◌⊎◌, ℕ, zero, suc, List, [], ◌∷◌, map, Contains, refl, sym, subst, arith, inl, inr}
use Rattle.std.proofs.lemmas.List.Elements.{Contains-append_right, Contains-append_cases}
use Rattle.node_table.specs.declared.node.Justification.TheVariants.{Trivial, Clause}
use Rattle.node_table.specs.Table.{TableState, IsSound, Extends}
use Rattle.operations.specs.Entries.{Entry, Fits, FitsEntry, Fitting, HaveSame, Names, just_of}
use Rattle.op_cache.specs.Cache.{Cache}
use Rattle.operations.specs.Caches.{LeavesEntries, MakesRoom, Remembers}

-- none of these entries names a clause
abbrev pub AreUnnamed : List Entry → Type 0
AreUnnamed entries = (entry : Entry) → Contains entries entry → just_of entry ≡ Trivial

pub unnamed : {X : Type 0} (entry_of : X → Entry) → ((x : X) → just_of (entry_of x) ≡ Trivial) → (xs : List X)
    → AreUnnamed (map entry_of xs)
unnamed entry_of trivial [] entry there = absurd (omega (arith, there.1))
unnamed entry_of trivial (x ∷ xs) entry (zero, small, is) = subst (λ (e : Entry). just_of e ≡ Trivial) is (trivial x)
unnamed entry_of trivial (x ∷ xs) entry (suc k, small, is) = unnamed entry_of trivial xs entry (k, omega (arith, small), is)

pub both_unnamed : (one other : List Entry) → AreUnnamed one → AreUnnamed other → AreUnnamed (one ++ other)
both_unnamed one other first second entry there = elim (Contains-append_cases one other entry there) [
  | inl mine ↦ first entry mine
  | inr theirs ↦ second entry theirs
]

no_clause : (id : ℕ) → Trivial ≡ Clause id → ⊥
no_clause id is = cc

none_named : (entries : List Entry) → AreUnnamed entries → (entry : Entry) (id : ℕ) → Contains entries entry → Names entry id → ⊥
none_named entries none entry id there names = no_clause id (sym (none entry there) ∙ names)

module _ {S : Type 0} (table : TableState S) where
  pub fits_unnamed : (entries : List Entry) → AreUnnamed entries
      → ((entry : Entry) → Contains entries entry → FitsEntry table.graph table.book.state.live entry) → Fits table entries
  fits_unnamed entries none each = record {
    each = each;
    own = λ id by. absurd (none_named entries none by.0 id by.1 by.2);
    unretired = λ id by gone. none_named entries none by.0 id by.1 by.2;
    apart = λ one other id first second names also. absurd (none_named entries none one id first names);
  }

  pub fits_beside : (mine others : List Entry) → AreUnnamed mine → Fits table mine → Fits table others → Fits table (mine ++ others)
  fits_beside mine others none fits fits_others = record {
    each = λ entry there. elim (Contains-append_cases mine others entry there) [
      | inl own ↦ fits.each entry own
      | inr other ↦ fits_others.each entry other
    ];
    own = λ id by. fits_others.own id (by.0, theirs by.0 id by.1 by.2, by.2);
    unretired = λ id by gone. fits_others.unretired id (by.0, theirs by.0 id by.1 by.2, by.2) gone;
    apart = λ one other id first second names also. fits_others.apart one other id (theirs one id first names)
        (theirs other id second also) names also;
  }
    where
      theirs : (entry : Entry) (id : ℕ) → Contains (mine ++ others) entry → Names entry id → Contains others entry
      theirs entry id there names = elim (Contains-append_cases mine others entry there) [
        | inl own ↦ absurd (none_named mine none entry id own names)
        | inr other ↦ other
      ]

module _ {S : Type 0} (fitting : Fitting S) (old new : TableState S) (sound : IsSound old) (still : IsSound new) (extends : Extends old new)
    (retired : new.retired ≡ old.retired) where
  -- nothing was retired
  pub fits_still : (entries : List Entry) → Fits old entries → Fits new entries
  fits_still entries fits = fitting.kept old new entries sound still extends fits
      (λ id by gone. fits.unretired id by (subst (λ (list : List ℕ). Contains list id) retired gone))

  -- the entries of other caches, beside those of one that names no clause
  pub others_still : (before after others : List Entry) → AreUnnamed after → Fits new after → Fits old (before ++ others)
      → Fits new (after ++ others)
  others_still before after others none own fits =
      fits_beside new after others none own (fits_still others (fitting.fewer old others (before
      ++ others) (λ entry there. Contains-append_right before others entry there) fits))

-- One entry more.
pub fits_more : {S : Type 0} (table : TableState S) (before after : List Entry) (found : Entry) → AreUnnamed after → Fits table before
    → FitsEntry table.graph table.book.state.live found
    → ((entry : Entry) → Contains after entry → (entry ≡ found) ⊎ Contains before entry) → Fits table after
fits_more table before after found none fits right only = fits_unnamed table after none (λ entry there. elim (only entry there) [
  | inl is ↦ subst (FitsEntry table.graph table.book.state.live) (sym is) right
  | inr was ↦ fits.each entry was
])

pub have_same : (list : List Entry) → HaveSame list list
have_same list = record { there = λ entry has. has; back = λ entry has. has }

pub remembers_all : {K V : Type 0} (entry_of : K × V → Entry) (cache : Cache K V) → Remembers entry_of cache cache
remembers_all entry_of cache = record { entries = λ entry there. inl there; no_fewer = omega arith; capacity = refl }

pub remembers_looked : {K V : Type 0} (entry_of : K × V → Entry) (before after : Cache K V) → LeavesEntries entry_of before after
    → Remembers entry_of before after
remembers_looked entry_of before after looked = record {
  entries = λ entry there. inl (looked.same.there entry there);
  no_fewer = looked.no_fewer;
  capacity = looked.capacity;
}

pub makes_no_room : {K V : Type 0} (entry_of : K × V → Entry) (cache : Cache K V) (key : K) → MakesRoom entry_of cache cache key
makes_no_room entry_of cache key = record { others = λ entry there. inl there; no_fewer = omega arith; capacity = refl }

pub fits_same : {S : Type 0} → Fitting S → (table : TableState S) (before after : List Entry) → HaveSame before after → Fits table before
    → Fits table after
fits_same fitting table before after same fits = fitting.fewer table after before same.back fits
