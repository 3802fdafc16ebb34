-- Entries of a bounded cache, as they are looked up and kept.
use Rattle.std.proofs.Common.{◌≡◌, ◌⊎◌, ◌≤◌, ◌-◌, ◌∷◌, ℕ, zero, suc, Bool, true, false, List, [], Option, length, map, take, nat_lt}
use Rattle.std.proofs.Common.{slice_get, Contains, Some, None, arith, refl, sym, ap, ◌∙◌, subst, inl, inr}
use Rattle.std.specs.Prelude.{IsSome, IsFalse, if◌then◌else◌}
use Rattle.std.specs.Cmp.{IsEquivalence}
use Rattle.std.specs.List.{IsDistinct}
use Rattle.std.specs.Map.{keys_of, lookup}
use Rattle.std.proofs.lemmas.List.{length-map, get_or-map}
use Rattle.std.proofs.lemmas.List.Elements.{All-contains, All-from_recursion}
use Rattle.std.proofs.lemmas.Map.Views.{Contains-from_lookup}
use Rattle.std.proofs.lemmas.Option.{slice_get_within, get_or_from_slice_get}
use Rattle.node_table.specs.declared.node.Justification.TheVariants.{Trivial, Clause}
use Rattle.op_cache.specs.Cache.{Cache, IsBounded, looked, kept, without_last, last_of}
use Rattle.op_cache.specs.Laws.{AreInFront, HandsBack, OnlyKept, UsedInFront, is_among}
use Rattle.operations.specs.Entries.{Entry, IsNamed, Names, just_of}
use Rattle.operations.specs.Caches.{AreNamedOnce, IsGiven, IsLookedUp, IsOfKey, KeepsEntry, Keeping, LeavesEntries, MakesRoom, Remembers, TellsKeys}
use Rattle.operations.specs.Caches.{with_key}
use Rattle.operations.proofs.Elements.{there_none, there_first, there_more, first_or_more}
use borrow.Author.Tests.{ltb-true, ltb-false}

-- the element at a place
at_place : {X : Type 0} (xs : List X) (n : ℕ) (x : X) → slice_get xs n ≡ Some x → Contains xs x
at_place xs n x is = (n, slice_get_within xs n x is, get_or_from_slice_get xs n x x is)

module _ {K V : Type 0} (entry_of : K × V → Entry) where
  -- what is listed of an entry
  from_map : (es : List (K × V)) (e : K × V) → Contains es e → Contains (map entry_of es) (entry_of e)
  from_map es e there =
      (there.0, omega (arith, length-map es entry_of, there.1), get_or-map entry_of es there.0 e (entry_of e) there.1 ∙ ap entry_of there.2)

  pub to_map : (es : List (K × V)) (entry : Entry) → Contains (map entry_of es) entry
      → (e : K × V) × Contains es e × (entry_of e ≡ entry)
  to_map [] entry there = absurd (there_none entry there)
  to_map (e ∷ es) entry there = elim (first_or_more (entry_of e) (map entry_of es) entry there) [
    | inl same ↦ (e, there_first e es, same)
    | inr behind ↦ let on = to_map es entry behind in (on.0, there_more e es on.0 on.1, on.2)
  ]

  map_into : (es fs : List (K × V)) → ((e : K × V) → Contains es e → Contains fs e)
      → (entry : Entry) → Contains (map entry_of es) entry → Contains (map entry_of fs) entry
  map_into es fs into entry there = let on = to_map es entry there in
      subst (Contains (map entry_of fs)) on.2 (from_map fs on.0 (into on.0 on.1))

  given_named : (handed : Option (K × V)) (given : Option ℕ) (id : ℕ) → IsGiven entry_of handed given → given ≡ Some id
      → (pair : K × V) × (handed ≡ Some pair) × Names (entry_of pair) id
  given_named None given id is names = cc
  given_named (Some pair) None id is names = cc
  given_named (Some pair) (Some other) id is names = let same : other ≡ id = cc in (pair, refl, is ∙ ap Clause same)

  named_given : (handed : Option (K × V)) (given : Option ℕ) (pair : K × V) (id : ℕ) → IsGiven entry_of handed given → handed ≡ Some pair
      → Names (entry_of pair) id → given ≡ Some id
  named_given None given pair id is there names = cc
  named_given (Some one) None pair id is there names = let same : one ≡ pair = cc in
      let none : just_of (entry_of pair) ≡ Trivial = subst (λ (p : K × V). just_of (entry_of p) ≡ Trivial) same is in
      cc
  named_given (Some one) (Some other) pair id is there names = let same : one ≡ pair = cc in
      let here : just_of (entry_of pair) ≡ Clause other = subst (λ (p : K × V). just_of (entry_of p) ≡ Clause other) same is in
      let alike : other ≡ id = cc in ap Some alike

pub equal_keys : {K : Type 0} (eq : K → K → Bool) → IsEquivalence eq → (one other : K) → one ≡ other → eq one other ≡ true
equal_keys {K} eq equal one other is = subst (λ (key : K). eq one key ≡ true) is (equal.refl one)

module _ {K V : Type 0} (eq : K → K → Bool) (equal : IsEquivalence eq) where
  key_at_place : (es : List (K × V)) (n : ℕ) (last : K × V) → slice_get es n ≡ Some last → Contains (keys_of es) last.0
  key_at_place [] n last is = cc
  key_at_place (e ∷ es) zero last is = let here : e ≡ last = cc in
      subst (λ (l : K × V). Contains (e.0 ∷ keys_of es) l.0) here (there_first e.0 (keys_of es))
  key_at_place (e ∷ es) (suc n) last is = there_more e.0 (keys_of es) last.0 (key_at_place es n last is)

  -- none of those before an entry has its key
  before_apart : (n : ℕ) (es : List (K × V)) (last e : K × V) → IsDistinct eq (keys_of es) → slice_get es n ≡ Some last
      → Contains (take n es) e → e.0 ≡ last.0 → ⊥
  unfolding IsDistinct
  before_apart zero es last e distinct is there same = there_none e there
  before_apart (suc n) [] last e distinct is there same = there_none e there
  before_apart (suc n) (x ∷ es) last e distinct is there same = elim (first_or_more x (take n es) e there) [
    | inl here ↦
        let apart : eq x.0 last.0 ≡ false = All-contains (λ k. eq x.0 k ≡ false) (keys_of es) last.0
        (All-from_recursion (λ k. eq x.0 k ≡ false) (keys_of es) distinct.0) (key_at_place es n last is) in
        let alike : eq x.0 last.0 ≡ true = equal_keys eq equal x.0 last.0 (ap (λ f. f.0) here ∙ same) in
        cc
    | inr behind ↦ before_apart n es last e distinct.1 is behind same
  ]

  module _ (front : UsedInFront K V eq) (es : List (K × V)) (keys : List K) (key : K) (used : AreInFront eq es keys) where
    -- a look-up of one that was used finds it
    missed_unused : lookup (eq key) es ≡ None → IsFalse (is_among eq keys key)
    missed_unused none = (elim (is_among eq keys key) as (λ b. is_among eq keys key ≡ b → b ≡ false) [
      | true ↦ λ is. let some = front.stands es keys key used is in let impossible : IsSome {T = V} None = subst IsSome none some in cc
      | false ↦ λ is. refl
    ]) refl

    -- and one that is found was used
    found_used : IsSome (lookup (eq key) es) → AreInFront eq (looked eq es key) (with_key eq keys key)
    found_used some = (elim (is_among eq keys key) as (λ b. is_among eq keys key ≡ b
        → AreInFront eq (looked eq es key) (if b then keys else key ∷ keys)) [
          | true ↦ λ is. front.looked_again es keys key used is
          | false ↦ λ is. front.looked_more es keys key used is some
        ]) refl

  module _ (only : OnlyKept K V eq) where
    finds_own : (es : List (K × V)) (e : K × V) → IsDistinct eq (keys_of es) → Contains es e → lookup (eq e.0) es ≡ Some e.1
    finds_own es e distinct there = only.finds es e.0 e.0 e.1 distinct there (equal.refl e.0)

    -- what is listed is what a look-up finds
    listed_found : (entry_of : K × V → Entry) (es : List (K × V)) → IsDistinct eq (keys_of es) → (entry : Entry)
        → Contains (map entry_of es) entry
        → (pair : K × V) × (lookup (eq pair.0) es ≡ Some pair.1) × (entry_of pair ≡ entry)
    listed_found entry_of es distinct entry there = let on = to_map entry_of es entry there in (on.0, finds_own es on.0 distinct on.1, on.2)

    -- a look-up leaves the entries
    is_looked : (entry_of : K × V → Entry) (before after : Cache K V) (key : K) → after
        ≡ record before { entries = looked eq before.entries key } → LeavesEntries entry_of before after
    is_looked entry_of before after key is =
        let es = before.entries in let fs = looked eq es key in
        subst (LeavesEntries entry_of before) (sym is) (record {
          same = record {
            there = map_into entry_of es fs (λ e. (only.looked_same es key e).1);
            back = map_into entry_of fs es (λ e. (only.looked_same es key e).0);
          };
          no_fewer = omega (arith, length-map es entry_of, length-map fs entry_of, only.looked_as_many es key);
          capacity = refl;
        })

    -- One entry is kept in a cache.
    module _ (back : HandsBack K V eq) (entry_of : K × V → Entry) (tells : TellsKeys eq entry_of) (before : Cache K V)
        (bounded : IsBounded eq before) (key : K) (value : V) where
      abbrev es : List (K × V)
      es = before.entries

      abbrev capacity : ℕ
      capacity = before.capacity

      abbrev after : List (K × V)
      after = (kept eq capacity es key value).0

      abbrev handed : Option (K × V)
      handed = (kept eq capacity es key value).1

      abbrev new : Entry
      new = entry_of (key, value)

      -- An entry that is handed back was the key's own, or the last of a full list.
      abbrev IsHanded : K × V → Type 0
      IsHanded pair = ((pair.0 ≡ key) × (lookup (eq key) es ≡ Some pair.1))
          ⊎ ((capacity ≤ length es) × (last_of es ≡ Some pair) × (after ≡ (key, value) ∷ without_last es))

      of_new : lookup (eq key) es ≡ None → (pair : K × V) → handed ≡ Some pair → IsHanded pair
      of_new none pair is = (elim (nat_lt (length es) capacity) as (λ t. nat_lt (length es) capacity ≡ t → IsHanded pair) [
        | true ↦ λ t. let all = back.added es capacity key value none (ltb-true (length es) capacity t) in
            let nothing : None ≡ Some pair = sym (ap (λ p. p.1) all) ∙ is in cc
        | false ↦ λ t. let full : capacity ≤ length es = ltb-false (length es) capacity t in
            let all = back.pushed_out es capacity key value none full in
            inr (full, sym (ap (λ p. p.1) all) ∙ is, ap (λ p. p.0) all)
      ]) refl

      is_handed : (pair : K × V) → handed ≡ Some pair → IsHanded pair
      is_handed pair is = (elim (lookup (eq key) es) as (λ o. lookup (eq key) es ≡ o → IsHanded pair) [
        | None ↦ λ none. of_new none pair is
        | Some old ↦ λ found. let own : Some (key, old) ≡ Some pair = sym (back.replaced es capacity key value old found) ∙ is in
            let same : (key, old) ≡ pair = cc in inl (sym (ap (λ p. p.0) same), found ∙ ap (λ (p : K × V). Some p.1) same)
      ]) refl

      handed_there : (pair : K × V) → handed ≡ Some pair → Contains es pair
      handed_there pair is = elim (is_handed pair is) [
        | inl own ↦ subst (λ k. Contains es (k, pair.1)) (sym own.0) (Contains-from_lookup tells.same key pair.1 es own.1)
        | inr last ↦ at_place es (length es - 1) pair last.1
      ]

      -- its place is taken
      handed_gone : IsDistinct eq (keys_of after) → lookup (eq key) after ≡ Some value
          → (pair e : K × V) → handed ≡ Some pair → Contains after e → e.0 ≡ pair.0 → e ≡ (key, value)
      handed_gone distinct_now found pair e is there same = elim (is_handed pair is) [
        | inl own ↦
            let its : e.0 ≡ key = same ∙ own.0 in
            let finds : lookup (eq key) after ≡ Some e.1 =
            subst (λ k. lookup (eq k) after ≡ Some e.1) its (finds_own after e distinct_now there) in
            let values : Some e.1 ≡ Some value = sym finds ∙ found in let alike : e.1 ≡ value = cc in
            λ i. (its i, alike i)
        | inr last ↦ elim (first_or_more (key, value) (without_last es) e (subst (λ l. Contains l e) last.2 there)) [
          | inl here ↦ sym here
          | inr behind ↦ absurd (before_apart (length es - 1) es pair e bounded.distinct last.1 behind same)
        ]
      ]

      -- an entry of the key is the one that is handed back
      own_handed : (e : K × V) → Contains es e → key ≡ e.0 → handed ≡ Some e
      own_handed e there same =
          let found : lookup (eq key) es ≡ Some e.1 =
          subst (λ k. lookup (eq k) es ≡ Some e.1) (sym same) (finds_own es e bounded.distinct there) in
          back.replaced es capacity key value e.1 found ∙ (λ i. Some (same i, e.1))

      -- what is there no more was handed back
      left : (e : K × V) → Contains es e → Contains after e ⊎ (handed ≡ Some e)
      left e there = elim (only.others es capacity key value e there) [
        | inl still ↦ inl still
        | inr gone ↦ elim gone [
          | inl own ↦ inr (own_handed e there (tells.same key e.0 own))
          | inr last ↦ inr last
        ]
      ]

      -- what is there was there or is kept now
      added : (e : K × V) → Contains after e → (e ≡ (key, value)) ⊎ Contains es e
      added e there = elim (only.kept_only es capacity key value e there) [
        | inl old ↦ inr old
        | inr new ↦ let same = sym (tells.same key e.0 new.1) in let alike = new.0 in inl (λ i. (same i, alike i))
      ]

      only_listed : (entry : Entry) → Contains (map entry_of after) entry → (entry ≡ new) ⊎ Contains (map entry_of es) entry
      only_listed entry there = let on = to_map entry_of after entry there in
          elim (added on.0 on.1) [
            | inl here ↦ inl (sym on.2 ∙ ap entry_of here)
            | inr old ↦ inr (subst (Contains (map entry_of es)) on.2 (from_map entry_of es on.0 old))
          ]

      others_listed : (entry : Entry) → Contains (map entry_of es) entry
          → Contains (map entry_of after) entry ⊎ (IsOfKey entry_of key entry ⊎ (capacity ≤ length (map entry_of es)))
      others_listed entry there = let on = to_map entry_of es entry there in
          elim (left on.0 on.1) [
            | inl still ↦ inl (subst (Contains (map entry_of after)) on.2 (from_map entry_of after on.0 still))
            | inr gone ↦ elim (is_handed on.0 gone) [
              | inl own ↦ let same = own.0 in inr (inl (on.0.1, sym on.2 ∙ (λ i. entry_of (same i, on.0.1))))
              | inr last ↦ inr (inr (let full = last.0 in omega (arith, length-map es entry_of, full)))
            ]
          ]

      module _ (given : Option ℕ) (is : IsGiven entry_of handed given) where
        gone_listed : (entry : Entry) (id : ℕ) → Contains (map entry_of es) entry → Names entry id → IsNamed (map entry_of after) id
            ⊎ (given ≡ Some id)
        gone_listed entry id there names = let on = to_map entry_of es entry there in
            let names_on : Names (entry_of on.0) id = subst (λ e. Names e id) (sym on.2) names in
            elim (left on.0 on.1) [
              | inl still ↦ inl (entry_of on.0, from_map entry_of after on.0 still, names_on)
              | inr gone ↦ inr (named_given entry_of handed given on.0 id is gone names_on)
            ]

        named_listed : (id : ℕ) → given ≡ Some id → IsNamed (map entry_of es) id
        named_listed id names = let pair = given_named entry_of handed given id is names in
            (entry_of pair.0, from_map entry_of es pair.0 (handed_there pair.0 pair.1), pair.2)

        given_up_listed : IsDistinct eq (keys_of after) → lookup (eq key) after ≡ Some value → AreNamedOnce (map entry_of es)
            → (entry : Entry) (id : ℕ) → given ≡ Some id → Names entry id → Contains (map entry_of es) entry
            → Contains (map entry_of after) entry → entry ≡ new
        given_up_listed distinct_now found once entry id names its there still =
            let pair = given_named entry_of handed given id is names in
            let was = from_map entry_of es pair.0 (handed_there pair.0 pair.1) in
            let on = to_map entry_of after entry still in
            let alike : entry_of on.0 ≡ entry_of pair.0 = on.2 ∙ once entry (entry_of pair.0) id there was its pair.2 in
            let here = handed_gone distinct_now found pair.0 on.0 pair.1 on.1 (ap (λ (e : K × V). e.0) (tells.own on.0 pair.0 alike)) in
            sym on.2 ∙ ap entry_of here

        is_kept : UsedInFront K V eq → (now : Cache K V) → now ≡ record before { entries = after }
            → IsBounded eq now → lookup (eq key) now.entries ≡ Some value → KeepsEntry entry_of eq before now key new given
        is_kept front now same bounded_now found =
            let distinct_now : IsDistinct eq (keys_of after) = subst
            (λ (c : Cache K V). IsDistinct eq (keys_of c.entries)) same bounded_now.distinct in
            let found_now : lookup (eq key) after ≡ Some value = subst (λ (c : Cache K V). lookup (eq key) c.entries
            ≡ Some value) same found in
            subst (λ (c : Cache K V). KeepsEntry entry_of eq before c key new given) (sym same) (record {
              one = record {
                kept = from_map entry_of after (key, value) (Contains-from_lookup tells.same key value after found_now);
                only = only_listed;
                gone = gone_listed;
                named = named_listed;
                given_up = given_up_listed distinct_now found_now;
              };
              room = record {
                others = others_listed;
                no_fewer = omega (arith, length-map es entry_of, length-map after entry_of, only.no_fewer es capacity key value);
                capacity = refl;
              };
              used = λ keys stand unused few. front.kept_more es keys capacity key value stand unused (omega (arith, few));
            })

-- what is still there, or was forgotten by a full cache
module _ {K V : Type 0} (entry_of : K × V → Entry) where
  further : (before mid after : Cache K V) → Remembers entry_of before mid → Remembers entry_of mid after → Remembers entry_of before after
  further before mid after first second = record {
    entries = λ entry had. elim (first.entries entry had) [
      | inl there ↦ elim (second.entries entry there) [
        | inl still ↦ inl still
        | inr full ↦ inr (omega (arith, first.capacity, full))
      ]
      | inr full ↦ inr (omega (arith, full, second.no_fewer))
    ];
    no_fewer = omega (arith, first.no_fewer, second.no_fewer);
    capacity = second.capacity ∙ first.capacity;
  }

  makes_room : (before mid after : Cache K V) (key : K) → ((value : V) → Contains (map entry_of before.entries) (entry_of (key, value)) → ⊥)
      → Remembers entry_of before mid → MakesRoom entry_of mid after key
      → Remembers entry_of before after
  makes_room before mid after key none first room = record {
    entries = λ entry had. elim (first.entries entry had) [
      | inl there ↦ elim (room.others entry there) [
        | inl still ↦ inl still
        | inr other ↦ elim other [
          | inl own ↦ absurd (none own.0 (subst (Contains (map entry_of before.entries)) own.1 had))
          | inr full ↦ inr (omega (arith, first.capacity, full, room.no_fewer))
        ]
      ]
      | inr full ↦ inr (omega (arith, full, room.no_fewer))
    ];
    no_fewer = omega (arith, first.no_fewer, room.no_fewer);
    capacity = room.capacity ∙ first.capacity;
  }

no_value : {V : Type 0} (value : V) → Some value ≡ None → ⊥
no_value value is = cc

-- a look-up, by what the map finds under the key
module _ {K V : Type 0} (eq : K → K → Bool) (equal : IsEquivalence eq) (only : OnlyKept K V eq) (front : UsedInFront K V eq)
    (entry_of : K × V → Entry) (tells : TellsKeys eq entry_of) (before after : Cache K V) (bounded : IsBounded eq before) (key : K)
    (same : after ≡ record before { entries = looked eq before.entries key }) where
  leaves : LeavesEntries entry_of before after
  leaves = is_looked eq equal only entry_of before after key same

  exact : (result : Option V) → result ≡ lookup (eq key) before.entries → (value : V)
      → Contains (map entry_of before.entries) (entry_of (key, value)) → result ≡ Some value
  exact result is value there =
      let found = listed_found eq equal only entry_of before.entries bounded.distinct (entry_of (key, value)) there in
      is ∙ subst (λ (e : K × V). lookup (eq e.0) before.entries ≡ Some e.1) (tells.own found.0 (key, value) found.2) found.1

  looked_up : (result : Option V) → result ≡ lookup (eq key) before.entries → IsLookedUp entry_of eq before after key result
  looked_up None is = record {
    found = tt;
    exact = exact None is;
    leaves = leaves;
    missed = λ none. same ∙ (λ i. record before { entries = front.looked_none before.entries key (sym is) i });
    used = λ keys stand. missed_unused eq equal front before.entries keys key stand (sym is);
  }
  looked_up (Some value) is = record {
    found = leaves.same.there (entry_of (key, value)) (from_map entry_of before.entries (key, value)
        (Contains-from_lookup tells.same key value before.entries (sym is)));
    exact = exact (Some value) is;
    leaves = leaves;
    missed = λ none. absurd (no_value value none);
    used = λ keys stand. subst (λ (c : Cache K V). AreInFront eq c.entries (with_key eq keys key)) (sym same)
        (found_used eq equal front before.entries keys key stand (rw (sym is) refl));
  }

pub keeping : {K V : Type 0} (eq : K → K → Bool) → IsEquivalence eq → OnlyKept K V eq → UsedInFront K V eq → HandsBack K V eq
    → Keeping K V eq
keeping eq equal only front back = record {
  looked = λ entry_of tells before after bounded key result is same.
      looked_up eq equal only front entry_of tells before after bounded key same result is;
  kept = λ entry_of tells before after bounded still key value same found given is.
      is_kept eq equal only back entry_of tells before bounded key value given is front after same still found;
  further = further;
  makes_room = makes_room;
}
