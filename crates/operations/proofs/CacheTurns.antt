-- A bounded cache is purged by turns of its last entry.
use Rattle.std.proofs.Common.{◌≡◌, ◌+◌, ◌-◌, ◌<◌, ℕ, zero, suc, Bool, true, false, cond, List, [], ◌∷◌, length, map, drop, slice_get}
use Rattle.std.proofs.Common.{Contains, None, Some, arith, refl, sym, ap, ◌∙◌, subst, inl, inr}
use Rattle.std.specs.Cmp.{IsEquivalence}
use Rattle.std.specs.List.{IsDistinct, filter}
use Rattle.std.specs.Map.{keys_of}
use Rattle.std.proofs.lemmas.Bool.{cases_Bool}
use Rattle.std.proofs.lemmas.List.{drop_all, drop-map, get_or-drop, get_or-map, length-drop, length-map}
use Rattle.std.proofs.lemmas.List.Elements.{All-contains, All-from_recursion}
use Rattle.node_table.specs.Laws.{StepByStep}
use Rattle.node_table.specs.Table.{TableState, IsSound}
use Rattle.op_cache.specs.Cache.{Cache, IsBounded, last_of, looked, without_last}
use Rattle.op_cache.specs.Laws.{TakesTurns}
use Rattle.operations.specs.Caches.{TellsKeys, listed}
use Rattle.operations.specs.Entries.{Entry, Fits, Fitting}
use Rattle.operations.specs.Purged.{IsPurged, MayRetire, Purging, PurgingTurns, are_marked}
use Rattle.operations.specs.Turns.{CacheTurns, HadTurns, HasTurn, HaveRetired, RetiresTurn, TableTurns, is_kept}
use Rattle.operations.proofs.Cached.{equal_keys, to_map}

module _ {X : Type 0} where
  -- a place within the list has an element, and the list behind the places before it begins with it
  there_is : (i : ℕ) (xs : List X) → i < length xs → (x : X) × (slice_get xs i ≡ Some x)
  there_is i [] within = absurd (omega arith)
  there_is zero (x ∷ xs) within = (x, refl)
  there_is (suc i) (x ∷ xs) within = there_is i xs (omega arith)

  cut_before : (i : ℕ) (xs : List X) (x : X) → slice_get xs i ≡ Some x → drop i xs ≡ x ∷ drop (suc i) xs
  cut_before i [] x is = cc
  cut_before zero (y ∷ xs) x is = let same : y ≡ x = cc in ap (λ e. e ∷ xs) same
  cut_before (suc i) (y ∷ xs) x is = cut_before i xs x is

  from_drop : (i : ℕ) (xs : List X) (x : X) → Contains (drop i xs) x → Contains xs x
  from_drop i xs x there = (i + there.0, omega (arith, there.1, length-drop i xs), sym (get_or-drop i xs there.0 x) ∙ there.2)

module _ {K V : Type 0} (eq : K → K → Bool) (equal : IsEquivalence eq) where
  key_there : (es : List (K × V)) (e : K × V) → Contains es e → Contains (keys_of es) e.0
  key_there es e there = let key = λ (p : K × V). p.0 in
      (there.0, omega (arith, length-map es key, there.1), get_or-map key es there.0 e e.0 there.1 ∙ ap key there.2)

  -- none of those behind an entry has its key
  behind_apart : (n : ℕ) (es : List (K × V)) (own e : K × V) → IsDistinct eq (keys_of es) → slice_get es n ≡ Some own
      → Contains (drop (suc n) es) e → e.0 ≡ own.0 → ⊥
  unfolding IsDistinct
  behind_apart n [] own e distinct is there same = cc
  behind_apart zero (x ∷ es) own e distinct is there same =
      let here : x ≡ own = cc in
      let apart : eq x.0 e.0 ≡ false = All-contains (λ k. eq x.0 k ≡ false) (keys_of es) e.0
      (All-from_recursion (λ k. eq x.0 k ≡ false) (keys_of es) distinct.0) (key_there es e there) in
      let alike : eq x.0 e.0 ≡ true = equal_keys eq equal x.0 e.0 (ap (λ f. f.0) here ∙ sym same) in
      cc
  behind_apart (suc n) (x ∷ es) own e distinct is there same = behind_apart n es own e distinct.1 is there same

module _ {K V : Type 0} (eq : K → K → Bool) (law : TakesTurns K V eq) (entry_of : K × V → Entry) (marks : List Bool) where
  -- the entries of the pairs that stay are those whose nodes are marked
  kept_listed : (es : List (K × V)) → map entry_of (filter (is_kept entry_of marks) es) ≡ filter (are_marked marks) (map entry_of es)
  kept_listed [] = refl
  kept_listed (e ∷ es) = let rest = filter (is_kept entry_of marks) es in
      elim (is_kept entry_of marks e) as (λ b. map entry_of (cond b (e ∷ rest) rest)
      ≡ cond b (entry_of e ∷ filter (are_marked marks) (map entry_of es)) (filter (are_marked marks) (map entry_of es))) [
        | true ↦ ap (λ l. entry_of e ∷ l) (kept_listed es)
        | false ↦ kept_listed es
      ]

  begins : (cache : Cache K V) → HadTurns entry_of marks cache cache 0
  begins cache = record {
    cache = ap (λ (es : List (K × V)). record cache { entries = es })
        (sym (law.begins (is_kept entry_of marks) cache.entries));
  }

  ends : (before after : Cache K V) → HadTurns entry_of marks before after (length before.entries)
      → (listed entry_of after ≡ filter (are_marked marks) (listed entry_of before)) × (after.capacity ≡ before.capacity)
  ends before after had = (
    ap (λ (c : Cache K V). map entry_of c.entries) had.cache ∙ ap (map entry_of) (law.ends (is_kept entry_of marks) before.entries)
        ∙ kept_listed before.entries,
    ap (λ (c : Cache K V). c.capacity) had.cache,
  )

  -- so many turns, and one more to come
  module _ (before middle : Cache K V) (turns : ℕ) (within : turns
      < length before.entries) (had : HadTurns entry_of marks before middle turns) where
    abbrev place : ℕ
    place = length before.entries - turns - 1

    last_is : last_of middle.entries ≡ slice_get before.entries place
    last_is = ap (λ (c : Cache K V). last_of c.entries) had.cache ∙ law.shows (is_kept entry_of marks) before.entries turns within

    there_last : (last : K × V) × (last_of middle.entries ≡ Some last)
    there_last = let there = there_is place before.entries (omega (arith, within)) in (there.0, last_is ∙ there.1)

    turn : (after : Cache K V) → IsBounded eq before
        → ((last : K × V) → last_of middle.entries ≡ Some last → HasTurn entry_of marks eq middle after last)
        → HadTurns entry_of marks before after (turns + 1)
    turn after bounded each =
        let last = there_last.0 in
        let one = each last there_last.1 in
        let at = sym last_is ∙ there_last.1 in
        record {
          cache = elim (cases_Bool (is_kept entry_of marks last)) [
            | inl stays ↦
                one.stays stays
                ∙ ap (λ (c : Cache K V). record c { entries = looked eq c.entries last.0 }) had.cache
                ∙ ap (λ (es : List (K × V)). record before { entries = es })
                (law.kept (is_kept entry_of marks) before.entries turns last bounded.distinct within at stays)
            | inr goes ↦
                one.goes goes
                ∙ ap (λ (c : Cache K V). record c { entries = without_last c.entries }) had.cache
                ∙ ap (λ (es : List (K × V)). record before { entries = es })
                (law.gone (is_kept entry_of marks) before.entries turns last within at goes)
          ];
        }

    -- the entry whose turn it is stands before those that had theirs
    behind_more : (last : K × V) → last_of middle.entries ≡ Some last
        → map entry_of (drop (length before.entries - (turns + 1)) before.entries)
        ≡ entry_of last ∷ map entry_of (drop (length before.entries - turns) before.entries)
    behind_more last is =
        let next : length before.entries - (turns + 1) ≡ place = omega (arith, within) in
        let here : suc place ≡ length before.entries - turns = omega (arith, within) in
        ap (λ k. map entry_of (drop k before.entries)) next
        ∙ ap (map entry_of) (cut_before place before.entries last (sym last_is ∙ is))
        ∙ ap (λ k. entry_of last ∷ map entry_of (drop k before.entries)) here

    alone : IsEquivalence eq → TellsKeys eq entry_of → IsBounded eq before → (last : K × V) → last_of middle.entries ≡ Some last
        → Contains (map entry_of (drop (length before.entries - turns) before.entries)) (entry_of last) → ⊥
    alone equal tells_keys bounded last is there =
        let here : length before.entries - turns ≡ suc place = omega (arith, within) in
        let by = to_map entry_of (drop (suc place) before.entries) (entry_of last)
        (subst (λ k. Contains (map entry_of (drop k before.entries)) (entry_of last)) here there) in
        behind_apart eq equal place before.entries last by.0 bounded.distinct (sym last_is ∙ is) by.1 (ap (λ (e : K × V). e.0) (tells_keys.own by.0 last by.2))

-- The table beside it.
module _ {S : Type 0} {K V : Type 0} (eq : K → K → Bool) (equal : IsEquivalence eq) (law : TakesTurns K V eq) (fitting : Fitting S) (purging : Purging S)
    (one_by_one : PurgingTurns S) (step_by_step : StepByStep S) (entry_of : K × V → Entry) (marks : List Bool) where
  table_begins : (old : TableState S) (cache : Cache K V) → IsSound old → HaveRetired entry_of marks old old cache 0
  table_begins old cache sound = record {
    rest = [];
    purged = subst (λ (es : List (K × V)). IsPurged old old marks (map entry_of es) [])
        (sym (drop_all (length cache.entries - 0) cache.entries (omega arith)))
        (purging.plain old marks [] (λ entry there. absurd (omega (arith, there.1))));
    steps = step_by_step.none old sound;
  }

  table_ends : (old new : TableState S) (before after : Cache K V) → HadTurns entry_of marks before after (length before.entries)
      → HaveRetired entry_of marks old new before (length before.entries)
      → IsPurged old new marks (listed entry_of before) (listed entry_of after)
  table_ends old new before after had have =
      let none : length before.entries - length before.entries ≡ 0 = omega arith in
      let purged : IsPurged old new marks (listed entry_of before) have.rest = subst
      (λ k. IsPurged old new marks (map entry_of (drop k before.entries)) have.rest) none have.purged in
      subst (IsPurged old new marks (listed entry_of before)) (purged.stays ∙ sym (ends eq law entry_of marks before after had).0) purged

  module _ (old now : TableState S) (before middle : Cache K V) (turns : ℕ) (tells_keys : TellsKeys eq entry_of)
      (bounded : IsBounded eq before) (within : turns < length before.entries)
      (fits : Fits old (listed entry_of before)) (had : HadTurns entry_of marks before middle turns)
      (have : HaveRetired entry_of marks old now before turns) where
    abbrev behind : List Entry
    behind = map entry_of (drop (length before.entries - turns) before.entries)

    fits_behind : (n : ℕ) → Fits old (map entry_of (drop n before.entries))
    fits_behind n = fitting.fewer old (map entry_of (drop n before.entries)) (listed entry_of before)
        (λ entry there. from_drop n (map entry_of before.entries) entry
        (subst (λ (l : List Entry). Contains l entry) (sym (drop-map entry_of n before.entries)) there)) fits

    may : (last : K × V) → last_of middle.entries ≡ Some last → MayRetire now (entry_of last)
    may last is = one_by_one.may old now marks behind have.rest (entry_of last)
        (subst (Fits old) (behind_more eq law entry_of marks before middle turns within had last is)
        (fits_behind (length before.entries - (turns + 1))))
        (alone eq law entry_of marks before middle turns within had equal tells_keys bounded last is) have.purged

    table_turn : (new : TableState S) → ((last : K × V) → last_of middle.entries ≡ Some last
        → RetiresTurn entry_of marks now new last)
        → HaveRetired entry_of marks old new before (turns + 1)
    table_turn new each =
        let there = there_last eq law entry_of marks before middle turns within had in
        let last = there.0 in
        let one = each last there.1 in
        let more = behind_more eq law entry_of marks before middle turns within had last there.1 in
        elim (cases_Bool (is_kept entry_of marks last)) [
          | inl stays ↦ subst (λ (t : TableState S). HaveRetired entry_of marks old t before (turns + 1))
              (sym (one.stays stays)) (record {
                rest = entry_of last ∷ have.rest;
                purged = subst (λ (l : List Entry). IsPurged old now marks l (entry_of last ∷ have.rest)) (sym more)
                    (one_by_one.stays old now marks behind have.rest (entry_of last) have.purged stays);
                steps = have.steps;
              })
          | inr goes ↦
              let gone = one.goes goes in
              record {
                rest = have.rest;
                purged = subst (λ (l : List Entry). IsPurged old new marks l have.rest) (sym more)
                    (one_by_one.goes old now new marks behind have.rest (entry_of last) gone.0 have.purged goes gone.1
                    (may last there.1) gone.2);
                steps = step_by_step.further old now new 0 0 None have.steps gone.2.steps;
              }
        ]

pub cache_turns : {K V : Type 0} (eq : K → K → Bool) → TakesTurns K V eq → CacheTurns K V eq
cache_turns eq law = record {
  begins = λ entry_of marks cache. begins eq law entry_of marks cache;
  turn = λ entry_of marks before middle after turns bounded within had each.
      turn eq law entry_of marks before middle turns within had after bounded each;
  ends = λ entry_of marks before after had. ends eq law entry_of marks before after had;
}

pub table_turns : {S : Type 0} {K V : Type 0} (eq : K → K → Bool) → IsEquivalence eq → TakesTurns K V eq
    → Fitting S → Purging S
    → PurgingTurns S → StepByStep S → TableTurns S K V eq
table_turns eq equal law fitting purging one_by_one step_by_step = record {
  begins = table_begins eq equal law fitting purging one_by_one step_by_step;
  may = λ entry_of marks old now before middle turns last tells_keys bounded within fits had have is.
      may eq equal law fitting purging one_by_one step_by_step entry_of marks old now before middle turns tells_keys bounded
      within fits had have last is;
  turn = λ entry_of marks old now new before middle turns tells_keys bounded within fits had have each.
      table_turn eq equal law fitting purging one_by_one step_by_step entry_of marks old now before middle turns tells_keys
      bounded within fits had have new each;
  ends = table_ends eq equal law fitting purging one_by_one step_by_step;
}
