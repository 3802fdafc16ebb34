-- How clauses climb: what has been climbed over points to an item above it, and has its bucket.
use Rattle.std.proofs.Common.{◌≡◌, ℕ, ◌+◌, ◌-◌, ◌<◌, ◌≤◌, ◌⊎◌, ◌≢◌, inl, inr, Bool, true, List, Option, None, Some, length, set}
use Rattle.std.proofs.Common.{slice_index, slice_index_or, refl, sym, ap, ◌∙◌, subst, arith, get_or-set_same, get_or-set_other, length-set}
use Rattle.std.proofs.lemmas.Bool.{cases_eq, cases_lt}
use Rattle.std.proofs.lemmas.Option.{none-some, same_Some}
use Rattle.schedule_plan.specs.declared.occurrence.Occurrence.{Occurrence}

abbrev pub no_occurrence : Occurrence
no_occurrence = record { place = 0; clause = 0 }

abbrev pub place_at : List Occurrence → ℕ → ℕ
place_at occurrences k = (slice_index_or occurrences k no_occurrence).place

abbrev pub clause_at : List Occurrence → ℕ → ℕ
clause_at occurrences k = (slice_index_or occurrences k no_occurrence).clause

abbrev pub above_at : List (Option ℕ) → ℕ → Option ℕ
above_at above item = slice_index_or above item None

-- Items: the clauses, and then the results. How often a clause is inside an item, which variables it holds, by their
-- places, and the first one of an item.
pub record Items : Type 0 where
  pub clauses : ℕ
  pub variables : ℕ
  pub amount : ℕ → ℕ → ℕ
  pub held : ℕ → ℕ → Bool
  pub first : ℕ → ℕ
  pub occurrences : List Occurrence
  pub fresh : List ℕ

abbrev pub count : Items → ℕ
count s = s.clauses + s.variables

-- the occurrences are sorted, each is one, and all are there
pub record AreSorted (s : Items) : Type 0 where
  pub sorted : (i j : ℕ) → i ≤ j → j < length s.occurrences → place_at s.occurrences i ≤ place_at s.occurrences j
  pub sound : (k : ℕ) → k < length s.occurrences
      → (place_at s.occurrences k < s.variables) × (clause_at s.occurrences k < s.clauses)
      × (s.held (place_at s.occurrences k) (clause_at s.occurrences k) ≡ true)
  pub complete : (place clause : ℕ) → place < s.variables → clause < s.clauses → s.held place clause ≡ true
      → (k : ℕ) × (k < length s.occurrences) × (place_at s.occurrences k ≡ place) × (clause_at s.occurrences k ≡ clause)

-- what is used of the bucket plan
pub record AreFacts (s : Items) : Type 0 where
  pub own : (clause : ℕ) → clause < s.clauses → 0 < s.amount clause clause
  pub alone : (item clause : ℕ) → item < s.clauses → 0 < s.amount item clause → item ≡ clause
  pub closed : (place clause : ℕ) → place < s.variables → clause < s.clauses → s.held place clause ≡ true → 0
      < s.amount (s.clauses + place) clause
  pub meets : (item place clause : ℕ) → item < s.clauses + place → place < s.variables → 0 < s.amount item clause → 0
      < s.amount (s.clauses + place) clause
      → (s.first item ≤ place) × ((other : ℕ) → 0 < s.amount item other → 0 < s.amount (s.clauses + place) other)
  pub first_held : (item : ℕ) → item < count s → s.first item < s.variables
      → (clause : ℕ) × (clause < s.clauses) × (0 < s.amount item clause) × (s.held (s.first item) clause ≡ true)
  pub later : (item : ℕ) → item < count s → item < s.clauses + s.first item
  pub unheld : (item : ℕ) → item < count s → s.variables ≤ s.first item → slice_index s.fresh item ≡ s.first item

-- among the first occurrences
abbrev pub IsSeen : Items → ℕ → ℕ → ℕ → Type 0
IsSeen s n place clause = (k : ℕ) × (k < n) × (place_at s.occurrences k ≡ place) × (clause_at s.occurrences k ≡ clause)

-- after the first occurrences
pub record IsClimbed (s : Items) (n : ℕ) (buckets : List ℕ) (above : List (Option ℕ)) : Type 0 where
  pub buckets_count : length buckets ≡ count s
  pub above_count : length above ≡ count s
  pub none : (item : ℕ) → item < count s → above_at above item ≡ None
      → (slice_index buckets item ≡ slice_index s.fresh item)
      × ((place clause : ℕ) → IsSeen s n place clause → item < s.clauses + place → 0 < s.amount item clause → ⊥)
  pub some : (item up : ℕ) → item < count s → above_at above item ≡ Some up
      → (slice_index buckets item ≡ s.first item)
      × ((place : ℕ) × (clause : ℕ) × IsSeen s n place clause × (up ≡ s.clauses + place) × (item < up) × (0 < s.amount item clause))

-- While the clause of the next occurrence climbs: what changed is below the item that it has come to.
pub record IsClimbing (s : Items) (n : ℕ) (start : List ℕ) (starts : List (Option ℕ)) (buckets : List ℕ) (above : List (Option ℕ))
    (at : ℕ) : Type 0 where
  pub buckets_count : length buckets ≡ count s
  pub above_count : length above ≡ count s
  pub inside : 0 < s.amount at (clause_at s.occurrences n)
  pub frontier : (item : ℕ) → item < s.clauses + place_at s.occurrences n → 0 < s.amount item (clause_at s.occurrences n)
      → above_at above item ≡ None → at ≤ item
  pub changed : (item : ℕ) → item < count s
      → ((above_at above item ≡ above_at starts item) × (slice_index buckets item ≡ slice_index start item))
      ⊎ ((item < at) × (item < s.clauses + place_at s.occurrences n) × (0 < s.amount item (clause_at s.occurrences n))
      × (above_at above item ≡ Some (s.clauses + place_at s.occurrences n)) × (slice_index buckets item ≡ s.first item))

pub climb_first : (s : Items) (n : ℕ) (buckets : List ℕ) (above : List (Option ℕ)) → AreFacts s → AreSorted s → n < length s.occurrences
    → IsClimbed s n buckets above → IsClimbing s n buckets above buckets above (clause_at s.occurrences n)
climb_first s n buckets above facts all small before =
    let one = all.sound n small in
    record {
      buckets_count = before.buckets_count;
      above_count = before.above_count;
      inside = facts.own (clause_at s.occurrences n) one.1;
      frontier = λ item below has none. elim (cases_lt item s.clauses) [
        | inl early ↦ omega (arith, facts.alone item (clause_at s.occurrences n) early has)
        | inr late ↦ omega (arith, one.1, late)
      ];
      changed = λ item within. inl (refl, refl);
    }

-- an item that is climbed over and has its clause in a further one: the further one is a bucket's result
further : (s : Items) (item other clause : ℕ) → AreFacts s → item < other → 0 < s.amount item clause → 0 < s.amount other clause → s.clauses
    ≤ other
further s item other clause facts less has others =
    elim (cases_lt other s.clauses) [
      | inl early ↦ absurd (omega (
        arith,
        less,
        facts.alone item clause (omega (arith, less, early)) has,
        facts.alone other clause early others,
      ))
      | inr late ↦ late
    ]

-- an item that no clause climbed over has no variable that was seen
not_before : (s : Items) (n item : ℕ) (buckets : List ℕ) (above : List (Option ℕ)) → AreFacts s → AreSorted s → n < length s.occurrences
    → IsClimbed s n buckets above → item < count s → above_at above item ≡ None → place_at s.occurrences n ≤ s.first item
not_before s n item buckets above facts all small before within none =
    elim (cases_lt (s.first item) (place_at s.occurrences n)) [
      | inl early ↦
          let inner : s.first item < s.variables = omega (arith, early, (all.sound n small).0) in
          let held = facts.first_held item within inner in
          let seen = all.complete (s.first item) held.0 inner held.1 held.3 in
          let sooner : seen.0 < n = elim (cases_lt seen.0 n) [
            | inl soon ↦ soon
            | inr late ↦ absurd (omega (arith, all.sorted n seen.0 late seen.1, seen.2, early))
          ] in
          absurd ((before.none item within none).1 (s.first item) held.0 (seen.0, sooner, seen.2, seen.3) (facts.later item within) held.2)
      | inr late ↦ late
    ]

-- what the start had, where nothing changed yet
untouched : (s : Items) (n : ℕ) (start : List ℕ) (starts : List (Option ℕ)) (buckets : List ℕ) (above : List (Option ℕ)) (at item : ℕ)
    → IsClimbing s n start starts buckets above at → item < count s → at ≤ item
    → (above_at above item ≡ above_at starts item) × (slice_index buckets item ≡ slice_index start item)
untouched s n start starts buckets above at item now within late =
    elim (now.changed item within) [
      | inl same ↦ same
      | inr passed ↦ absurd (omega (arith, passed.0, late))
    ]

unset : (above : List (Option ℕ)) (at item up : ℕ) → at < length above → above_at (set above at (Some up)) item ≡ None → (item ≢ at)
    × (above_at above item ≡ None)
unset above at item up small none =
    elim (cases_eq item at) [
      | inl same ↦ absurd (none-some up (sym none ∙ ap (above_at (set above at (Some up))) same
          ∙ get_or-set_same above at (Some up) None small))
      | inr differ ↦ (differ, sym (get_or-set_other above at item (Some up) None differ) ∙ none)
    ]

was_none : (s : Items) (n : ℕ) (start : List ℕ) (starts : List (Option ℕ)) (buckets : List ℕ) (above : List (Option ℕ)) (at item : ℕ)
    → IsClimbing s n start starts buckets above at → item < count s → above_at above item ≡ None → above_at starts item ≡ None
was_none s n start starts buckets above at item now within none =
    elim (now.changed item within) [
      | inl same ↦ sym same.0 ∙ none
      | inr passed ↦ absurd (none-some (s.clauses + place_at s.occurrences n) (sym none ∙ passed.3))
    ]

pub climb_next : (s : Items) (n : ℕ) (start : List ℕ) (starts : List (Option ℕ)) (buckets : List ℕ) (above : List (Option ℕ)) (at next : ℕ)
    → AreFacts s → AreSorted s → n < length s.occurrences → IsClimbed s n start starts
    → IsClimbing s n start starts buckets above at → at < s.clauses + place_at s.occurrences n → above_at above at ≡ Some next
    → (at < next) × IsClimbing s n start starts buckets (set above at (Some (s.clauses + place_at s.occurrences n))) next
climb_next s n start starts buckets above at next facts all small before now below points =
    let top = s.clauses + place_at s.occurrences n in
    let clause = clause_at s.occurrences n in
    let one = all.sound n small in
    let within : at < count s = omega (arith, below, one.0) in
    let kept = untouched s n start starts buckets above at at now within (omega arith) in
    let old = before.some at next within (sym kept.0 ∙ points) in
    let place = old.1.0 in
    let other = old.1.1 in
    let seen = all.sound old.1.2.0 (omega (arith, old.1.2.1, small)) in
    let inner : place < s.variables = omega (arith, seen.0, old.1.2.2) in
    let number : other < s.clauses = omega (arith, seen.1, old.1.2.3) in
    let held : s.held place other ≡ true = ap (λ p. s.held p other) (sym old.1.2.2)
    ∙ ap (s.held (place_at s.occurrences old.1.2.0)) (sym old.1.2.3) ∙ seen.2 in
    let upper = facts.meets at place other (omega (arith, old.1.3, old.1.4)) inner old.1.5 (facts.closed place other inner number held) in
    let length_is : at < length above = omega (arith, within, now.above_count) in (
      old.1.4,
      record {
        buckets_count = now.buckets_count;
        above_count = length-set above at (Some top) ∙ now.above_count;
        inside = subst (λ (item : ℕ). 0 < s.amount item clause) (sym old.1.3) (upper.1 clause now.inside);
        frontier = λ item lower has none.
            let free = unset above at item top length_is none in
            let there : item < count s = omega (arith, lower, one.0) in
            let after : at < item = omega (arith, now.frontier item lower has free.1, free.0) in
            elim (cases_lt item next) [
              | inl early ↦
                  let result = further s at item clause facts after now.inside has in
                  let q = item - s.clauses in
                  let is : item ≡ s.clauses + q = omega (arith, result) in
                  let has_q : 0 < s.amount (s.clauses + q) clause = subst (λ (i : ℕ). 0 < s.amount i clause) is has in
                  let all_of = facts.meets at q clause (omega (arith, after, is)) (omega (arith, there, is)) now.inside has_q in
                  let has_other : 0 < s.amount item other = subst (λ (i : ℕ). 0 < s.amount i other) (sym is) (all_of.1 other old.1.5) in
                  absurd ((before.none item there (was_none s n start starts buckets above at item now there free.1)).1 place other old.1.2
                  (omega (arith, early, old.1.3)) has_other)
              | inr late ↦ late
            ];
        changed = λ item there. elim (cases_eq item at) [
          | inl same ↦ inr (
            omega (arith, same, old.1.4),
            omega (arith, same, below),
            subst (λ (i : ℕ). 0 < s.amount i clause) (sym same) now.inside,
            ap (above_at (set above at (Some top))) same ∙ get_or-set_same above at (Some top) None length_is,
            ap (slice_index buckets) same ∙ kept.1 ∙ old.0 ∙ ap s.first (sym same),
          )
          | inr differ ↦
              let same : above_at (set above at (Some top)) item
              ≡ above_at above item = get_or-set_other above at item (Some top) None differ in
              elim (now.changed item there) [
                | inl as_before ↦ inl (same ∙ as_before.0, as_before.1)
                | inr passed ↦ inr (omega (arith, passed.0, old.1.4), passed.1, passed.2, same ∙ passed.3, passed.4)
              ]
        ];
      },
    )

pub climb_root : (s : Items) (n : ℕ) (start : List ℕ) (starts : List (Option ℕ)) (buckets : List ℕ) (above : List (Option ℕ)) (at : ℕ)
    → AreFacts s → AreSorted s → n < length s.occurrences → IsClimbed s n start starts
    → IsClimbing s n start starts buckets above at → at < s.clauses + place_at s.occurrences n → above_at above at ≡ None
    → IsClimbing s n start starts (set buckets at (place_at s.occurrences n)) (set above at (Some (s.clauses + place_at s.occurrences n)))
    (s.clauses + place_at s.occurrences n)
climb_root s n start starts buckets above at facts all small before now below points =
    let place = place_at s.occurrences n in
    let top = s.clauses + place in
    let clause = clause_at s.occurrences n in
    let one = all.sound n small in
    let within : at < count s = omega (arith, below, one.0) in
    let length_is : at < length above = omega (arith, within, now.above_count) in
    let buckets_are : at < length buckets = omega (arith, within, now.buckets_count) in
    let unseen : place ≤ s.first at = not_before s n at start starts facts all small before within
    (was_none s n start starts buckets above at at now within points) in
    let inside_top : 0 < s.amount top clause = facts.closed place clause one.0 one.1 one.2 in
    let upper = facts.meets at place clause below one.0 now.inside inside_top in
    let first_is : place ≡ s.first at = omega (arith, unseen, upper.0) in
    record {
      buckets_count = length-set buckets at place ∙ now.buckets_count;
      above_count = length-set above at (Some top) ∙ now.above_count;
      inside = inside_top;
      frontier = λ item lower has none.
          let free = unset above at item top length_is none in
          let after : at < item = omega (arith, now.frontier item lower has free.1, free.0) in
          let result = further s at item clause facts after now.inside has in
          let q = item - s.clauses in
          let is : item ≡ s.clauses + q = omega (arith, result) in
          let has_q : 0 < s.amount (s.clauses + q) clause = subst (λ (i : ℕ). 0 < s.amount i clause) is has in
          let all_of = facts.meets at q clause (omega (arith, after, is)) (omega (arith, lower, is, one.0)) now.inside has_q in
          absurd (omega (arith, all_of.0, first_is, lower, is));
      changed = λ item there. elim (cases_eq item at) [
        | inl same ↦ inr (
          omega (arith, same, below),
          omega (arith, same, below),
          subst (λ (i : ℕ). 0 < s.amount i clause) (sym same) now.inside,
          ap (above_at (set above at (Some top))) same ∙ get_or-set_same above at (Some top) None length_is,
          ap (slice_index (set buckets at place)) same ∙ get_or-set_same buckets at place 0 buckets_are ∙ first_is ∙ ap s.first (sym same),
        )
        | inr differ ↦
            let same : above_at (set above at (Some top)) item ≡ above_at above item = get_or-set_other above at item
            (Some top) None differ in
            let bucket : slice_index (set buckets at place) item
            ≡ slice_index buckets item = get_or-set_other buckets at item place 0 differ in
            elim (now.changed item there) [
              | inl as_before ↦ inl (same ∙ as_before.0, bucket ∙ as_before.1)
              | inr passed ↦ inr (passed.1, passed.1, passed.2, same ∙ passed.3, bucket ∙ passed.4)
            ]
      ];
    }

seen_more : (s : Items) (n place clause : ℕ) → IsSeen s n place clause → IsSeen s (n + 1) place clause
seen_more s n place clause seen = (seen.0, omega (arith, seen.1), seen.2, seen.3)

pub climb_last : (s : Items) (n : ℕ) (start : List ℕ) (starts : List (Option ℕ)) (buckets : List ℕ) (above : List (Option ℕ)) (at : ℕ)
    → IsClimbed s n start starts → IsClimbing s n start starts buckets above at → s.clauses + place_at s.occurrences n ≤ at
    → IsClimbed s (n + 1) buckets above
climb_last s n start starts buckets above at before now past = record {
  buckets_count = now.buckets_count;
  above_count = now.above_count;
  none = λ item within none.
      let old = before.none item within (was_none s n start starts buckets above at item now within none) in (
        elim (now.changed item within) [
          | inl same ↦ same.1 ∙ old.0
          | inr passed ↦ absurd (none-some (s.clauses + place_at s.occurrences n) (sym none ∙ passed.3))
        ],
        λ place clause seen lower has. elim (cases_lt seen.0 n) [
          | inl early ↦ old.1 place clause (seen.0, early, seen.2, seen.3) lower has
          | inr late ↦
              let is : seen.0 ≡ n = omega (arith, late, seen.1) in
              let place_is : place ≡ place_at s.occurrences n = sym seen.2 ∙ ap (place_at s.occurrences) is in
              let clause_is : clause ≡ clause_at s.occurrences n = sym seen.3 ∙ ap (clause_at s.occurrences) is in
              omega (
                arith,
                past,
                place_is,
                lower,
                now.frontier item (omega (arith, lower, place_is))
                    (subst (λ (i : ℕ). 0 < s.amount item i) clause_is has) none,
              )
        ],
      );
  some = λ item up within points. elim (now.changed item within) [
    | inl same ↦
        let old = before.some item up within (sym same.0 ∙ points) in
        (same.1 ∙ old.0, (old.1.0, old.1.1, seen_more s n old.1.0 old.1.1 old.1.2, old.1.3, old.1.4, old.1.5))
    | inr passed ↦
        let is : up ≡ s.clauses + place_at s.occurrences n = same_Some up (s.clauses + place_at s.occurrences n) (sym points ∙ passed.3) in (
          passed.4,
          (
            place_at s.occurrences n,
            clause_at s.occurrences n,
            (n, omega arith, refl, refl),
            is,
            omega (arith, is, passed.1),
            passed.2,
          ),
        )
  ];
}

-- At the end each item has its bucket.
pub climbed_all : (s : Items) (buckets : List ℕ) (above : List (Option ℕ)) → AreFacts s → AreSorted s
    → IsClimbed s (length s.occurrences) buckets above → (item : ℕ) → item < count s → slice_index buckets item ≡ s.first item
climbed_all s buckets above facts all done item within =
    elim (above_at above item) as (λ o. above_at above item ≡ o → slice_index buckets item ≡ s.first item) [
      | Some up ↦ λ points. (done.some item up within points).0
      | None ↦ λ none.
          let old = done.none item within none in
          elim (cases_lt (s.first item) s.variables) [
            | inl inner ↦
                let held = facts.first_held item within inner in
                absurd (old.1 (s.first item) held.0 (all.complete (s.first item) held.0 inner held.1 held.3)
                (facts.later item within) held.2)
            | inr outer ↦ old.0 ∙ facts.unheld item within outer
          ]
    ] refl
