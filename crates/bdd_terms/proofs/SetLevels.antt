-- The levels of a set's variables, each once, in their order.
use Rattle.std.proofs.Common.{◌≡◌, ◌∙◌, ◌++◌, ◌+◌, ◌<◌, ◌≤◌, ◌⊎◌, ◌||◌, ℕ, zero, suc, Bool, true, false, List, [], ◌∷◌, Contains, length}
use Rattle.std.proofs.Common.{map, reverse, take, ◌-◌, Result, Ok, Err, refl, sym, ap, subst, arith, inl, inr, eq-eqb, eqb-true}
use Rattle.std.specs.Prelude.{slice_index_or, ◌==◌, cond, IfOk, IsPermutation}
use Rattle.std.specs.List.Sorted.{IsNonDecreasingBy}
use Rattle.std.specs.List.{filter}
use Rattle.std.proofs.lemmas.Bool.{cases_eq, or_cases, or_left, or_right}
use Rattle.std.proofs.lemmas.List.Elements.{Contains-append_cases, Contains-append_left, Contains-append_right, filter-append}
use Rattle.std.proofs.lemmas.List.Sorted.{Contains-permutation, IsPermutation-sym}
use Rattle.std.proofs.lemmas.List.{map-append, reverse-append}
use Rattle.node_table.specs.Diagram.{Graph, IsOrder, levels, variable_at}
use Rattle.quantify.specs.SomeValues.{AreRising}
use Rattle.schedule_plan.specs.ScheduleState.{is_among}
use Rattle.bdd_terms.specs.Sets.{AreLevelsOf, AreOnce, AreSetLevels}

-- so many numbers from the first on
abbrev pub from : ℕ → ℕ → List ℕ
from first zero = []
from first (suc count) = first ∷ from (suc first) count

-- numbers of a rising list are at least the first that may come
pub at_least : (first bound : ℕ) (set : List ℕ) → AreRising first bound set → (n : ℕ) → Contains set n → (first ≤ n) × (n < bound)
at_least first bound [] rising n there = absurd (omega (arith, there.1))
at_least first bound (level ∷ more) rising n (zero, small, at) = (omega (arith, rising.0, at), omega (arith, rising.1.0, at))
at_least first bound (level ∷ more) rising n (suc k, small, at) =
    let further = at_least (level + 1) bound more rising.1.1 n (k, omega (arith, small), at) in
    (omega (arith, further.0, rising.0), further.1)

later_first : (first bound : ℕ) (set : List ℕ) → AreRising first bound set → ((n : ℕ) → Contains set n → first ≡ n → ⊥)
    → AreRising (suc first) bound set
later_first first bound [] rising differ = tt
later_first first bound (level ∷ more) rising differ = (
  elim (cases_eq first level) [
    | inl same ↦ absurd (differ level (zero, omega arith, refl) same)
    | inr other ↦ omega (arith, rising.0, other)
  ],
  rising.1,
)

-- a rising list of the numbers that pass a test
pub rising_is : (test : ℕ → Bool) (count first : ℕ) (set : List ℕ) → AreRising first (first + count) set
    → ((n : ℕ) → Contains set n → test n ≡ true) → ((n : ℕ) → first ≤ n → n < first + count → test n ≡ true → Contains set n)
    → filter test (from first count) ≡ set
rising_is test zero first [] rising passes all = refl
rising_is test zero first (level ∷ more) rising passes all = absurd (omega (arith, rising.0, rising.1.0))
rising_is test (suc count) first set rising passes all =
    go (λ list up pass each. rising_is test count (suc first) list up pass each) (test first) refl
  where
    bound : suc first + count ≡ first + suc count
    bound = omega arith

    go : ((list : List ℕ) → AreRising (suc first) (suc first + count) list → ((n : ℕ) → Contains list n → test n ≡ true)
        → ((n : ℕ) → suc first ≤ n → n < suc first + count → test n ≡ true → Contains list n)
        → filter test (from (suc first) count) ≡ list)
        → (b : Bool) → test first ≡ b → filter test (from first (suc count)) ≡ set
    go further false is =
        ap (λ (b : Bool). cond b (first ∷ filter test (from (suc first) count)) (filter test (from (suc first) count))) is
        ∙ further set
        (subst (λ (n : ℕ). AreRising (suc first) n set) (sym bound) (later_first first (first + suc count) set rising
        (λ n there same. let e : true ≡ false = sym (passes n there) ∙ ap test (sym same) ∙ is in cc)))
        passes (λ n less small own. all n (omega (arith, less)) (omega (arith, small)) own)
    go further true is =
        ap (λ (b : Bool). cond b (first ∷ filter test (from (suc first) count)) (filter test (from (suc first) count))) is
        ∙ with_first set rising passes all
      where
        first_or_later : (x : ℕ) (xs : List ℕ) (n : ℕ) → Contains (x ∷ xs) n → (x ≡ n) ⊎ Contains xs n
        first_or_later x xs n (zero, small, at) = inl at
        first_or_later x xs n (suc k, small, at) = inr (k, omega (arith, small), at)

        with_first : (list : List ℕ) → AreRising first (first + suc count) list → ((n : ℕ) → Contains list n → test n ≡ true)
            → ((n : ℕ) → first ≤ n → n < first + suc count → test n ≡ true → Contains list n)
            → first ∷ filter test (from (suc first) count) ≡ list
        with_first [] up pass each = absurd (let none = each first (omega arith) (omega arith) is in omega (arith, none.1))
        with_first (level ∷ more) up pass each = elim (cases_eq first level) [
          | inl same ↦
              let shift : level + 1 ≡ suc first = omega (arith, same) in
              let tail = further more
              (subst (λ (n : ℕ). AreRising n (suc first + count) more) shift
              (subst (λ (n : ℕ). AreRising (level + 1) n more) (sym bound) up.1.1))
              (λ n there. pass n (suc there.0, omega (arith, there.1), there.2))
              (λ n less small own. elim (first_or_later level more n (each n (omega (arith, less)) (omega (arith, small)) own)) [
                | inl at ↦ absurd (omega (arith, at, same, less))
                | inr there ↦ there
              ]) in
              (λ k. same k ∷ tail k)
          | inr other ↦ absurd (let there = at_least (level + 1) (first + suc count) more up.1.1 first
              (elim (first_or_later level more first (each first (omega arith) (omega arith) is)) [
                | inl at ↦ absurd (other (sym at))
                | inr later ↦ later
              ]) in omega (arith, there.0, up.0))
        ]

-- a list is its elements by their places
shifted : (x : ℕ) (xs : List ℕ) (first count : ℕ) → map (λ (i : ℕ). slice_index_or (x ∷ xs) i 0) (from (suc first) count)
    ≡ map (λ (i : ℕ). slice_index_or xs i 0) (from first count)
shifted x xs first zero = refl
shifted x xs first (suc count) = ap (λ (l : List ℕ). slice_index_or xs first 0 ∷ l) (shifted x xs (suc first) count)

by_places : (xs : List ℕ) → map (λ (i : ℕ). slice_index_or xs i 0) (from 0 (length xs)) ≡ xs
by_places [] = refl
by_places (x ∷ xs) = ap (λ (l : List ℕ). x ∷ l) (shifted x xs 0 (length xs) ∙ by_places xs)

filter_map : (f : ℕ → ℕ) (test : ℕ → Bool) (xs : List ℕ) → filter test (map f xs) ≡ map f (filter (λ (x : ℕ). test (f x)) xs)
filter_map f test [] = refl
filter_map f test (x ∷ xs) = go (test (f x)) (filter_map f test xs)
  where
    go : (b : Bool) → filter test (map f xs) ≡ map f (filter (λ (x : ℕ). test (f x)) xs)
        → cond b (f x ∷ filter test (map f xs)) (filter test (map f xs))
        ≡ map f (cond b (x ∷ filter (λ (x : ℕ). test (f x)) xs) (filter (λ (x : ℕ). test (f x)) xs))
    go true same = ap (λ (l : List ℕ). f x ∷ l) same
    go false same = same

pub filter_reverse : (test : ℕ → Bool) (xs : List ℕ) → filter test (reverse xs) ≡ reverse (filter test xs)
filter_reverse test [] = refl
filter_reverse test (x ∷ xs) = ap (filter test) (reverse-append (x ∷ []) xs) ∙ filter-append test (reverse xs) (x ∷ []) ∙ go (test x) (filter_reverse test xs)
  where
    append_none : (l : List ℕ) → l ++ [] ≡ l
    append_none [] = refl
    append_none (y ∷ l) = ap (λ (m : List ℕ). y ∷ m) (append_none l)

    go : (b : Bool) → filter test (reverse xs) ≡ reverse (filter test xs)
        → filter test (reverse xs) ++ cond b (x ∷ []) [] ≡ reverse (cond b (x ∷ filter test xs) (filter test xs))
    go true same = ap (λ (l : List ℕ). l ++ x ∷ []) same ∙ sym (reverse-append (x ∷ []) (filter test xs))
    go false same = append_none (filter test (reverse xs)) ∙ same

pub map_reverse : (f : ℕ → ℕ) (xs : List ℕ) → map f (reverse xs) ≡ reverse (map f xs)
map_reverse f [] = refl
map_reverse f (x ∷ xs) = ap (map f) (reverse-append (x ∷ []) xs) ∙ map-append f (reverse xs) (x ∷ [])
    ∙ ap (λ (l : List ℕ). l ++ f x ∷ []) (map_reverse f xs) ∙ sym (reverse-append (f x ∷ []) (map f xs))

-- the levels that were found, each once and rising, are those of the set
pub set_levels : (graph : Graph) (xs found once : List ℕ) → AreLevelsOf graph xs found → AreOnce found once → AreSetLevels graph xs once
set_levels graph xs found once are each =
    let test : ℕ → Bool = λ level. is_among xs (variable_at graph level) in
    let rising = each.rising (levels graph) (λ n there. (are.each n (each.was n there)).0) in
    let bound : levels graph ≡ 0 + levels graph = omega arith in
    let same : filter test (from 0 (levels graph)) ≡ once = rising_is test (levels graph) 0 once
    (subst (λ (n : ℕ). AreRising 0 n once) bound rising) (λ n there. (are.each n (each.was n there)).1)
    (λ n less small own. each.there n (are.all n (omega (arith, small)) own)) in
    record {
      rising = rising;
      falls = ap (λ (l : List ℕ). map (variable_at graph) (reverse l)) (sym same)
          ∙ map_reverse (variable_at graph) (filter test (from 0 (levels graph)))
          ∙ ap reverse (sym (filter_map (variable_at graph) (is_among xs) (from 0 (levels graph))))
          ∙ ap (λ (l : List ℕ). reverse (filter (is_among xs) l)) (by_places graph.order)
          ∙ sym (filter_reverse (is_among xs) graph.order);
    }

among_more : (xs : List ℕ) (x y : ℕ) → is_among (xs ++ x ∷ []) y ≡ (is_among xs y || (y == x))
among_more [] x y = go (y == x)
  where
    go : (b : Bool) → (b || false) ≡ (false || b)
    go true = refl
    go false = refl
among_more (z ∷ xs) x y = ap (λ (b : Bool). (y == z) || b) (among_more xs x y) ∙ sym (or_assoc (y == z) (is_among xs y) (y == x))
  where
    or_assoc : (a b c : Bool) → ((a || b) || c) ≡ (a || (b || c))
    or_assoc true b c = refl
    or_assoc false b c = refl

module _ (graph : Graph) (ordered : IsOrder graph.order) (xs found : List ℕ) (x : ℕ) (are : AreLevelsOf graph xs found) where
  pub found_more : (level : ℕ) → level < levels graph → variable_at graph level ≡ x → AreLevelsOf graph (xs ++ x ∷ []) (found ++ level ∷ [])
  found_more level within at = record {
    each = λ other there. elim (Contains-append_cases found (level ∷ []) other there) [
      | inl was ↦
          let own = are.each other was in
          (own.0, among_more xs x (variable_at graph other) ∙ or_left (is_among xs (variable_at graph other)) _ own.1)
      | inr last ↦
          let same = alone level other last in (
            subst (λ (n : ℕ). n < levels graph) same within,
            among_more xs x (variable_at graph other)
                ∙ or_right (is_among xs (variable_at graph other)) _ (eq-eqb (variable_at graph other) x (ap (variable_at graph) (sym same) ∙ at)),
          )
    ];
    all = λ other small own. elim (or_cases (is_among xs (variable_at graph other)) _ (sym (among_more xs x (variable_at graph other)) ∙ own)) [
      | inl was ↦ Contains-append_left found (level ∷ []) other (are.all other small was)
      | inr same ↦
          let is : other ≡ level = ordered.apart other level small within (eqb-true (variable_at graph other) x same ∙ sym at) in
          Contains-append_right found (level ∷ []) other (zero, omega arith, sym is)
    ];
  }
    where
      alone : (n m : ℕ) → Contains (n ∷ []) m → n ≡ m
      alone n m (zero, small, is) = is
      alone n m (suc k, small, is) = absurd (omega (arith, small))

  pub found_none : ((level : ℕ) → level < levels graph → variable_at graph level ≡ x → ⊥) → AreLevelsOf graph (xs ++ x ∷ []) found
  found_none none = record {
    each = λ other was.
        let own = are.each other was in
        (own.0, among_more xs x (variable_at graph other) ∙ or_left (is_among xs (variable_at graph other)) _ own.1);
    all = λ other small own. elim (or_cases (is_among xs (variable_at graph other)) _ (sym (among_more xs x (variable_at graph other)) ∙ own)) [
      | inl was ↦ are.all other small was
      | inr same ↦ absurd (none other small (eqb-true (variable_at graph other) x same))
    ];
  }

-- sorted, they are found still
pub found_sorted : (graph : Graph) (xs before after : List ℕ) → IsPermutation before after → AreLevelsOf graph xs before
    → AreLevelsOf graph xs after
found_sorted graph xs before after moved are = record {
  each = λ level there. are.each level (Contains-permutation after before level (IsPermutation-sym before after moved) there);
  all = λ level small own. Contains-permutation before after level moved (are.all level small own);
}

rising_more : (first bound : ℕ) (set : List ℕ) (n : ℕ) → AreRising first bound set → first ≤ n → ((m : ℕ) → Contains set m → m < n) → n < bound
    → AreRising first bound (set ++ n ∷ [])
rising_more first bound [] n rising from_first less below = (from_first, (below, tt))
rising_more first bound (level ∷ more) n rising from_first less below = (
  rising.0,
  (
    rising.1.0,
    rising_more (level + 1) bound more n rising.1.1 (let own = less level (zero, omega arith, refl) in omega (arith, own))
        (λ m there. less m (suc there.0, omega (arith, there.1), there.2)) below,
  ),
)

-- all that came are below the next one
pub once_more : (numbers once : List ℕ) (n : ℕ) → ((m : ℕ) → Contains numbers m → m < n) → AreOnce numbers once
    → AreOnce (numbers ++ n ∷ []) (once ++ n ∷ [])
once_more numbers once n less are = record {
  was = λ m there. either once numbers m are.was there;
  there = λ m there. either numbers once m are.there there;
  rising = λ bound below. rising_more 0 bound once n
      (are.rising bound (λ m there. below m (Contains-append_left once (n ∷ []) m there))) (omega arith)
      (λ m there. less m (are.was m there)) (below n (Contains-append_right once (n ∷ []) n (zero, omega arith, refl)));
}
  where
    either : (one other : List ℕ) (m : ℕ) → ((m : ℕ) → Contains one m → Contains other m) → Contains (one ++ n ∷ []) m
        → Contains (other ++ n ∷ []) m
    either one other m each there = elim (Contains-append_cases one (n ∷ []) m there) [
      | inl was ↦ Contains-append_left other (n ∷ []) m (each m was)
      | inr last ↦ Contains-append_right other (n ∷ []) m last
    ]

-- the next one came before
pub once_again : (numbers once : List ℕ) (n : ℕ) → Contains numbers n → AreOnce numbers once → AreOnce (numbers ++ n ∷ []) once
once_again numbers once n again are = record {
  was = λ m there. Contains-append_left numbers (n ∷ []) m (are.was m there);
  there = λ m there. elim (Contains-append_cases numbers (n ∷ []) m there) [
    | inl was ↦ are.there m was
    | inr last ↦ are.there m (subst (Contains numbers) (alone n m last) again)
  ];
  rising = are.rising;
}
  where
    alone : (n m : ℕ) → Contains (n ∷ []) m → n ≡ m
    alone n m (zero, small, is) = is
    alone n m (suc k, small, is) = absurd (omega (arith, small))

-- no more levels rise than there are below the bound
pub rising_few : (first bound : ℕ) (set : List ℕ) → AreRising first bound set → first ≤ bound → first + length set ≤ bound
rising_few first bound [] rising within = omega (arith, within)
rising_few first bound (level ∷ more) rising within =
    let further = rising_few (level + 1) bound more rising.1.1 (omega (arith, rising.1.0)) in
    omega (arith, further, rising.0)

-- what stands in a list, and in its front
pub in_list : (xs : List ℕ) (k : ℕ) → k < length xs → Contains xs (slice_index_or xs k 0)
in_list [] k small = absurd (omega (arith, small))
in_list (x ∷ xs) zero small = (zero, omega arith, refl)
in_list (x ∷ xs) (suc k) small =
    let further = in_list xs k (omega (arith, small)) in
    (suc further.0, omega (arith, further.1), further.2)

pub in_take : (xs : List ℕ) (k place : ℕ) → k < place → k < length xs → Contains (take place xs) (slice_index_or xs k 0)
in_take [] k place before small = absurd (omega (arith, small))
in_take (x ∷ xs) k zero before small = absurd (omega (arith, before))
in_take (x ∷ xs) zero (suc place) before small = (zero, omega arith, refl)
in_take (x ∷ xs) (suc k) (suc place) before small =
    let further = in_take xs k place (omega (arith, before)) (omega (arith, small)) in
    (suc further.0, omega (arith, further.1), further.2)

of_take : (xs : List ℕ) (place m : ℕ) → Contains (take place xs) m → (k : ℕ) × (k < place) × (k < length xs) × (slice_index_or xs k 0 ≡ m)
of_take [] zero m there = absurd (omega (arith, there.1))
of_take [] (suc place) m there = absurd (omega (arith, there.1))
of_take (x ∷ xs) zero m there = absurd (omega (arith, there.1))
of_take (x ∷ xs) (suc place) m (zero, small, at) = (zero, omega arith, omega arith, at)
of_take (x ∷ xs) (suc place) m (suc k, small, at) =
    let further = of_take xs place m (k, omega (arith, small), at) in
    (suc further.0, omega (arith, further.1), omega (arith, further.2), further.3)

-- of a sorted list, what stands before a place is below what stands there, where the one before it differs
pub below_next : (sorted : List ℕ) (place : ℕ) → IsNonDecreasingBy (λ (n : ℕ). n) sorted → place < length sorted
    → (place ≡ 0) ⊎ (slice_index_or sorted (place - 1) 0 ≡ slice_index_or sorted place 0 → ⊥) → (m : ℕ) → Contains (take place sorted) m
    → m < slice_index_or sorted place 0
below_next sorted place up small differs m there = elim differs [
  | inl first ↦ let own = of_take sorted place m there in absurd (omega (arith, first, own.1))
  | inr other ↦
      let own = of_take sorted place m there in
      let last = up own.0 (place - 1) 0 (omega (arith, own.1)) (omega (arith, small)) in
      let next = up (place - 1) place 0 (omega arith) small in
      elim (cases_eq (slice_index_or sorted (place - 1) 0) (slice_index_or sorted place 0)) [
        | inl same ↦ absurd (other same)
        | inr less ↦ omega (arith, less, last, next, own.3)
      ]
]

-- what holds of an answer
pub ok_from : {T E : Type 0} (r : Result T E) (P Q : T → Type 0) → ((x : T) → P x → Q x) → IfOk r P → IfOk r Q
ok_from (Ok x) P Q each own = each x own
ok_from (Err e) P Q each own = tt
