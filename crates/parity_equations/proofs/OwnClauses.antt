-- The clauses of equations: over their variables, and none of them twice.
use Rattle.std.proofs.Common.{◌≡◌, ◌≢◌, ◌⊎◌, ◌∙◌, ◌<◌, ◌≤◌, ◌+◌, ◌-◌, ◌++◌, ◌&&◌, ◌||◌, ℕ, zero, suc, Bool, true, false, not, ℤ, pos, negsuc, neg_ℤ, List, [], ◌∷◌}
use Rattle.std.proofs.Common.{All, Contains, Some, length, map, nat_abs, int_eq, get_or, refl, sym, ap, subst, arith, inl, inr, eq-eqb, ne_eqb}
use Rattle.std.proofs.Common.{length-append}
use Rattle.std.specs.Prelude.{nat_eq, nat_le, nat_lt, slice_index_or, if◌then◌else◌}
use Rattle.std.specs.Cmp.Lexicographic.{pointwise}
use Rattle.std.specs.List.{AllByRecursion, IsDistinct, flat_map, list_all, list_any}
use Rattle.std.specs.Option.{unwrap_or}
use Rattle.std.proofs.lemmas.Bool.{and_parts, eqb-true, leb-true, or_cases}
use Rattle.std.proofs.lemmas.Bool.Decides.{Decides-int_eq}
use Rattle.std.proofs.lemmas.List.{length-map}
use Rattle.std.proofs.lemmas.List.Elements.{Contains-append_cases}
use Rattle.std.proofs.lemmas.List.Sorted.{length_permutation, list_any-IsPermutation}
use Rattle.std.proofs.lemmas.Map.Keys.{IsDistinct-cons}
use Rattle.std.proofs.lemmas.Map.Steps.{length-le_from_distinct_below}
use Rattle.parity_equations.specs.declared.equations.Equation.{Equation}
use Rattle.parity_equations.specs.Equations.{denied, equations, equations_over, first_from, has_equation, has_exactly, sets_but}
use Rattle.parity_equations.specs.LiteralSet.{has_both_signs, is_candidate, literal_set, variables_of}
use Rattle.parity_equations.specs.OwnClauses.{OwnClauses}
use Rattle.parity_equations.specs.Walk.{AreRisingUpTo, IsEquationOf, listed}
use Rattle.parity_equations.proofs.Sets.{any_of_set}

-- elements of lists
later : {X : Type 0} (first : X) (list : List X) (x : X) → Contains list x → Contains (first ∷ list) x
later first list x there = (suc there.0, let small = there.1 in omega (arith, small), there.2)

here : {X : Type 0} (x : X) (list : List X) → Contains (x ∷ list) x
here x list = (zero, omega arith, refl)

first_or_later : {X : Type 0} (first : X) (list : List X) (x : X) → Contains (first ∷ list) x → (first ≡ x) ⊎ Contains list x
first_or_later first list x there = by_place there.0 there.1 there.2
  where
    by_place : (k : ℕ) → k < length (first ∷ list) → get_or (first ∷ list) k x ≡ x → (first ≡ x) ⊎ Contains list x
    by_place zero small at = inl at
    by_place (suc k) small at = inr (k, omega (arith, small), at)

none_of_none : {X : Type 0} (x : X) → Contains [] x → ⊥
none_of_none x there = let small = there.1 in omega (arith, small)

-- an element of a mapped list
record IsImage {X Y : Type 0} (f : X → Y) (list : List X) (y : Y) : Type 0 where
  from : X
  among : Contains list from
  is : f from ≡ y

image_of : {X Y : Type 0} (f : X → Y) (list : List X) (y : Y) → Contains (map f list) y → IsImage f list y
image_of f [] y there = absurd (none_of_none y there)
image_of f (x ∷ list) y there = elim (first_or_later (f x) (map f list) y there) [
  | inl is ↦ record { from = x; among = here x list; is = is }
  | inr more ↦ let rest = image_of f list y more in record { from = rest.from; among = later x list rest.from rest.among; is = rest.is }
]

image_among : {X Y : Type 0} (f : X → Y) (list : List X) (x : X) → Contains list x → Contains (map f list) (f x)
image_among f [] x there = absurd (none_of_none x there)
image_among f (first ∷ list) x there = elim (first_or_later first list x there) [
  | inl is ↦ subst (λ y. Contains (f first ∷ map f list) (f y)) is (here (f first) (map f list))
  | inr more ↦ later (f first) (map f list) (f x) (image_among f list x more)
]

-- no element stands twice
abbrev Apart : {X : Type 0} → List X → Type 0
Apart [] = Unit {0}
Apart (x ∷ list) = (Contains list x → ⊥) × Apart list

apart_append : {X : Type 0} (one other : List X) → Apart one → Apart other → ((x : X) → Contains one x → Contains other x → ⊥)
    → Apart (one ++ other)
apart_append [] other apart apart_other never = apart_other
apart_append (x ∷ one) other apart apart_other never = (
  λ there. elim (Contains-append_cases one other x there) [
    | inl again ↦ apart.0 again
    | inr too ↦ never x (here x one) too
  ],
  apart_append one other apart.1 apart_other (λ y there too. never y (later x one y there) too),
)

apart_map : {X Y : Type 0} (f : X → Y) (list : List X) → ((x y : X) → f x ≡ f y → x ≡ y) → Apart list → Apart (map f list)
apart_map f [] injective apart = tt
apart_map f (x ∷ list) injective apart = (
  λ there. let from = image_of f list (f x) there in
      apart.0 (subst (λ y. Contains list y) (injective from.from x from.is) from.among),
  apart_map f list injective apart.1,
)

-- an element of joined lists
record IsOfPart {X Y : Type 0} (f : X → List Y) (list : List X) (y : Y) : Type 0 where
  part : X
  among : Contains list part
  there : Contains (f part) y

part_of : {X Y : Type 0} (f : X → List Y) (list : List X) (y : Y) → Contains (flat_map f list) y → IsOfPart f list y
part_of f [] y there = absurd (none_of_none y there)
part_of f (x ∷ list) y there = elim (Contains-append_cases (f x) (flat_map f list) y there) [
  | inl own ↦ record { part = x; among = here x list; there = own }
  | inr more ↦ let rest = part_of f list y more in record { part = rest.part; among = later x list rest.part rest.among; there = rest.there }
]

apart_parts : {X Y : Type 0} (f : X → List Y) (list : List X) → ((x : X) → Contains list x → Apart (f x))
    → ((x z : X) (y : Y) → Contains list x → Contains list z → Contains (f x) y → Contains (f z) y → x ≡ z) → Apart list
    → Apart (flat_map f list)
apart_parts f [] each same apart = tt
apart_parts f (x ∷ list) each same apart =
    apart_append (f x) (flat_map f list) (each x (here x list))
    (apart_parts f list (λ z there. each z (later x list z there))
    (λ z w y in_z in_w one two. same z w y (later x list z in_z) (later x list w in_w) one two) apart.1)
    (λ y own more. let other = part_of f list y more in
    let is = same x other.part y (here x list) (later x list other.part other.among) own other.there in
    apart.0 (subst (λ z. Contains list z) (sym is) other.among))

-- a test of elements
any_of : (test : ℤ → Bool) (list : List ℤ) (x : ℤ) → test x ≡ true → Contains list x → list_any test list ≡ true
any_of test [] x is there = absurd (none_of_none x there)
any_of test (first ∷ list) x is there = elim (first_or_later first list x there) [
  | inl same ↦ ap (λ b. b || list_any test list) (ap test same ∙ is)
  | inr more ↦ ap (λ b. test first || b) (any_of test list x is more) ∙ or_true (test first)
]
  where
    or_true : (b : Bool) → (b || true) ≡ true
    or_true true = refl
    or_true false = refl

there_of : (x : ℤ) (list : List ℤ) → list_any (int_eq x) list ≡ true → Contains list x
there_of x [] is = absurd (let e : false ≡ true = is in cc)
there_of x (first ∷ list) is = elim (or_cases (int_eq x first) (list_any (int_eq x) list) is) [
  | inl same ↦ subst (λ y. Contains (first ∷ list) y) (sym ((Decides-int_eq x first).0 same)) (here first list)
  | inr more ↦ later first list x (there_of x list more)
]

number_there : (n : ℕ) (list : List ℕ) → list_any (nat_eq n) list ≡ true → Contains list n
number_there n [] is = absurd (let e : false ≡ true = is in cc)
number_there n (first ∷ list) is = elim (or_cases (nat_eq n first) (list_any (nat_eq n) list) is) [
  | inl same ↦ subst (λ y. Contains (first ∷ list) y) (sym (eqb-true n first same)) (here first list)
  | inr more ↦ later first list n (number_there n list more)
]

number_found : (n : ℕ) (list : List ℕ) → Contains list n → list_any (nat_eq n) list ≡ true
number_found n [] there = absurd (none_of_none n there)
number_found n (first ∷ list) there = elim (first_or_later first list n there) [
  | inl same ↦ ap (λ b. b || list_any (nat_eq n) list) (eq-eqb n first (sym same))
  | inr more ↦ ap (λ b. nat_eq n first || b) (number_found n list more) ∙ or_true (nat_eq n first)
]
  where
    or_true : (b : Bool) → (b || true) ≡ true
    or_true true = refl
    or_true false = refl

-- lists of literals that are tested as the same
same_lists : (one other : List ℤ) → pointwise int_eq one other ≡ true → one ≡ other
same_lists [] [] is = refl
same_lists [] (y ∷ other) is = absurd (let e : false ≡ true = is in cc)
same_lists (x ∷ one) [] is = absurd (let e : false ≡ true = is in cc)
same_lists (x ∷ one) (y ∷ other) is =
    let parts = and_parts (int_eq x y) (pointwise int_eq one other) is in
    let first = (Decides-int_eq x y).0 parts.0 in
    let rest = same_lists one other parts.1 in
    (λ i. first i ∷ rest i)

-- variables that are tested as the same, and those that are
numbers_itself : (list : List ℕ) → pointwise nat_eq list list ≡ true
numbers_itself [] = refl
numbers_itself (n ∷ list) = (λ i. eq-eqb n n refl i && numbers_itself list i)

-- a clause that has exactly these literals
exactly : (literals clause : List ℤ) → has_exactly literals clause ≡ true → (is_candidate clause ≡ true) × (literal_set clause ≡ literals)
exactly literals clause is =
    let parts = and_parts (is_candidate clause) (pointwise int_eq (literal_set clause) literals) is in
    (parts.0, same_lists (literal_set clause) literals parts.1)

-- The denied lists of an equation: their variables, and the parity of their signs.
abbrev odd_negatives : List ℤ → Bool
odd_negatives [] = false
odd_negatives (pos n ∷ literals) = odd_negatives literals
odd_negatives (negsuc n ∷ literals) = not (odd_negatives literals)

record IsDenied (bit : Bool) (variables : List ℕ) (wrong : List ℤ) : Type 0 where
  over : map nat_abs wrong ≡ variables
  parity : odd_negatives wrong ≡ not bit

is_denied : (bit : Bool) (variables : List ℕ) → AllByRecursion (λ n. 0 < n) variables → (wrong : List ℤ)
    → Contains (denied bit variables) wrong → IsDenied bit variables wrong
is_denied true [] positive wrong there = elim (first_or_later [] [] wrong there) [
  | inl is ↦ record { over = ap (map nat_abs) (sym is); parity = ap odd_negatives (sym is) }
  | inr more ↦ absurd (none_of_none wrong more)
]
is_denied false [] positive wrong there = absurd (none_of_none wrong there)
is_denied bit (zero ∷ more) positive wrong there = absurd (let some = positive.0 in omega (arith, some))
is_denied bit (suc n ∷ more) positive wrong there =
    elim (Contains-append_cases (map (λ rest. pos (suc n) ∷ rest) (denied bit more))
    (map (λ rest. neg_ℤ (pos (suc n)) ∷ rest) (denied (not bit) more)) wrong there) [
      | inl high ↦
          let from = image_of (λ rest. pos (suc n) ∷ rest) (denied bit more) wrong high in
          let rest = is_denied bit more positive.1 from.from from.among in
          record {
            over = ap (map nat_abs) (sym from.is) ∙ ap (λ l. suc n ∷ l) rest.over;
            parity = ap odd_negatives (sym from.is) ∙ rest.parity;
          }
      | inr low ↦
          let from = image_of (λ rest. neg_ℤ (pos (suc n)) ∷ rest) (denied (not bit) more) wrong low in
          let rest = is_denied (not bit) more positive.1 from.from from.among in
          record {
            over = ap (map nat_abs) (sym from.is) ∙ ap (λ l. suc n ∷ l) rest.over;
            parity = ap odd_negatives (sym from.is) ∙ ap not rest.parity ∙ twice bit;
          }
    ]
  where
    twice : (b : Bool) → not (not (not b)) ≡ not b
    twice true = refl
    twice false = refl

abbrev head_of : ℤ → List ℤ → ℤ
head_of d [] = d
head_of d (x ∷ list) = x

abbrev tail_of : List ℤ → List ℤ
tail_of [] = []
tail_of (x ∷ list) = list

-- they differ from one another
denied_apart : (bit : Bool) (variables : List ℕ) → AllByRecursion (λ n. 0 < n) variables → Apart (denied bit variables)
denied_apart true [] positive = (λ there. none_of_none [] there, tt)
denied_apart false [] positive = tt
denied_apart bit (zero ∷ more) positive = absurd (let some = positive.0 in omega (arith, some))
denied_apart bit (suc n ∷ more) positive =
    apart_append (map (λ rest. pos (suc n) ∷ rest) (denied bit more)) (map (λ rest. neg_ℤ (pos (suc n)) ∷ rest) (denied (not bit) more))
    (apart_map (λ rest. pos (suc n) ∷ rest) (denied bit more) (λ x y same. ap tail_of same) (denied_apart bit more positive.1))
    (apart_map (λ rest. neg_ℤ (pos (suc n)) ∷ rest) (denied (not bit) more) (λ x y same. ap tail_of same)
    (denied_apart (not bit) more positive.1))
    (λ wrong high low.
    let one = image_of (λ rest. pos (suc n) ∷ rest) (denied bit more) wrong high in
    let two = image_of (λ rest. neg_ℤ (pos (suc n)) ∷ rest) (denied (not bit) more) wrong low in
    let heads : pos (suc n) ≡ negsuc n = ap (head_of (pos 0)) (one.is ∙ sym two.is) in
    let wrong_sign : ◌≡◌ {A = ℤ} (pos (suc n)) (negsuc n) = heads in cc)

-- The number of the first clause with these literals.
record IsFirst (m : ℕ) (clauses : List (List ℤ)) (literals : List ℤ) (n : ℕ) : Type 0 where
  from : m ≤ n
  below : n < m + length clauses
  has : has_exactly literals (slice_index_or clauses (n - m) []) ≡ true

first_is : (m : ℕ) (clauses : List (List ℤ)) (literals : List ℤ) → list_any (has_exactly literals) clauses ≡ true
    → IsFirst m clauses literals (unwrap_or (first_from m clauses literals) 0)
first_is m [] literals has = absurd (let e : false ≡ true = has in cc)
first_is m (clause ∷ more) literals has = go (has_exactly literals clause) refl has (first_is (m + 1) more literals)
  where
    go : (b : Bool) → has_exactly literals clause ≡ b → (b || list_any (has_exactly literals) more) ≡ true
        → (list_any (has_exactly literals) more ≡ true → IsFirst (m + 1) more literals (unwrap_or (first_from (m + 1) more literals) 0))
        → IsFirst m (clause ∷ more) literals (unwrap_or (if b then Some m else first_from (m + 1) more literals) 0)
    go true is some rest = record {
      from = omega arith;
      below = omega arith;
      has = subst (λ k. has_exactly literals (slice_index_or (clause ∷ more) k []) ≡ true) (let e : 0 ≡ m - m = omega arith in e) is;
    }
    go false is some rest =
        let found = rest some in
        let n = unwrap_or (first_from (m + 1) more literals) 0 in
        let after = found.from in
        let within = found.below in
        let place : suc (n - (m + 1)) ≡ n - m = omega (arith, after) in
        record {
          from = omega (arith, after);
          below = omega (arith, within);
          has = subst (λ k. has_exactly literals (slice_index_or (clause ∷ more) k []) ≡ true) place found.has;
        }

-- lists of which each stands in the formula
abbrev AllStand : List (List ℤ) → List (List ℤ) → Type 0
AllStand clauses lists = (wrong : List ℤ) → Contains lists wrong → list_any (has_exactly wrong) clauses ≡ true

abbrev number_of : List (List ℤ) → List ℤ → ℕ
number_of clauses wrong = unwrap_or (first_from 1 clauses wrong) 0

-- two lists of one number are the same
one_list : (clauses : List (List ℤ)) (one other : List ℤ) → list_any (has_exactly one) clauses ≡ true
    → list_any (has_exactly other) clauses ≡ true → number_of clauses one ≡ number_of clauses other → one ≡ other
one_list clauses one other has has_other same =
    let first = exactly one (slice_index_or clauses (number_of clauses one - 1) []) (first_is 1 clauses one has).has in
    let second = exactly other (slice_index_or clauses (number_of clauses other - 1) []) (first_is 1 clauses other has_other).has in
    sym first.1 ∙ (λ i. literal_set (slice_index_or clauses (same i - 1) [])) ∙ second.1

numbers_differ : (clauses : List (List ℤ)) (wrong : List ℤ) (lists : List (List ℤ)) → list_any (has_exactly wrong) clauses ≡ true
    → AllStand clauses lists → (Contains lists wrong → ⊥)
    → AllByRecursion (λ y. nat_eq (number_of clauses wrong) y ≡ false) (map (number_of clauses) lists)
numbers_differ clauses wrong [] has all never = tt
numbers_differ clauses wrong (other ∷ lists) has all never = (
  ne_eqb (number_of clauses wrong) (number_of clauses other)
      (λ same. never (subst (λ w. Contains (other ∷ lists) w)
      (sym (one_list clauses wrong other has (all other (here other lists)) same)) (here other lists))),
  numbers_differ clauses wrong lists has (λ w there. all w (later other lists w there)) (λ there. never (later other lists wrong there)),
)

numbers_distinct : (clauses : List (List ℤ)) (lists : List (List ℤ)) → AllStand clauses lists → Apart lists
    → IsDistinct nat_eq (map (number_of clauses) lists)
unfolding IsDistinct
numbers_distinct clauses [] all apart = tt
numbers_distinct clauses (wrong ∷ lists) all apart =
    IsDistinct-cons nat_eq (number_of clauses wrong) (map (number_of clauses) lists)
    (numbers_differ clauses wrong lists (all wrong (here wrong lists)) (λ w there. all w (later wrong lists w there)) apart.0)
    (numbers_distinct clauses lists (λ w there. all w (later wrong lists w there)) apart.1)

-- so there are no more of them than clauses
few_lists : (clauses : List (List ℤ)) (lists : List (List ℤ)) → AllStand clauses lists → Apart lists → length lists ≤ length clauses
few_lists clauses lists all apart =
    let numbers = map (number_of clauses) lists in
    let few = length-le_from_distinct_below (0 ∷ numbers) (length clauses + 1)
    (IsDistinct-cons nat_eq 0 numbers (no_zero lists all) (numbers_distinct clauses lists all apart))
    (λ q there. elim (or_cases (nat_eq q 0) (list_any (nat_eq q) numbers) there) [
      | inl none ↦ let is = eqb-true q 0 none in omega (arith, is)
      | inr some ↦
          let from = image_of (number_of clauses) lists q (number_there q numbers some) in
          let within = (first_is 1 clauses from.from (all from.from from.among)).below in
          let is = from.is in
          omega (arith, within, is)
    ]) in
    omega (arith, few, length-map lists (number_of clauses))
  where
    no_zero : (lists : List (List ℤ)) → AllStand clauses lists → AllByRecursion (λ y. nat_eq 0 y ≡ false) (map (number_of clauses) lists)
    no_zero [] all = tt
    no_zero (wrong ∷ lists) all = (
      ne_eqb 0 (number_of clauses wrong) (λ same. let above = (first_is 1 clauses wrong (all wrong (here wrong lists))).from in
          omega (arith, same, above)),
      no_zero lists (λ w there. all w (later wrong lists w there)),
    )

-- the denied lists of an equation that the formula has
stand_all : (clauses lists : List (List ℤ)) → list_all (λ wrong. list_any (has_exactly wrong) clauses) lists ≡ true → AllStand clauses lists
stand_all clauses [] has wrong there = absurd (none_of_none wrong there)
stand_all clauses (first ∷ lists) has wrong there =
    let parts = and_parts (list_any (has_exactly first) clauses) _ has in
    elim (first_or_later first lists wrong there) [
      | inl same ↦ subst (λ w. list_any (has_exactly w) clauses ≡ true) same parts.0
      | inr more ↦ stand_all clauses lists parts.1 wrong more
    ]

positive : (last first : ℕ) (variables : List ℕ) → 0 < first → AreRisingUpTo last first variables → AllByRecursion (λ n. 0 < n) variables
positive last first [] some are = tt
positive last first (variable ∷ more) some are = (omega (arith, some, are.0), positive last (variable + 1) more (omega arith) are.1.1)

-- The sets of variables come once each.
lists_same : (one other : List ℕ) → pointwise nat_eq one other ≡ false → one ≢ other
lists_same one other differ same =
    let e : true ≡ false = sym (numbers_itself one) ∙ ap (pointwise nat_eq one) same ∙ differ in cc

unseen : (seen : List (List ℕ)) (clauses : List (List ℤ)) (v : List ℕ) → Contains (sets_but seen clauses) v
    → list_any (pointwise nat_eq v) seen ≡ false
unseen seen [] v there = absurd (none_of_none v there)
unseen seen (clause ∷ more) v there = go (is_candidate clause) (list_any (pointwise nat_eq (variables_of clause)) seen) refl there
    (unseen seen more v) (unseen (variables_of clause ∷ seen) more v)
  where
    go : (candidate was : Bool) → list_any (pointwise nat_eq (variables_of clause)) seen ≡ was
        → Contains (if candidate && not was then variables_of clause ∷ sets_but (variables_of clause ∷ seen) more else sets_but seen more) v
        → (Contains (sets_but seen more) v → list_any (pointwise nat_eq v) seen ≡ false)
        → (Contains (sets_but (variables_of clause ∷ seen) more) v → list_any (pointwise nat_eq v) (variables_of clause ∷ seen) ≡ false)
        → list_any (pointwise nat_eq v) seen ≡ false
    go false was is there rest rest_more = rest there
    go true true is there rest rest_more = rest there
    go true false is there rest rest_more =
        elim (first_or_later (variables_of clause) (sets_but (variables_of clause ∷ seen) more) v there) [
          | inl same ↦ subst (λ w. list_any (pointwise nat_eq w) seen ≡ false) same is
          | inr later_one ↦ right_false (pointwise nat_eq v (variables_of clause)) (list_any (pointwise nat_eq v) seen) (rest_more later_one)
        ]
      where
        right_false : (a b : Bool) → (a || b) ≡ false → b ≡ false
        right_false true b is = absurd (let e : true ≡ false = is in cc)
        right_false false b is = is

sets_apart : (seen : List (List ℕ)) (clauses : List (List ℤ)) → Apart (sets_but seen clauses)
sets_apart seen [] = tt
sets_apart seen (clause ∷ more) = go (is_candidate clause && not (list_any (pointwise nat_eq (variables_of clause)) seen))
    (sets_apart seen more) (sets_apart (variables_of clause ∷ seen) more)
  where
    left_false : (a b : Bool) → (a || b) ≡ false → a ≡ false
    left_false true b is = absurd (let e : true ≡ false = is in cc)
    left_false false b is = refl

    go : (b : Bool) → Apart (sets_but seen more) → Apart (sets_but (variables_of clause ∷ seen) more)
        → Apart (if b then variables_of clause ∷ sets_but (variables_of clause ∷ seen) more else sets_but seen more)
    go false rest rest_more = rest
    go true rest rest_more = (
      λ there. lists_same (variables_of clause) (variables_of clause)
          (left_false (pointwise nat_eq (variables_of clause) (variables_of clause)) (list_any (pointwise nat_eq (variables_of clause)) seen)
          (unseen (variables_of clause ∷ seen) more (variables_of clause) there)) refl,
      rest_more,
    )

-- an equation over a set is one of two
over_set : (clauses : List (List ℤ)) (v : List ℕ) (e : List ℕ × Bool) → Contains (equations_over clauses v) e → e.0 ≡ v
over_set clauses v e there = go (has_equation clauses v false) (has_equation clauses v true) there
  where
    go : (even odd : Bool) → Contains ((if even then (v, false) ∷ [] else []) ++ (if odd then (v, true) ∷ [] else [])) e → e.0 ≡ v
    go true true there = elim (first_or_later (v, false) ((v, true) ∷ []) e there) [
      | inl is ↦ ap (λ p. p.0) (sym is)
      | inr more ↦ elim (first_or_later (v, true) [] e more) [
        | inl is ↦ ap (λ p. p.0) (sym is)
        | inr none ↦ absurd (none_of_none e none)
      ]
    ]
    go true false there = elim (first_or_later (v, false) [] e there) [
      | inl is ↦ ap (λ p. p.0) (sym is)
      | inr none ↦ absurd (none_of_none e none)
    ]
    go false true there = elim (first_or_later (v, true) [] e there) [
      | inl is ↦ ap (λ p. p.0) (sym is)
      | inr none ↦ absurd (none_of_none e none)
    ]
    go false false there = absurd (none_of_none e there)

over_apart : (clauses : List (List ℤ)) (v : List ℕ) → Apart (equations_over clauses v)
over_apart clauses v = go (has_equation clauses v false) (has_equation clauses v true)
  where
    bits_differ : (p q : List ℕ × Bool) → p ≡ q → p.1 ≡ true → q.1 ≡ false → ⊥
    bits_differ p q same one other = let e : true ≡ false = sym one ∙ ap (λ r. r.1) same ∙ other in cc

    go : (even odd : Bool) → Apart {X = List ℕ × Bool} ((if even then (v, false) ∷ [] else []) ++ (if odd then (v, true) ∷ [] else []))
    go true true = (
      λ there. elim (first_or_later (v, true) [] (v, false) there) [
        | inl is ↦ bits_differ (v, true) (v, false) is refl refl
        | inr none ↦ none_of_none (v, false) none
      ],
      (λ none. none_of_none (v, true) none, tt),
    )
    go true false = (λ none. none_of_none (v, false) none, tt)
    go false true = (λ none. none_of_none (v, true) none, tt)
    go false false = tt

equations_apart : (clauses : List (List ℤ)) → Apart (equations clauses)
equations_apart clauses =
    apart_parts (equations_over clauses) (sets_but [] clauses) (λ v there. over_apart clauses v)
    (λ v w e in_v in_w one two. sym (over_set clauses v e one) ∙ over_set clauses w e two) (sets_apart [] clauses)

-- a candidate has few literals
few_literals : (clause : List ℤ) → is_candidate clause ≡ true → length (literal_set clause) ≤ 8
few_literals clause is =
    let tests = and_parts (not (has_both_signs clause)) (nat_lt 0 (length (literal_set clause)) && nat_le (length (literal_set clause)) 8) is in
    let sizes = and_parts (nat_lt 0 (length (literal_set clause))) (nat_le (length (literal_set clause)) 8) tests.1 in
    leb-true (length (literal_set clause)) 8 sizes.1

-- an equation of the formula, as a list of its denied lists
abbrev lists_of : List ℕ × Bool → List (List ℤ)
lists_of e = denied e.1 e.0

record IsHad (clauses : List (List ℤ)) (e : List ℕ × Bool) : Type 0 where
  positive : AllByRecursion (λ n. 0 < n) e.0
  has : has_equation clauses e.0 e.1 ≡ true

not_same : (b c : Bool) → not b ≡ not c → b ≡ c
not_same true true is = refl
not_same false false is = refl
not_same true false is = let e : false ≡ true = is in absurd (cc)
not_same false true is = let e : true ≡ false = is in absurd (cc)

all_lists_apart : (clauses : List (List ℤ)) (found : List (List ℕ × Bool)) → ((e : List ℕ × Bool) → Contains found e → IsHad clauses e)
    → Apart found → Apart (flat_map lists_of found)
all_lists_apart clauses found each apart =
    apart_parts lists_of found (λ e there. denied_apart e.1 e.0 (each e there).positive)
    (λ e f wrong in_e in_f one two.
    let first = is_denied e.1 e.0 (each e in_e).positive wrong one in
    let second = is_denied f.1 f.0 (each f in_f).positive wrong two in
    let over = sym first.over ∙ second.over in
    let bits = not_same e.1 f.1 (sym first.parity ∙ second.parity) in
    (λ i. (over i, bits i))) apart

all_lists_stand : (clauses : List (List ℤ)) (found : List (List ℕ × Bool)) → ((e : List ℕ × Bool) → Contains found e → IsHad clauses e)
    → AllStand clauses (flat_map lists_of found)
all_lists_stand clauses found each wrong there =
    let part = part_of lists_of found wrong there in
    stand_all clauses (lists_of part.part) (each part.part part.among).has wrong part.there

-- as many own clauses as denied lists
module _ (vars : ℕ) (clauses : List (List ℤ)) where
  as_many : (found : List Equation) → All (IsEquationOf vars clauses) found
      → length (flat_map (λ equation. equation.clauses.items) found) ≡ length (flat_map lists_of (map listed found))
  as_many [] all = refl
  as_many (equation ∷ found) all =
      let own = all 0 equation (omega arith) in
      let rest = as_many found (λ k d small. all (suc k) d (omega (arith, small))) in
      let here_one = length_permutation _ equation.clauses.items own.own.each in
      let firsts = length-map (denied equation.bit equation.variables.items) (number_of clauses) in
      let one = length-append equation.clauses.items (flat_map (λ equation. equation.clauses.items) found) in
      let other = length-append (lists_of (listed equation)) (flat_map lists_of (map listed found)) in
      omega (arith, rest, here_one, firsts, one, other)

  had : (found : List Equation) → All (IsEquationOf vars clauses) found → (e : List ℕ × Bool) → Contains (map listed found) e
      → IsHad clauses e
  had found all e there =
      let from = image_of listed found e there in
      let own = all from.among.0 from.from from.among.1 in
      let is : IsEquationOf vars clauses from.from = subst (IsEquationOf vars clauses) from.among.2 own in
      subst (IsHad clauses) from.is (record {
        positive = positive vars 1 from.from.variables.items (omega arith) is.rising;
        has = is.has;
      })

  no_more : (found : List Equation) → map listed found ≡ equations clauses → All (IsEquationOf vars clauses) found
      → length (flat_map (λ equation. equation.clauses.items) found) ≤ length clauses
  no_more found same all =
      let few = few_lists clauses (flat_map lists_of (map listed found))
      (all_lists_stand clauses (map listed found) (had found all))
      (all_lists_apart clauses (map listed found) (had found all)
      (subst (λ (l : List (List ℕ × Bool)). Apart l) (sym same) (equations_apart clauses))) in
      omega (arith, few, as_many found all)

  module _ (equation : Equation) (is : IsEquationOf vars clauses equation) where
    own_positive : AllByRecursion (λ n. 0 < n) equation.variables.items
    own_positive = positive vars 1 equation.variables.items (omega arith) is.rising

    -- each own number is that of a denied list's clause
    over : (number : ℕ) → Contains equation.clauses.items number → (literal : ℤ)
        → Contains (slice_index_or clauses (number - 1) []) literal → Contains equation.variables.items (nat_abs literal)
    over number there literal among =
        let lists = denied equation.bit equation.variables.items in
        let found = number_there number (map (number_of clauses) lists)
        (list_any-IsPermutation (nat_eq number) (map (number_of clauses) lists) equation.clauses.items is.own.each
        ∙ number_found number equation.clauses.items there) in
        let from = image_of (number_of clauses) lists number found in
        let stands = stand_all clauses lists is.has from.from from.among in
        let clause = slice_index_or clauses (number - 1) [] in
        let has : has_exactly from.from clause ≡ true =
        subst (λ n. has_exactly from.from (slice_index_or clauses (n - 1) []) ≡ true) from.is (first_is 1 clauses from.from stands).has in
        let set = (exactly from.from clause has).1 in
        let in_set : list_any (int_eq literal) (literal_set clause) ≡ true =
        any_of_set (int_eq literal) clause ∙ any_of (int_eq literal) clause literal ((Decides-int_eq literal literal).1 refl) among in
        let in_wrong = there_of literal from.from (ap (list_any (int_eq literal)) (sym set) ∙ in_set) in
        subst (λ l. Contains l (nat_abs literal)) (is_denied equation.bit equation.variables.items own_positive from.from from.among).over
        (image_among nat_abs from.from literal in_wrong)

    few : length equation.variables.items ≤ 8
    few = by_lists (denied equation.bit equation.variables.items) (λ wrong there. is_denied equation.bit equation.variables.items own_positive
        wrong there) (stand_all clauses (denied equation.bit equation.variables.items) is.has)
        (some_list equation.bit equation.variables.items is.some)
      where
        some_list : (bit : Bool) (variables : List ℕ) → 0 < length variables → 0 < length (denied bit variables)
        some_list bit [] some = absurd (omega (arith, some))
        some_list true (variable ∷ []) some = omega arith
        some_list false (variable ∷ []) some = omega arith
        some_list bit (variable ∷ next ∷ more) some =
            let rest = some_list bit (next ∷ more) (omega arith) in
            let highs = map (λ rest. pos variable ∷ rest) (denied bit (next ∷ more)) in
            let lows = map (λ rest. neg_ℤ (pos variable) ∷ rest) (denied (not bit) (next ∷ more)) in
            let whole = length-append highs lows in
            let part = length-map (denied bit (next ∷ more)) (λ rest. pos variable ∷ rest) in
            omega (arith, rest, whole, part)

        by_lists : (lists : List (List ℤ)) → ((wrong : List ℤ) → Contains lists wrong → IsDenied equation.bit equation.variables.items wrong)
            → AllStand clauses lists → 0 < length lists → length equation.variables.items ≤ 8
        by_lists [] each stand some = absurd (omega (arith, some))
        by_lists (wrong ∷ lists) each stand some =
            let found = first_is 1 clauses wrong (stand wrong (here wrong lists)) in
            let clause = slice_index_or clauses (number_of clauses wrong - 1) [] in
            let parts = exactly wrong clause found.has in
            let most = few_literals clause parts.0 in
            let over_all = (each wrong (here wrong lists)).over in
            omega (arith, most, ap length parts.1, length-map wrong nat_abs, ap length over_all)

pub own_clauses : OwnClauses
own_clauses = record { few = few; over = over; no_more = no_more }
