-- The variables of rows are those of equations; and each sum of two begins later among them, so that there are no more sums than variables.
use Rattle.std.proofs.Common.{◌≡◌, ◌⊎◌, ◌∙◌, ◌<◌, ◌≤◌, ◌+◌, ◌||◌, ℕ, zero, suc, Bool, true, false, not, cond, List, [], ◌∷◌}
use Rattle.std.proofs.Common.{Contains, length, map}
use Rattle.std.proofs.Common.{filter, get_or, refl, sym, ap, subst, arith, inl, inr, eq-eqb}
use Rattle.std.specs.Prelude.{◌==◌, nat_abs, nat_eq, ℤ}
use Rattle.std.specs.List.{list_any}
use Rattle.std.proofs.lemmas.Bool.{cases_Bool, eqb-true, le-ltb, lt-ltb, or_cases}
use Rattle.std.proofs.lemmas.List.{length-map}
use Rattle.std.proofs.lemmas.List.Elements.{Contains-append_left, Contains-append_right}
use Rattle.parity_equations.specs.Conflict.{vector}
use Rattle.parity_nodes.specs.Sums.{exclusive_or, odd_over}
use Rattle.parity_terms.specs.Limit.{AreAmong, AreOf, IsClauseAmong, all_variables, level_in}
use Rattle.parity_terms.specs.Order.{AreInOrder, AreOrdered, HaveSameFirst, place_of}
use Rattle.parity_terms.proofs.FixedParts.{before, before_few, before_rises, one_if, rises}
use Rattle.parity_terms.proofs.SumValues.{among_odd}

later : (first : ℕ) (list : List ℕ) (n : ℕ) → Contains list n → Contains (first ∷ list) n
later first list n there = (suc there.0, let small = there.1 in omega (arith, small), there.2)

first_or_later : (first : ℕ) (list : List ℕ) (n : ℕ) → Contains (first ∷ list) n → (first ≡ n) ⊎ Contains list n
first_or_later first list n there = by_place there.0 there.1 there.2
  where
    by_place : (k : ℕ) → k < length (first ∷ list) → get_or (first ∷ list) k n ≡ n → (first ≡ n) ⊎ Contains list n
    by_place zero small at = inl at
    by_place (suc k) small at = inr (k, omega (arith, small), at)

none_of_none : (n : ℕ) → Contains [] n → ⊥
none_of_none n there = let small = there.1 in omega (arith, small)

-- some levels are those of variables
image_among : (f : ℕ → ℕ) (list : List ℕ) (n : ℕ) → Contains list n → Contains (map f list) (f n)
image_among f [] n there = absurd (none_of_none n there)
image_among f (first ∷ list) n there = elim (first_or_later first list n there) [
  | inl is ↦ subst (λ m. Contains (f first ∷ map f list) (f m)) is (zero, omega arith, refl)
  | inr more ↦ later (f first) (map f list) (f n) (image_among f list n more)
]

pub levels_of : (order all variables : List ℕ) → AreOf all variables → AreAmong order (map (level_in order) all) variables
levels_of order all variables of variable there = image_among (level_in order) all variable (of variable there)

pub clause_levels_of : (order all : List ℕ) (clause : List ℤ) → ((literal : ℤ) → Contains clause literal → Contains all (nat_abs literal))
    → IsClauseAmong order (map (level_in order) all) clause
clause_levels_of order all clause of literal there = image_among (level_in order) all (nat_abs literal) (of literal there)

-- what is tested is there
tested_there : (n : ℕ) (list : List ℕ) → list_any (λ m. m == n) list ≡ true → Contains list n
tested_there n [] is = absurd (let e : false ≡ true = is in cc)
tested_there n (first ∷ list) is = elim (or_cases (first == n) (list_any (λ m. m == n) list) is) [
  | inl same ↦ (zero, omega arith, eqb-true first n same)
  | inr more ↦ later first list n (tested_there n list more)
]

there_tested : (n : ℕ) (list : List ℕ) → Contains list n → list_any (λ m. m == n) list ≡ true
there_tested n [] there = absurd (none_of_none n there)
there_tested n (first ∷ list) there = elim (first_or_later first list n there) [
  | inl same ↦ ap (λ b. b || list_any (λ m. m == n) list) (eq-eqb first n same)
  | inr more ↦ ap (λ b. (first == n) || b) (there_tested n list more) ∙ or_true (first == n)
]
  where
    or_true : (b : Bool) → (b || true) ≡ true
    or_true true = refl
    or_true false = refl

odd_there : (n : ℕ) (list : List ℕ) → odd_over list (λ m. m == n) ≡ true → Contains list n
odd_there n [] is = absurd (let e : false ≡ true = is in cc)
odd_there n (first ∷ list) is = go (first == n) refl is (odd_there n list)
  where
    go : (b : Bool) → (first == n) ≡ b → exclusive_or b (odd_over list (λ m. m == n)) ≡ true
        → (odd_over list (λ m. m == n) ≡ true → Contains list n) → Contains (first ∷ list) n
    go true same is rest = (zero, omega arith, eqb-true first n same)
    go false same is rest = later first list n (rest (none_first (odd_over list (λ m. m == n)) is))
      where
        none_first : (b : Bool) → exclusive_or false b ≡ true → b ≡ true
        none_first true is = refl
        none_first false is = is

-- equations in the order have the same variables
pub ordered_of : (places all variables sorted : List ℕ) → AreOrdered places variables sorted → AreOf all variables → AreOf all sorted
ordered_of places all variables sorted ordered of variable there =
    of variable (odd_there variable variables (sym (ordered.odd (λ m. m == variable))
    ∙ sym (among_odd places 0 sorted variable ordered.in_order) ∙ there_tested variable sorted there))

-- a variable in the order isn't 0
positive : (places : List ℕ) (first : ℕ) (variables : List ℕ) → AreInOrder places first variables → (n : ℕ) → Contains variables n → 0 < n
positive places first [] are n there = absurd (none_of_none n there)
positive places first (own ∷ more) are n there = elim (first_or_later own more n there) [
  | inl is ↦ let some = are.0 in omega (arith, is, some)
  | inr rest ↦ positive places (place_of places own + 1) more are.1.1.1 n rest
]

-- a sum has variables of both
pub sum_of_both : (places all one other sum : List ℕ) (bit bit_other bit_sum : Bool)
    → ((place : ℕ) → vector (sum, bit_sum) place ≡ exclusive_or (vector (one, bit) place) (vector (other, bit_other) place))
    → AreInOrder places 0 sum → AreOf all one → AreOf all other → AreOf all sum
sum_of_both places all one other sum bit bit_other bit_sum vectors in_order of of_other zero there =
    absurd (let some = positive places 0 sum in_order zero there in omega (arith, some))
sum_of_both places all one other sum bit bit_other bit_sum vectors in_order of of_other (suc n) there =
    go (list_any (λ m. m == suc n) one) (list_any (λ m. m == suc n) other) refl refl
    (sym (vectors (suc n)) ∙ there_tested (suc n) sum there)
  where
    go : (b c : Bool) → list_any (λ m. m == suc n) one ≡ b → list_any (λ m. m == suc n) other ≡ c → exclusive_or b c ≡ true
        → Contains all (suc n)
    go true c is is_other odd = of (suc n) (tested_there (suc n) one is)
    go false true is is_other odd = of_other (suc n) (tested_there (suc n) other is_other)
    go false false is is_other odd = absurd (let e : false ≡ true = odd in cc)

-- the variables of an equation are some of those of all
kept_there : (n : ℕ) (list others : List ℕ) → Contains list n → list_any (nat_eq n) others ≡ false
    → Contains (filter (λ variable. not (list_any (nat_eq variable) others)) list) n
kept_there n [] others there none = absurd (none_of_none n there)
kept_there n (first ∷ list) others there none = elim (first_or_later first list n there) [
  | inl is ↦ subst (λ b. Contains (cond (not b) (first ∷ filter (λ v. not (list_any (nat_eq v) others)) list)
      (filter (λ v. not (list_any (nat_eq v) others)) list)) n) (sym (ap (λ m. list_any (nat_eq m) others) is ∙ none))
      (zero, omega arith, is)
  | inr more ↦ go (list_any (nat_eq first) others) (kept_there n list others more none)
]
  where
    go : (b : Bool) → Contains (filter (λ v. not (list_any (nat_eq v) others)) list) n
        → Contains (cond (not b) (first ∷ filter (λ v. not (list_any (nat_eq v) others)) list)
        (filter (λ v. not (list_any (nat_eq v) others)) list)) n
    go true rest = rest
    go false rest = later first (filter (λ v. not (list_any (nat_eq v) others)) list) n rest

number_there : (n : ℕ) (list : List ℕ) → list_any (nat_eq n) list ≡ true → Contains list n
number_there n [] is = absurd (let e : false ≡ true = is in cc)
number_there n (first ∷ list) is = elim (or_cases (nat_eq n first) (list_any (nat_eq n) list) is) [
  | inl same ↦ (zero, omega arith, sym (eqb-true n first same))
  | inr more ↦ later first list n (number_there n list more)
]

pub equation_of_all : (equations : List (List ℕ × Bool)) (k : ℕ) (d : List ℕ × Bool) → k < length equations
    → AreOf (all_variables equations) (get_or equations k d).0
equation_of_all [] k d small variable there = absurd (omega (arith, small))
equation_of_all (equation ∷ more) zero d small variable there = elim (cases_Bool (list_any (nat_eq variable) (all_variables more))) [
  | inl had ↦ Contains-append_right (filter (λ v. not (list_any (nat_eq v) (all_variables more))) equation.0) (all_variables more) variable
      (number_there variable (all_variables more) had)
  | inr new ↦ Contains-append_left (filter (λ v. not (list_any (nat_eq v) (all_variables more))) equation.0) (all_variables more) variable
      (kept_there variable equation.0 (all_variables more) there new)
]
equation_of_all (equation ∷ more) (suc k) d small variable there =
    Contains-append_right (filter (λ v. not (list_any (nat_eq v) (all_variables more))) equation.0) (all_variables more) variable
    (equation_of_all more k d (omega (arith, small)) variable there)

-- more levels are before a later one
before_one : (levels : List ℕ) (level next : ℕ) → Contains levels level → level < next → before levels level < before levels next
before_one [] level next there less = absurd (none_of_none level there)
before_one (own ∷ more) level next there less = elim (first_or_later own more level there) [
  | inl is ↦
      let here = ap one_if (le-ltb own level (omega (arith, is))) in
      let after = ap one_if (lt-ltb own next (omega (arith, is, less))) in
      let rest = before_rises more level next (omega (arith, less)) in
      omega (arith, here, after, rest)
  | inr rest ↦
      let strict = before_one more level next rest less in
      let first = rises own level next (omega (arith, less)) in
      omega (arith, strict, first)
]

-- The equation begins at some place, and before it there are so many places of variables at least.
pub record BeginsBehind (places all variables : List ℕ) (rounds : ℕ) : Type 0 where
  pub first : ℕ
  pub in_order : AreInOrder places first variables
  pub behind : rounds ≤ before (map (place_of places) all) first

pub begins_anywhere : (places all variables : List ℕ) → AreInOrder places 0 variables → BeginsBehind places all variables 0
begins_anywhere places all variables in_order = record { first = 0; in_order = in_order; behind = omega arith }

pub few_rounds : (places all variables : List ℕ) (rounds : ℕ) → BeginsBehind places all variables rounds → rounds ≤ length all
few_rounds places all variables rounds begins =
    let few = before_few (map (place_of places) all) begins.first in
    let many = begins.behind in
    omega (arith, few, many, length-map all (place_of places))

-- from its first variable's place on
from_head : (places : List ℕ) (first variable : ℕ) (more : List ℕ) → AreInOrder places first (variable ∷ more)
    → AreInOrder places (place_of places variable) (variable ∷ more)
from_head places first variable more are = (are.0, (are.1.0, (omega arith, are.1.1.1)))

-- a sum with a row that begins with the same variable begins behind one place more
pub begins_later : (places all row current next : List ℕ) (rounds : ℕ) → BeginsBehind places all current rounds → AreInOrder places 0 row
    → HaveSameFirst row current → AreOf all current
    → ((first : ℕ) → AreInOrder places first row → AreInOrder places first current → AreInOrder places (first + 1) next)
    → BeginsBehind places all next (rounds + 1)
begins_later places all [] current next rounds begins are same of later_one = absurd same
begins_later places all (variable ∷ more) [] next rounds begins are same of later_one = absurd same
begins_later places all (variable ∷ more) (other ∷ others) next rounds begins are same of later_one =
    let place = place_of places other in
    let own = from_head places begins.first other others begins.in_order in
    let row_from = from_head places 0 variable more are in
    let row_own : AreInOrder places place (variable ∷ more) =
    subst (λ v. AreInOrder places (place_of places v) (variable ∷ more)) same row_from in
    let there = image_among (place_of places) all other (of other (zero, omega arith, refl)) in
    let strict = before_one (map (place_of places) all) place (place + 1) there (omega arith) in
    let rise = before_rises (map (place_of places) all) begins.first place begins.in_order.1.1.0 in
    let many = begins.behind in
    record {
      first = place + 1;
      in_order = later_one place row_own own;
      behind = omega (arith, strict, rise, many);
    }
