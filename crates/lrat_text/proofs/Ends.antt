-- Lists that the first zero ends, and what they say of hints and groups.
use Rattle.std.proofs.Common.{◌≡◌, ℕ, zero, suc, ◌+◌, ◌<◌, ◌≤◌, Bool, true, false, ◌&&◌, List, [], ◌∷◌, ◌++◌, length, map, take, drop, get_or}
use Rattle.std.proofs.Common.{ℤ, pos, negsuc, nat_abs, Option, Some, None, option_map, if◌then◌else◌, refl, sym, ◌∙◌, ap, arith, true≢false}
use Rattle.std.specs.Prelude.{nat_lt, nat_le}
use Rattle.std.specs.List.{list_all}
use Rattle.std.specs.Option.{option_and_then}
use Rattle.std.proofs.lemmas.Bool.{cond-true, cond-false, and_parts}
use Rattle.std.proofs.lemmas.Bool.Decides.{nat_tests}
use Rattle.cnf_base.specs.declared.step.Step.{Step}
use Rattle.cnf_base.specs.declared.step.Step.TheVariants.{Add}
use Rattle.cnf_base.specs.Truth.{is_literal_of}
use Rattle.cnf_base.specs.ProofText.{max_id, max_literal, is_id, is_hint, is_zero, is_empty, in_front, split_at, given_if, hints_before_group, groups_of}
use Rattle.cnf_base.specs.ProofText.{addition_of, addition_from}
use Rattle.text_scan.specs.Capped.{cap}
use Rattle.lrat_text.specs.Numbers.{addition_by, ended_list, is_positive_hint, IsIdFront}

-- a test that 0 doesn't pass
abbrev pub DeniesZero : (ℤ → Bool) → Type 0
DeniesZero test = (x : ℤ) → test x ≡ true → is_zero x ≡ false

abbrev nothing : Option (List ℤ × List ℤ)
nothing = None

same_nothing : (b : Bool) → (if b then nothing else nothing) ≡ nothing
same_nothing true = refl
same_nothing false = refl

module _ (test : ℤ → Bool) (denies : DeniesZero test) where
  split_in_front : (x : ℤ) (parts : Option (List ℤ × List ℤ))
      → option_and_then (λ (p : List ℤ × List ℤ). given_if (list_all test p.0) p) (option_map (in_front x) parts)
      ≡ (if test x then option_map (in_front x) (option_and_then (λ (p : List ℤ × List ℤ). given_if (list_all test p.0) p) parts) else None)
  split_in_front x None = sym (same_nothing (test x))
  split_in_front x (Some (before, after)) =
      elim (test x) as (λ b. given_if (b && list_all test before) (x ∷ before, after)
      ≡ (if b then option_map (in_front x) (given_if (list_all test before) (before, after)) else None)) [
        | true ↦ elim (list_all test before) as (λ c. given_if c (x ∷ before, after) ≡ option_map (in_front x) (given_if c (before, after)))
            [ true ↦ refl | false ↦ refl ]
        | false ↦ refl
      ]

  ended_cons : (x : ℤ) (xs : List ℤ) → is_zero x ≡ false
      → ended_list test (x ∷ xs) ≡ (if test x then option_map (in_front x) (ended_list test xs) else None)
  ended_cons x xs other = rw other (split_in_front x (split_at is_zero xs))

  passed : (x : ℤ) (xs : List ℤ) → test x ≡ true → ended_list test (x ∷ xs) ≡ option_map (in_front x) (ended_list test xs)
  passed x xs passes = ended_cons x xs (denies x passes) ∙ cond-true _ _ _ passes

  -- the zero stands here
  ended_here : (xs : List ℤ) (n : ℕ) → list_all test (take n xs) ≡ true → n < length xs → is_zero (get_or xs n (pos 0)) ≡ true
      → ended_list test xs ≡ Some (take n xs, drop (suc n) xs)
  ended_here [] n all within here = absurd (omega arith)
  ended_here (x ∷ xs) zero all within here = rw here refl
  ended_here (x ∷ xs) (suc n) all within here =
      let parts = and_parts (test x) (list_all test (take n xs)) all in
      passed x xs parts.0 ∙ ap (option_map (in_front x)) (ended_here xs n parts.1 (omega arith) here)

  -- another number that doesn't pass stands here
  ended_badly : (xs : List ℤ) (n : ℕ) → list_all test (take n xs) ≡ true → n < length xs → is_zero (get_or xs n (pos 0)) ≡ false
      → test (get_or xs n (pos 0)) ≡ false → ended_list test xs ≡ None
  ended_badly [] n all within other fails = absurd (omega arith)
  ended_badly (x ∷ xs) zero all within other fails = ended_cons x xs other ∙ cond-false _ _ _ fails
  ended_badly (x ∷ xs) (suc n) all within other fails =
      let parts = and_parts (test x) (list_all test (take n xs)) all in
      passed x xs parts.0 ∙ ap (option_map (in_front x)) (ended_badly xs n parts.1 (omega arith) other fails)

  -- so which of both
  pub ended_at : (f : ℕ → List ℤ × List ℤ) (xs : List ℤ) (n : ℕ) → list_all test (take n xs) ≡ true → n < length xs
      → test (get_or xs n (pos 0)) ≡ false → f n ≡ (take n xs, drop (suc n) xs)
      → ended_list test xs ≡ option_map f (given_if (is_zero (get_or xs n (pos 0))) n)
  ended_at f xs n all within fails parts =
      elim (is_zero (get_or xs n (pos 0))) as (λ b. is_zero (get_or xs n (pos 0)) ≡ b → ended_list test xs ≡ option_map f (given_if b n)) [
        | true ↦ λ here. ended_here xs n all within here ∙ ap (λ p. Some p) (sym parts)
        | false ↦ λ other. ended_badly xs n all within other fails
      ] refl

  -- none stands anywhere
  pub never_ended : (xs : List ℤ) (n : ℕ) → list_all test (take n xs) ≡ true → length xs ≤ n → ended_list test xs ≡ None
  never_ended [] n all past = refl
  never_ended (x ∷ xs) zero all past = absurd (omega arith)
  never_ended (x ∷ xs) (suc n) all past =
      let parts = and_parts (test x) (list_all test (take n xs)) all in
      passed x xs parts.0 ∙ ap (option_map (in_front x)) (never_ended xs n parts.1 (omega arith))

-- An addition by its two lists.
abbrev of_lists : ℕ → List ℤ → List ℤ × List ℤ → Option Step
of_lists id literals (hints, rest) = given_if (is_empty rest) (Add id literals (hints_before_group hints) (groups_of hints))

pub by_lists : (id : ℕ) (numbers : List ℤ) → is_id id ≡ true → addition_by id numbers
    ≡ option_and_then (λ (p : List ℤ × List ℤ). option_and_then (of_lists id p.0) (ended_list is_hint p.1))
    (ended_list (is_literal_of max_literal) numbers)
by_lists id numbers good = behind (split_at is_zero numbers) where
  hints_in : (literals : List ℤ) (parts : Option (List ℤ × List ℤ)) → list_all (is_literal_of max_literal) literals ≡ true
      → option_and_then (addition_of id literals) parts
      ≡ option_and_then (of_lists id literals) (option_and_then (λ (p : List ℤ × List ℤ). given_if (list_all is_hint p.0) p) parts)
  hints_in literals None all = refl
  hints_in literals (Some (hints, rest)) all = rw (good, all) (elim (list_all is_hint hints) as (λ b. given_if (b && is_empty rest)
      (Add id literals (hints_before_group hints) (groups_of hints)) ≡ option_and_then (of_lists id literals) (given_if b (hints, rest)))
      [ true ↦ refl | false ↦ refl ])

  no_literals : (literals : List ℤ) (parts : Option (List ℤ × List ℤ)) → list_all (is_literal_of max_literal) literals ≡ false
      → option_and_then (addition_of id literals) parts ≡ None
  no_literals literals None none = refl
  no_literals literals (Some (hints, rest)) none = rw (good, none) refl

  behind : (parts : Option (List ℤ × List ℤ)) → option_and_then (addition_from id) parts
      ≡ option_and_then (λ (p : List ℤ × List ℤ). option_and_then (of_lists id p.0) (ended_list is_hint p.1))
      (option_and_then (λ (p : List ℤ × List ℤ). given_if (list_all (is_literal_of max_literal) p.0) p) parts)
  behind None = refl
  behind (Some (literals, rest)) =
      elim (list_all (is_literal_of max_literal) literals) as (λ b. list_all (is_literal_of max_literal) literals ≡ b
      → option_and_then (addition_of id literals) (split_at is_zero rest)
      ≡ option_and_then (λ (p : List ℤ × List ℤ). option_and_then (of_lists id p.0) (ended_list is_hint p.1))
      (given_if b (literals, rest))) [
        | true ↦ λ all. hints_in literals (split_at is_zero rest) all
        | false ↦ λ none. no_literals literals (split_at is_zero rest) none
      ] refl

-- positive hints
pub plain_hints : (xs : List ℤ) → list_all is_positive_hint xs ≡ true → hints_before_group xs ≡ map nat_abs xs
plain_hints [] all = refl
plain_hints (pos n ∷ xs) all = let parts = and_parts (is_id n) (list_all is_positive_hint xs) all in ap (λ l. n ∷ l) (plain_hints xs parts.1)
plain_hints (negsuc n ∷ xs) all = cc

pub no_groups : (xs : List ℤ) → list_all is_positive_hint xs ≡ true → groups_of xs ≡ []
no_groups [] all = refl
no_groups (pos n ∷ xs) all = let parts = and_parts (is_id n) (list_all is_positive_hint xs) all in no_groups xs parts.1
no_groups (negsuc n ∷ xs) all = cc

pub are_hints : (xs : List ℤ) → list_all is_positive_hint xs ≡ true → list_all is_hint xs ≡ true
are_hints [] all = refl
are_hints (pos n ∷ xs) all = let parts = and_parts (is_id n) (list_all is_positive_hint xs) all in rw (parts.0, are_hints xs parts.1) refl
are_hints (negsuc n ∷ xs) all = cc

-- a group more
pub hints_stop : (xs : List ℤ) (n : ℕ) (ys : List ℤ) → hints_before_group (xs ++ negsuc n ∷ ys) ≡ hints_before_group xs
hints_stop [] n ys = refl
hints_stop (pos m ∷ xs) n ys = ap (λ l. m ∷ l) (hints_stop xs n ys)
hints_stop (negsuc m ∷ xs) n ys = refl

pub groups_push : (xs : List ℤ) (n : ℕ) (ys : List ℤ) → list_all is_positive_hint ys ≡ true
    → groups_of (xs ++ negsuc n ∷ ys) ≡ groups_of xs ++ (record { id = suc n; hints = map nat_abs ys }) ∷ []
groups_push [] n ys all = rw (plain_hints ys all, no_groups ys all) refl
groups_push (pos m ∷ xs) n ys all = groups_push xs n ys all
groups_push (negsuc m ∷ xs) n ys all = rw (hints_stop xs n ys, groups_push xs n ys all) refl

-- neither a literal nor a hint is 0
pub literals_deny : DeniesZero (is_literal_of max_literal)
literals_deny (pos zero) is = cc
literals_deny (pos (suc n)) is = grind (arith, nat_tests)
literals_deny (negsuc n) is = grind (arith, nat_tests)

pub hints_deny : DeniesZero is_hint
hints_deny (pos zero) is = cc
hints_deny (pos (suc n)) is = grind (arith, nat_tests)
hints_deny (negsuc n) is = grind (arith, nat_tests)

pub hint_small : (x : ℤ) → is_hint x ≡ true → nat_abs x ≤ cap
hint_small x is =
    let parts : (nat_lt 0 (nat_abs x) ≡ true) × (nat_le (nat_abs x) max_id ≡ true) = and_parts _ _ is in
    let small : nat_abs x ≤ max_id = grind (arith, nat_tests) in omega (arith, small)

-- A number that is a hint, but no positive one, is negative.
opens_group : (x : ℤ) → is_hint x ≡ true → is_positive_hint x ≡ false → (n : ℕ) × (x ≡ negsuc n)
opens_group (pos n) is other = absurd (true≢false (sym is ∙ other))
opens_group (negsuc n) is other = (n, refl)

take_group : (xs : List ℤ) (e c : ℕ) → e < length xs → take (e + suc c) xs ≡ take e xs ++ get_or xs e (pos 0) ∷ take c (drop (suc e) xs)
take_group [] e c within = absurd (omega arith)
take_group (x ∷ xs) zero c within = let size : zero + suc c ≡ suc c = omega arith in rw size refl
take_group (x ∷ xs) (suc e) c within =
    let size : suc e + suc c ≡ suc (e + suc c) = omega arith in rw size (ap (λ l. x ∷ l) (take_group xs e c (omega arith)))

all_behind : (test : ℤ → Bool) (xs ys : List ℤ) → list_all test xs ≡ true → list_all test ys ≡ true → list_all test (xs ++ ys) ≡ true
all_behind test [] ys first second = second
all_behind test (x ∷ xs) ys first second =
    let parts = and_parts (test x) (list_all test xs) first in rw (parts.0, all_behind test xs ys parts.1 second) refl

-- What is known behind one more group.
pub record IsGroupMore (xs : List ℤ) (e c : ℕ) (own : List ℕ) : Type 0 where
  pub all : list_all is_hint (take (e + suc c) xs) ≡ true
  pub hints : hints_before_group (take (e + suc c) xs) ≡ hints_before_group (take e xs)
  pub groups : groups_of (take (e + suc c) xs) ≡ groups_of (take e xs) ++ (record { id = nat_abs (get_or xs e (pos 0)); hints = own }) ∷ []

pub group_more : (xs : List ℤ) (e c : ℕ) (own : List ℕ) → e < length xs → list_all is_hint (take e xs) ≡ true
    → is_hint (get_or xs e (pos 0)) ≡ true → is_positive_hint (get_or xs e (pos 0)) ≡ false → IsIdFront c own (drop (suc e) xs)
    → IsGroupMore xs e c own
group_more xs e c own within all is other front =
    let (n, here) = opens_group (get_or xs e (pos 0)) is other in
    let ys : List ℤ = take c (drop (suc e) xs) in
    let taken : take (e + suc c) xs ≡ take e xs ++ negsuc n ∷ ys = take_group xs e c within ∙ ap (λ x. take e xs ++ x ∷ ys) here in
    let others : list_all is_hint (negsuc n ∷ ys) ≡ true = rw (ap is_hint (sym here) ∙ is, are_hints ys front.all) refl in
    record {
      all = rw taken (all_behind is_hint (take e xs) (negsuc n ∷ ys) all others);
      hints = rw taken (hints_stop (take e xs) n ys);
      groups = ap groups_of taken ∙ groups_push (take e xs) n ys front.all
          ∙ (λ i. groups_of (take e xs) ++ (record { id = nat_abs (sym here i); hints = sym front.given_are i }) ∷ []);
    }
