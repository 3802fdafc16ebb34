-- A line is judged by its numbers as they are kept: cut, and plain ones with a sign.
use Rattle.std.proofs.Common.{◌≡◌, ℕ, zero, suc, Bool, true, false, ◌&&◌, List, [], ◌∷◌, map, ℤ, pos, negsuc, neg_ℤ, nat_abs, Option, Some}
use Rattle.std.proofs.Common.{None, option_map, option_and_then, nat_le, nat_lt, ◌==◌, if◌then◌else◌, refl, sym, ◌∙◌, ap, arith}
use Rattle.std.specs.List.{list_all}
use Rattle.std.proofs.lemmas.Bool.{and_parts}
use Rattle.std.proofs.lemmas.Bool.Decides.{nat_tests}
use Rattle.cnf_base.specs.declared.step.Step.TheVariants.{Add, Delete}
use Rattle.cnf_base.specs.Truth.{is_literal_of}
use Rattle.cnf_base.specs.ProofText.{max_id, max_literal, is_id, is_hint, all_given, in_front, split_at, is_empty, is_zero, given_if}
use Rattle.cnf_base.specs.ProofText.{hints_before_group, groups_of, addition_of, addition_from, deletion_of}
use Rattle.text_scan.specs.Capped.{capped, capped_ℤ}
use Rattle.lrat_text.specs.Numbers.{both, positive, deletion_with, deletion_from, addition_by}

-- Lists under a map.
pub all_given-map : {W X Y : Type 0} (c : X → Y) (f : W → Option X) (ws : List W) → all_given (map (λ w. option_map c (f w)) ws)
    ≡ option_map (map c) (all_given (map f ws))
all_given-map c f [] = refl
all_given-map {W} {X} {Y} c f (w ∷ ws) = elim (f w) as (λ x. all_given (option_map c x ∷ map (λ v. option_map c (f v)) ws)
    ≡ option_map (map c) (all_given (x ∷ map f ws))) [
      | None ↦ refl
      | Some x ↦ ap (option_map (λ ys. c x ∷ ys)) (all_given-map c f ws)
          ∙ elim (all_given (map f ws)) as (λ (xs : Option (List X)). option_map (λ ys. c x ∷ ys) (option_map (map c) xs)
          ≡ option_map (map c) (option_map (λ ys. x ∷ ys) xs)) [ None ↦ refl | Some xs ↦ refl ]
    ]

pub split_at-map : {X Y : Type 0} (c : X → Y) (t : X → Bool) (u : Y → Bool) → ((x : X) → u (c x) ≡ t x) → (xs : List X)
    → split_at u (map c xs) ≡ option_map (both c) (split_at t xs)
split_at-map c t u same [] = refl
split_at-map {X} {Y} c t u same (x ∷ xs) =
    rw (same x, split_at-map c t u same xs)
    (elim (t x) as (λ b. (if b then Some ([], map c xs) else option_map (in_front (c x)) (option_map (both c) (split_at t xs)))
    ≡ option_map (both c) (if b then Some ([], xs) else option_map (in_front x) (split_at t xs))) [
      | true ↦ refl
      | false ↦ elim (split_at t xs) as (λ (p : Option (List X × List X)). option_map (in_front (c x)) (option_map (both c) p)
          ≡ option_map (both c) (option_map (in_front x) p)) [ None ↦ refl | Some (before, after) ↦ refl ]
    ])

pub list_all-under : {X Y : Type 0} (c : X → Y) (t : X → Bool) (u : Y → Bool) → ((x : X) → u (c x) ≡ t x) → (xs : List X)
    → list_all u (map c xs) ≡ list_all t xs
list_all-under c t u same [] = refl
list_all-under c t u same (x ∷ xs) = rw (same x, list_all-under c t u same xs) refl

is_empty-map : {X Y : Type 0} (c : X → Y) (xs : List X) → is_empty (map c xs) ≡ is_empty xs
is_empty-map c [] = refl
is_empty-map c (x ∷ xs) = refl

pub map_same : {X : Type 0} (c : X → X) (t : X → Bool) → ((x : X) → t x ≡ true → c x ≡ x) → (xs : List X) → list_all t xs ≡ true → map c xs ≡ xs
map_same c t same [] all = refl
map_same c t same (x ∷ xs) all =
    let parts = and_parts (t x) (list_all t xs) all in
    rw (same x parts.0, map_same c t same xs parts.1) refl

map_map : {X Y : Type 0} (c : X → Y) (d : Y → X) (xs : List X) → map d (map c xs) ≡ map (λ x. d (c x)) xs
map_map c d [] = refl
map_map c d (x ∷ xs) = ap (λ ys. d (c x) ∷ ys) (map_map c d xs)

given_if-same : {X : Type 0} (a b : Bool) (x y : X) → a ≡ b → (b ≡ true → x ≡ y) → given_if a x ≡ given_if b y
given_if-same a true x y is same = rw is (ap Some (same refl))
given_if-same a false x y is same = rw is refl

-- Numbers that are cut.
capped_small : (n : ℕ) → nat_le n max_id ≡ nat_le (capped n) max_id
capped_small n = grind (arith, nat_tests)

capped_above : (n : ℕ) → nat_lt 0 n ≡ nat_lt 0 (capped n)
capped_above n = grind (arith, nat_tests)

capped_zero : (n : ℕ) → (n == 0) ≡ (capped n == 0)
capped_zero n = grind (arith, nat_tests)

capped_literal : (n : ℕ) → nat_le n max_literal ≡ nat_le (capped n) max_literal
capped_literal n = grind (arith, nat_tests)

capped_same : (n : ℕ) → nat_le n max_id ≡ true → capped n ≡ n
capped_same n small = grind (arith, nat_tests)

is_id-capped : (n : ℕ) → is_id (capped n) ≡ is_id n
is_id-capped n = rw (← capped_small n, ← capped_above n) refl

nat_abs-neg : (n : ℕ) → nat_abs (neg_ℤ (pos n)) ≡ n
nat_abs-neg zero = refl
nat_abs-neg (suc n) = refl

nat_abs-capped : (z : ℤ) → nat_abs (capped_ℤ z) ≡ capped (nat_abs z)
nat_abs-capped (pos n) = refl
nat_abs-capped (negsuc n) = nat_abs-neg (capped (suc n))

is_hint-capped : (z : ℤ) → is_hint (capped_ℤ z) ≡ is_hint z
is_hint-capped z = ap is_id (nat_abs-capped z) ∙ is_id-capped (nat_abs z)

pub is_zero-capped : (z : ℤ) → is_zero (capped_ℤ z) ≡ is_zero z
is_zero-capped z = ap (λ n. n == 0) (nat_abs-capped z) ∙ sym (capped_zero (nat_abs z))

pub is_literal-capped : (z : ℤ) → is_literal_of max_literal (capped_ℤ z) ≡ is_literal_of max_literal z
is_literal-capped z = ap (λ n. nat_lt 0 n && nat_le n max_literal) (nat_abs-capped z)
    ∙ rw (← capped_above (nat_abs z), ← capped_literal (nat_abs z)) refl

capped_ℤ-small : (z : ℤ) → nat_le (nat_abs z) max_id ≡ true → capped_ℤ z ≡ z
capped_ℤ-small (pos n) small = ap pos (capped_same n small)
capped_ℤ-small (negsuc n) small = ap (λ m. neg_ℤ (pos m)) (capped_same (suc n) small)

id_same : (n : ℕ) → is_id n ≡ true → capped n ≡ n
id_same n id = capped_same n (and_parts (nat_lt 0 n) (nat_le n max_id) id).1

hint_same : (z : ℤ) → is_hint z ≡ true → capped_ℤ z ≡ z
hint_same z hint = capped_ℤ-small z (and_parts (nat_lt 0 (nat_abs z)) (nat_le (nat_abs z) max_id) hint).1

literal_fits : (n : ℕ) → nat_le n max_literal ≡ true → nat_le n max_id ≡ true
literal_fits n small = grind (arith, nat_tests)

pub literal_same : (z : ℤ) → is_literal_of max_literal z ≡ true → capped_ℤ z ≡ z
literal_same z literal = capped_ℤ-small z (literal_fits (nat_abs z)
    (and_parts (nat_lt 0 (nat_abs z)) (nat_le (nat_abs z) max_literal) literal).1)

-- Additions.
four_parts : (a b c d : Bool) → (a && b && c && d) ≡ true → (a ≡ true) × (b ≡ true) × (c ≡ true) × (d ≡ true)
four_parts a b c d h = grind arith

addition_of-capped : (id : ℕ) (literals hints rest : List ℤ) → addition_of (capped id) (map capped_ℤ literals)
    (map capped_ℤ hints, map capped_ℤ rest) ≡ addition_of id literals (hints, rest)
addition_of-capped id literals hints rest =
    let are : list_all (is_literal_of max_literal) (map capped_ℤ literals) ≡ list_all (is_literal_of max_literal) literals =
    list_all-under capped_ℤ (is_literal_of max_literal) (is_literal_of max_literal) is_literal-capped literals in
    let hint : list_all is_hint (map capped_ℤ hints) ≡ list_all is_hint hints =
    list_all-under capped_ℤ is_hint is_hint is_hint-capped hints in
    given_if-same (is_id (capped id) && list_all (is_literal_of max_literal) (map capped_ℤ literals)
    && list_all is_hint (map capped_ℤ hints) && is_empty (map capped_ℤ rest))
    (is_id id && list_all (is_literal_of max_literal) literals && list_all is_hint hints && is_empty rest)
    (Add (capped id) (map capped_ℤ literals) (hints_before_group (map capped_ℤ hints)) (groups_of (map capped_ℤ hints)))
    (Add id literals (hints_before_group hints) (groups_of hints))
    (rw (is_id-capped id, are, hint, is_empty-map capped_ℤ rest) refl)
    (λ holds.
    let parts = four_parts (is_id id) (list_all (is_literal_of max_literal) literals) (list_all is_hint hints) (is_empty rest) holds in
    rw (
      id_same id parts.0,
      map_same capped_ℤ (is_literal_of max_literal) literal_same literals parts.1,
      map_same capped_ℤ is_hint hint_same hints parts.2,
    ) refl)

addition_from-capped : (id : ℕ) (literals rest : List ℤ) → addition_from (capped id) (map capped_ℤ literals, map capped_ℤ rest)
    ≡ addition_from id (literals, rest)
addition_from-capped id literals rest =
    ap (option_and_then (addition_of (capped id) (map capped_ℤ literals))) (split_at-map capped_ℤ is_zero is_zero is_zero-capped rest)
    ∙ elim (split_at is_zero rest) as (λ (p : Option (List ℤ × List ℤ)). option_and_then (addition_of (capped id) (map capped_ℤ literals))
    (option_map (both capped_ℤ) p) ≡ option_and_then (addition_of id literals) p) [
      | None ↦ refl
      | Some (hints, more) ↦ addition_of-capped id literals hints more
    ]

pub addition_by-capped : (id : ℕ) (numbers : List ℤ) → addition_by (capped id) (map capped_ℤ numbers) ≡ addition_by id numbers
addition_by-capped id numbers =
    ap (option_and_then (addition_from (capped id))) (split_at-map capped_ℤ is_zero is_zero is_zero-capped numbers)
    ∙ elim (split_at is_zero numbers) as (λ (p : Option (List ℤ × List ℤ)). option_and_then (addition_from (capped id))
    (option_map (both capped_ℤ) p) ≡ option_and_then (addition_from id) p) [
      | None ↦ refl
      | Some (literals, rest) ↦ addition_from-capped id literals rest
    ]

-- Deletions.
three_parts : (a b c : Bool) → (a && b && c) ≡ true → (a ≡ true) × (b ≡ true) × (c ≡ true)
three_parts a b c h = grind arith

deletion_with-capped : (id : ℕ) (ids rest : List ℕ) → deletion_with (capped id) (map positive ids, map positive rest)
    ≡ deletion_of id (ids, rest)
deletion_with-capped id ids rest =
    let are : list_all is_hint (map positive ids) ≡ list_all is_id ids = list_all-under positive is_id is_hint is_id-capped ids in
    given_if-same (nat_le (capped id) max_id && list_all is_hint (map positive ids) && is_empty (map positive rest))
    (nat_le id max_id && list_all is_id ids && is_empty rest)
    (Delete (capped id) (map nat_abs (map positive ids)))
    (Delete id ids)
    (rw (← capped_small id, are, is_empty-map positive rest) refl)
    (λ holds.
    let parts = three_parts (nat_le id max_id) (list_all is_id ids) (is_empty rest) holds in
    rw (capped_same id parts.0, map_map positive nat_abs ids, map_same capped is_id id_same ids parts.1) refl)

pub deletion_from-capped : (id : ℕ) (numbers : List ℕ) → deletion_from (capped id) (map positive numbers)
    ≡ option_and_then (deletion_of id) (split_at (λ n. n == 0) numbers)
deletion_from-capped id numbers =
    ap (option_and_then (deletion_with (capped id))) (split_at-map positive (λ n. n == 0) is_zero (λ n. sym (capped_zero n)) numbers)
    ∙ elim (split_at (λ n. n == 0) numbers) as (λ (p : Option (List ℕ × List ℕ)). option_and_then (deletion_with (capped id))
    (option_map (both positive) p) ≡ option_and_then (deletion_of id) p) [
      | None ↦ refl
      | Some (ids, rest) ↦ deletion_with-capped id ids rest
    ]
