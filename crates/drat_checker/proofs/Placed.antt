-- Lists of numbers by literals: what becomes of each as one is changed, or as places are added.
use Rattle.std.proofs.Common.{◌≡◌, ℕ, zero, suc, ◌<◌, ◌≤◌, ◌≢◌, true, false, ℤ, pos, negsuc, List, [], ◌∷◌, ◌++◌, length, set, get_or}
use Rattle.std.proofs.Common.{nat_lt, nat_eq}
use Rattle.std.proofs.Common.{int_eq, if◌then◌else◌, refl, sym, ap, ◌∙◌, arith, eqb-true, lt-ltb, le-ltb}
use Rattle.std.proofs.Math.Seq.{get_or-set_same, get_or-set_other}
use Rattle.std.proofs.lemmas.Bool.{both_ways, false_from_ne_true}
use Rattle.std.proofs.lemmas.List.{get_or_past, get_or_read}
use Rattle.lrat_rules.specs.ByLiteral.{place_of}
use Rattle.drat_checker.specs.declared.number_lists.NumberLists.{NumberLists}
use Rattle.drat_checker.specs.declared.literal_lists.LiteralLists.{LiteralLists}
use Rattle.drat_checker.specs.Numbers.{KeepsLists, KeepsNumbers, has_number, numbers_of}
use Rattle.drat_checker.specs.LiteralLists.{KeepsEach, numbers_at, numbers_in}
use Rattle.drat_checker.proofs.FalseSets.{int_eq-true, eq-int_eq}

place-injective : (x y : ℤ) → place_of x ≡ place_of y → x ≡ y
place-injective (pos n) (pos m) e = let is : n ≡ m = omega arith in ap pos is
place-injective (pos n) (negsuc m) e = absurd (omega arith)
place-injective (negsuc n) (pos m) e = absurd (omega arith)
place-injective (negsuc n) (negsuc m) e = let is : n ≡ m = omega arith in ap negsuc is

-- another literal has another place
pub other-place : (x literal : ℤ) → int_eq x literal ≡ false → place_of x ≢ place_of literal
other-place x literal other same = both_ways (int_eq x literal) other (eq-int_eq x literal (place-injective x literal same))

pub other-key : (x literal : ℤ) → int_eq x literal ≡ false → nat_eq (place_of x) (place_of literal) ≡ false
other-key x literal other =
    false_from_ne_true _ (λ same. other-place x literal other (eqb-true (place_of x) (place_of literal) same))

is-near : (p : ℕ) → p < 1048576 → nat_lt p 1048576 ≡ true
is-near p within = lt-ltb p 1048576 within

is-far : (p : ℕ) → 1048576 ≤ p → nat_lt p 1048576 ≡ false
is-far p past = le-ltb p 1048576 past

module _ (near : List (List ℕ)) (far : NumberLists) (x : ℤ) where
  pub at-near : place_of x < 1048576 → numbers_in near far x ≡ get_or near (place_of x) []
  at-near within =
      ap (λ b. if b then get_or near (place_of x) [] else numbers_of far (place_of x)) (is-near (place_of x) within)

  pub at-far : 1048576 ≤ place_of x → numbers_in near far x ≡ numbers_of far (place_of x)
  at-far past = ap (λ b. if b then get_or near (place_of x) [] else numbers_of far (place_of x)) (is-far (place_of x) past)

-- a place more, with an empty list
pub one-empty : (lists : List (List ℕ)) (k : ℕ) → get_or (lists ++ [] ∷ []) k [] ≡ get_or lists k []
one-empty [] zero = refl
one-empty [] (suc k) = refl
one-empty (l ∷ ls) zero = refl
one-empty (l ∷ ls) (suc k) = one-empty ls k

-- there is no list
pub none-at : (lists : LiteralLists) → lists.near.items ≡ [] → ((key : ℕ) → numbers_of lists.far key ≡ []) → (x : ℤ)
    → numbers_at lists x ≡ []
unfolding numbers_at
none-at lists none far x =
    elim (nat_lt (place_of x) 1048576)
    as (λ b. (if b then get_or lists.near.items (place_of x) [] else numbers_of lists.far (place_of x)) ≡ []) [
      | true ↦ get_or_past lists.near.items (place_of x) [] (omega (arith, ap length none))
      | false ↦ far (place_of x)
    ]

-- The far lists alone change.
module _ (lists lists' : LiteralLists) (same : lists'.near.items ≡ lists.near.items) where
  pub keeps-far : KeepsLists lists.far lists'.far → KeepsEach lists lists'
  unfolding numbers_at
  keeps-far kept = record {
    kept = λ x. record {
      kept = λ n listed.
          elim (nat_lt (place_of x) 1048576)
          as (λ b. has_number n (if b then get_or lists.near.items (place_of x) [] else numbers_of lists.far (place_of x)) ≡ true
          → has_number n (if b then get_or lists'.near.items (place_of x) [] else numbers_of lists'.far (place_of x)) ≡ true) [
            | true ↦ λ there. ap (λ (l : List (List ℕ)). has_number n (get_or l (place_of x) [])) same ∙ there
            | false ↦ λ there. (kept.kept (place_of x)).kept n there
          ] listed;
    };
  }

  pub far-others : (literal : ℤ) (key : ℕ) → key ≡ place_of literal
      → ((k : ℕ) → nat_eq k key ≡ false → numbers_of lists'.far k ≡ numbers_of lists.far k) → (x : ℤ) → int_eq x literal ≡ false
      → numbers_at lists' x ≡ numbers_at lists x
  unfolding numbers_at
  far-others literal key is others x other =
      ap (λ (l : List (List ℕ)). numbers_in l lists'.far x) same
      ∙ ap (λ l. if nat_lt (place_of x) 1048576 then get_or lists.near.items (place_of x) [] else l)
      (others (place_of x) (ap (nat_eq (place_of x)) is ∙ other-key x literal other))

-- the list of a far literal
pub far-own : (lists : LiteralLists) (literal : ℤ) (key : ℕ) → key ≡ place_of literal → 1048576 ≤ key
    → numbers_at lists literal ≡ numbers_of lists.far key
unfolding numbers_at
far-own lists literal key is past =
    at-far lists.near.items lists.far literal (omega (arith, is, past)) ∙ ap (numbers_of lists.far) (sym is)

-- the list of a near literal
pub near-own : (lists : LiteralLists) (literal : ℤ) (key : ℕ) → key ≡ place_of literal → key < 1048576
    → numbers_at lists literal ≡ get_or lists.near.items key []
unfolding numbers_at
near-own lists literal key is within =
    at-near lists.near.items lists.far literal (omega (arith, is, within)) ∙ ap (λ k. get_or lists.near.items k []) (sym is)

-- no list loses a number, where that of one literal is another one
pub keeps-each : (lists lists' : LiteralLists) (literal : ℤ) → KeepsNumbers (numbers_at lists literal) (numbers_at lists' literal)
    → ((x : ℤ) → int_eq x literal ≡ false → numbers_at lists' x ≡ numbers_at lists x) → KeepsEach lists lists'
keeps-each lists lists' literal own others = record {
  kept = λ x. record {
    kept = λ n listed.
        elim (int_eq x literal) as (λ b. int_eq x literal ≡ b → has_number n (numbers_at lists' x) ≡ true) [
          | true ↦ λ same.
              let is : x ≡ literal = int_eq-true x literal same in
              ap (λ y. has_number n (numbers_at lists' y)) is
              ∙ own.kept n (ap (λ y. has_number n (numbers_at lists y)) (sym is) ∙ listed)
          | false ↦ λ other. ap (has_number n) (others x other) ∙ listed
        ] refl;
  };
}

-- places were added, with empty lists
pub keeps-grown : (lists lists' : LiteralLists) → ((k : ℕ) → get_or lists'.near.items k [] ≡ get_or lists.near.items k [])
    → lists'.far ≡ lists.far → KeepsEach lists lists'
unfolding numbers_at
keeps-grown lists lists' grown far = record {
  kept = λ x. record {
    kept = λ n listed.
        ap (has_number n)
        (ap (λ (f : NumberLists). numbers_in lists'.near.items f x) far
        ∙ ap (λ l. if nat_lt (place_of x) 1048576 then l else numbers_of lists.far (place_of x)) (grown (place_of x)))
        ∙ listed;
  };
}

-- The near lists alone change, at the place of one literal, once places were added.
module _ (lists lists' : LiteralLists) (near : List (List ℕ)) (literal : ℤ) (key : ℕ) (list : List ℕ) (is : key ≡ place_of literal)
    (within : key < 1048576) (there : key < length near) (grown : (k : ℕ) → get_or near k [] ≡ get_or lists.near.items k [])
    (same : lists'.near.items ≡ set near key list) (far : lists'.far ≡ lists.far) where
  pub near-changed : numbers_at lists' literal ≡ list
  near-changed =
      near-own lists' literal key is within ∙ ap (λ (l : List (List ℕ)). get_or l key []) same ∙ get_or-set_same near key list [] there

  pub near-others : (x : ℤ) → int_eq x literal ≡ false → numbers_at lists' x ≡ numbers_at lists x
  unfolding numbers_at
  near-others x other =
      ap (λ (l : List (List ℕ)). numbers_in l lists'.far x) same
      ∙ ap (λ (f : NumberLists). numbers_in (set near key list) f x) far
      ∙ ap (λ l. if nat_lt (place_of x) 1048576 then l else numbers_of lists.far (place_of x))
      (get_or-set_other near key (place_of x) list [] (λ same_place. other-place x literal other (same_place ∙ is)) ∙ grown (place_of x))

  pub keeps-near : (was : List ℕ) → was ≡ get_or near key was → KeepsNumbers was list → KeepsEach lists lists'
  keeps-near was at kept =
      let own : numbers_at lists literal ≡ was =
      near-own lists literal key is within ∙ sym (grown key) ∙ sym (get_or_read near key was there at []) in
      keeps-each lists lists' literal (record {
        kept = λ n listed. ap (has_number n) near-changed ∙ kept.kept n (ap (has_number n) (sym own) ∙ listed);
      }) near-others

pub same-each : (lists : LiteralLists) → KeepsEach lists lists
same-each lists = record { kept = λ x. record { kept = λ n h. h } }

-- one list after another of the same lists
pub each-along : {a b c : LiteralLists} → KeepsEach a b → KeepsEach b c → KeepsEach a c
each-along k l = record { kept = λ x. record { kept = λ n h. (l.kept x).kept n ((k.kept x).kept n h) } }
