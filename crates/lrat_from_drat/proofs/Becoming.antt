-- What a step becomes, by what the judge tells of it.
use Rattle.std.proofs.Common.{◌≡◌, ℕ, zero, suc, ◌+◌, ◌≤◌, Bool, true, false, ℤ, List, [], ◌∷◌, ◌++◌, length, map, is_none}
use Rattle.std.proofs.Common.{None, Some, if◌then◌else◌, refl, sym, ap, ◌∙◌, arith, inl, inr, nat_eq}
use Rattle.std.specs.Option.{option_map}
use Rattle.std.proofs.lemmas.Bool.{cases_lt}
use Rattle.std.proofs.lemmas.List.{append-nil, get_or_past, map-append}
use Rattle.cnf_base.specs.declared.list.Group.{Group}
use Rattle.cnf_base.specs.declared.step.Step.{Step}
use Rattle.cnf_base.specs.declared.step.Step.TheVariants.{Add, Delete}
use Rattle.cnf_base.specs.ProofText.{is_empty}
use Rattle.drat_rules.specs.Clauses.{Equality}
use Rattle.drat_rules.specs.Quiet.{has_quiet}
use Rattle.drat_checker.specs.Places.{IsFirst, IsNone, Place, Places, place_at, standing}
use Rattle.drat_checker.specs.Hints.{is_tautology}
use Rattle.drat_checker.specs.Lines.{group_ids, ids_of}
use Rattle.lrat_from_drat.specs.Lrat.{Outline, Added, Deleted, addition, beginning_by, deletion, first_twin, is_dropped}
use Rattle.lrat_from_drat.specs.Lrat.{number_if, outline}
use Rattle.lrat_from_drat.specs.Lrat.{tautologies_below, tautologies_of}

-- outlines of steps one after another
pub alike-append : (xs ys : List Step) (front piece : List Outline) → map outline xs ≡ front → map outline ys ≡ piece
    → map outline (xs ++ ys) ≡ front ++ piece
alike-append xs ys front piece first second =
    map-append outline xs ys ∙ ap (λ (l : List Outline). l ++ map outline ys) first ∙ ap (λ (l : List Outline). front ++ l) second

-- an addition, with its line or without
abbrev line : Places → List ℤ → Outline
line places clause = Added (length places + 1) clause (has_quiet (standing places) clause) (group_ids places clause)

pub no-addition : (places : Places) (clause : List ℤ) → is_tautology clause ≡ true → [] ≡ addition places clause
no-addition places clause is = sym (ap (λ (b : Bool). if b then [] else line places clause ∷ []) is)

pub one-addition : (places : Places) (id : ℕ) (clause : List ℤ) (hints : List ℕ) (groups : List Group) → id ≡ length places + 1
    → is_tautology clause ≡ false → is_empty hints ≡ has_quiet (standing places) clause → ids_of groups ≡ group_ids places clause
    → map outline (Add id clause hints groups ∷ []) ≡ addition places clause
one-addition places id clause hints groups at fails by_hints named =
    ap (λ (n : ℕ). Added n clause (is_empty hints) (ids_of groups) ∷ []) at
    ∙ ap (λ (b : Bool). Added (length places + 1) clause b (ids_of groups) ∷ []) by_hints
    ∙ ap (λ (ids : List ℕ). Added (length places + 1) clause (has_quiet (standing places) clause) ids ∷ []) named
    ∙ sym (ap (λ (b : Bool). if b then [] else line places clause ∷ []) fails)

-- a deletion, with its line or without
pub no-deletion : (last number : ℕ) (place : Place) → is_none place ≡ true → [] ≡ deletion last number place
no-deletion last number None gone = refl
no-deletion last number (Some clause) gone = cc

pub one-deletion : (last count number id : ℕ) (place : Place) → last ≡ count → id ≡ number + 1 → is_none place ≡ false
    → map outline (Delete last (id ∷ []) ∷ []) ≡ deletion count number place
one-deletion last count number id None at is stays = cc
one-deletion last count number id (Some clause) at is stays =
    ap (λ (n : ℕ). Deleted n (id ∷ []) ∷ []) at ∙ ap (λ (n : ℕ). Deleted count (n ∷ []) ∷ []) is

-- which clause goes
twin-none : (same : Equality) (clause : List ℤ) (places : Places) → ((n : ℕ) (other : List ℤ) → place_at places n ≡ Some other
    → same clause other ≡ false) → first_twin same clause places ≡ None
twin-none same clause [] absent = refl
twin-none same clause (None ∷ places) absent =
    ap (option_map (λ (n : ℕ). n + 1)) (twin-none same clause places (λ n other at. absent (suc n) other at))
twin-none same clause (Some own ∷ places) absent =
    ap (λ (b : Bool). if b then Some 0 else option_map (λ (n : ℕ). n + 1) (first_twin same clause places)) (absent zero own refl)
    ∙ ap (option_map (λ (n : ℕ). n + 1)) (twin-none same clause places (λ n other at. absent (suc n) other at))

pub no-twin : (same : Equality) (clause : List ℤ) (places : Places) → IsNone same clause places → first_twin same clause places ≡ None
no-twin same clause places none = twin-none same clause places none.absent

some-inside : (x y : List ℤ) → Some x ≡ Some y → x ≡ y
some-inside x y e = cc

one-more : (n : ℕ) → Some (n + 1) ≡ Some (suc n)
one-more n = let e : n + 1 ≡ suc n = omega arith in ap Some e

twin-first : (same : Equality) (clause : List ℤ) (places : Places) (number : ℕ) (own : List ℤ) → place_at places number ≡ Some own
    → same clause own ≡ true → ((n : ℕ) (other : List ℤ) → place_at places n ≡ Some other → same clause other ≡ true → number ≤ n)
    → first_twin same clause places ≡ Some number
twin-first same clause [] number own at twin least = cc
twin-first same clause (None ∷ places) zero own at twin least = cc
twin-first same clause (None ∷ places) (suc n) own at twin least =
    ap (option_map (λ (k : ℕ). k + 1)) (twin-first same clause places n own at twin
    (λ m other is t. let le : suc n ≤ suc m = least (suc m) other is t in omega arith)) ∙ one-more n
twin-first same clause (Some other ∷ places) zero own at twin least =
    ap (λ (b : Bool). if b then Some 0 else option_map (λ (k : ℕ). k + 1) (first_twin same clause places))
    (ap (same clause) (some-inside other own at) ∙ twin)
twin-first same clause (Some other ∷ places) (suc n) own at twin least =
    elim (same clause other) as (λ b. same clause other ≡ b
    → (if b then Some 0 else option_map (λ (k : ℕ). k + 1) (first_twin same clause places)) ≡ Some (suc n)) [
      | true ↦ λ t. let low : suc n ≤ zero = least zero other refl t in absurd (omega arith)
      | false ↦ λ differs.
          ap (option_map (λ (k : ℕ). k + 1)) (twin-first same clause places n own at twin
          (λ m next is t. let le : suc n ≤ suc m = least (suc m) next is t in omega arith)) ∙ one-more n
    ] refl

pub first-twin : (same : Equality) (clause : List ℤ) (places : Places) (number : ℕ) → IsFirst same clause places number
    → first_twin same clause places ≡ Some number
first-twin same clause places number first = twin-first same clause places number first.own first.stands first.twin first.least

-- the formula's tautologies: one number more, and the end
pub below-more : (places : Places) (ids more : List ℕ) (number : ℕ) → ids ≡ tautologies_below number places
    → more ≡ ids ++ number_if (is_dropped (place_at places number)) (number + 1) → more ≡ tautologies_below (number + 1) places
below-more places ids more number so_far is =
    let next : suc number ≡ number + 1 = omega arith in
    is ∙ ap (λ (l : List ℕ). l ++ number_if (is_dropped (place_at places number)) (number + 1)) so_far
    ∙ ap (λ (n : ℕ). tautologies_below n places) next

pub below-pass : (places : Places) (ids : List ℕ) (number : ℕ) → ids ≡ tautologies_below number places
    → is_dropped (place_at places number) ≡ false → ids ≡ tautologies_below (number + 1) places
below-pass places ids number so_far kept =
    below-more places ids ids number so_far
    (sym (append-nil ids) ∙ ap (λ (b : Bool). ids ++ number_if b (number + 1)) (sym kept))

pub below-push : (places : Places) (ids : List ℕ) (number : ℕ) → ids ≡ tautologies_below number places
    → is_dropped (place_at places number) ≡ true → ids ++ (number + 1) ∷ [] ≡ tautologies_below (number + 1) places
below-push places ids number so_far dropped =
    below-more places ids (ids ++ (number + 1) ∷ []) number so_far (ap (λ (b : Bool). ids ++ number_if b (number + 1)) (sym dropped))

none-past : (places : Places) (number : ℕ) → length places ≤ number → tautologies_below number places ≡ tautologies_of places
none-past places zero past = let none : zero ≡ length places = omega (arith, past) in ap (λ (n : ℕ). tautologies_below n places) none
none-past places (suc number) past = elim (cases_lt number (length places)) [
  | inl within ↦ let all : suc number ≡ length places = omega (arith, past, within) in ap (λ (n : ℕ). tautologies_below n places) all
  | inr beyond ↦
      ap (λ (p : Place). tautologies_below number places ++ number_if (is_dropped p) (number + 1)) (get_or_past places number None beyond)
      ∙ append-nil (tautologies_below number places) ∙ none-past places number beyond
]

pub below-end : (places : Places) (ids : List ℕ) (number : ℕ) → length places ≤ number → ids ≡ tautologies_below number places
    → ids ≡ tautologies_of places
below-end places ids number past so_far = so_far ∙ none-past places number past

-- the line that deletes them
pub begins-so : (last count : ℕ) (ids : List ℕ) → last ≡ count → nat_eq (length ids) 0 ≡ false
    → map outline (Delete last ids ∷ []) ≡ beginning_by count ids
begins-so last count [] at some = cc
begins-so last count (id ∷ ids) at some = ap (λ (n : ℕ). Deleted n (id ∷ ids) ∷ []) at
