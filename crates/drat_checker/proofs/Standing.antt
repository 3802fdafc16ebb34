-- The clauses of places in their order: as a clause is put behind the others, or the first of its kind is taken out.
use Rattle.std.proofs.Common.{◌≡◌, ℕ, zero, suc, ◌<◌, ◌≤◌, true, false, ℤ, List, [], ◌∷◌, ◌++◌, length, map, set, None, Some, if◌then◌else◌}
use Rattle.std.proofs.Common.{Bool, ◌⊎◌, inl, inr, refl, sym, ap, ◌∙◌, subst, arith}
use Rattle.std.specs.List.{list_all, list_any}
use Rattle.std.proofs.lemmas.Bool.{and_from, and_parts, or_cases, or_left, or_right}
use Rattle.std.proofs.lemmas.Bool.Decides.{Decides-int_eq}
use Rattle.std.proofs.lemmas.Slice.Eq.{slice_eq-Decides}
use Rattle.drat_rules.specs.Clauses.{Equality, same_list, is_among, without_first_by}
use Rattle.drat_checker.specs.Places.{Places, place_at, standing}

-- the test of two clauses, both ways
pub same_list-true : (c d : List ℤ) → same_list c d ≡ true → c ≡ d
same_list-true c d h = (slice_eq-Decides Decides-int_eq c d (same_list c d) refl).0 h

pub eq-same_list : (c d : List ℤ) → c ≡ d → same_list c d ≡ true
eq-same_list c d e = (slice_eq-Decides Decides-int_eq c d (same_list c d) refl).1 e

pub same_inside : (x y : List ℤ) → Some x ≡ Some y → x ≡ y
same_inside x y e = cc

-- a clause of a place is among those that stand, and what each passes, all pass
pub among-place : (ps : Places) (n : ℕ) (c : List ℤ) → place_at ps n ≡ Some c → is_among (standing ps) c ≡ true
among-place [] n c at = cc
among-place (None ∷ ps) zero c at = cc
among-place (None ∷ ps) (suc n) c at = among-place ps n c at
among-place (Some d ∷ ps) zero c at = or_left _ _ (eq-same_list c d (sym (same_inside d c at)))
among-place (Some d ∷ ps) (suc n) c at = or_right (same_list c d) _ (among-place ps n c at)

pub all-standing : (p : List ℤ → Bool) (ps : Places) → ((n : ℕ) (c : List ℤ) → place_at ps n ≡ Some c → p c ≡ true)
    → list_all p (standing ps) ≡ true
all-standing p [] each = refl
all-standing p (None ∷ ps) each = all-standing p ps (λ n c at. each (suc n) c at)
all-standing p (Some d ∷ ps) each = and_from _ _ (each zero d refl) (all-standing p ps (λ n c at. each (suc n) c at))

-- a clause that is among others passes what they all pass
pub at_clause : (p : List ℤ → Bool) (cs : List (List ℤ)) (c : List ℤ) → list_all p cs ≡ true → is_among cs c ≡ true → p c ≡ true
at_clause p [] c all any = cc
at_clause p (d ∷ ds) c all any =
    elim (or_cases (same_list c d) _ any) [
      | inl here ↦ subst (λ e. p e ≡ true) (sym (same_list-true c d here)) (and_parts (p d) _ all).0
      | inr later ↦ at_clause p ds c (and_parts (p d) _ all).1 later
    ]

pub fails_clause : (p : List ℤ → Bool) (cs : List (List ℤ)) (c : List ℤ) → p c ≡ false → is_among cs c ≡ true → list_all p cs ≡ false
fails_clause p cs c fails among =
    elim (list_all p cs) as (λ b. list_all p cs ≡ b → b ≡ false) [
      | true ↦ λ all. sym (at_clause p cs c all among) ∙ fails
      | false ↦ λ _. refl
    ] refl

-- a clause behind the others
pub standing-push : (ps : Places) (c : List ℤ) → standing (ps ++ Some c ∷ []) ≡ standing ps ++ c ∷ []
standing-push [] c = refl
standing-push (None ∷ ps) c = standing-push ps c
standing-push (Some d ∷ ps) c = ap (λ l. d ∷ l) (standing-push ps c)

pub place-push : (ps : Places) (c : List ℤ) (n : ℕ) (d : List ℤ) → place_at (ps ++ Some c ∷ []) n ≡ Some d
    → (place_at ps n ≡ Some d) ⊎ ((n ≡ length ps) × (c ≡ d))
place-push [] c zero d at = inr (refl, same_inside c d at)
place-push [] c (suc n) d at = cc
place-push (p ∷ ps) c zero d at = inl at
place-push (p ∷ ps) c (suc n) d at = elim (place-push ps c n d at) [ inl old ↦ inl old | inr new ↦ inr (ap suc new.0, new.1) ]

-- the places of clauses, one more, and what stands there
pub places-push : (cs : List (List ℤ)) (c : List ℤ) → map Some cs ++ Some c ∷ [] ≡ map Some (cs ++ c ∷ [])
places-push [] c = refl
places-push (d ∷ ds) c = ap (λ (ps : Places). Some d ∷ ps) (places-push ds c)

pub standing-all : (cs : List (List ℤ)) → standing (map Some cs) ≡ cs
standing-all [] = refl
standing-all (d ∷ ds) = ap (λ (l : List (List ℤ)). d ∷ l) (standing-all ds)

-- the first of its kind is taken out
pub place-within : (ps : Places) (n : ℕ) (c : List ℤ) → place_at ps n ≡ Some c → n < length ps
place-within [] n c at = cc
place-within (p ∷ ps) zero c at = omega arith
place-within (p ∷ ps) (suc n) c at = let rest : n < length ps = place-within ps n c at in omega arith

pub place-set : (ps : Places) (k n : ℕ) (d : List ℤ) → place_at (set ps k None) n ≡ Some d → place_at ps n ≡ Some d
place-set [] k n d at = at
place-set (p ∷ ps) zero zero d at = cc
place-set (p ∷ ps) zero (suc n) d at = at
place-set (p ∷ ps) (suc k) zero d at = at
place-set (p ∷ ps) (suc k) (suc n) d at = place-set ps k n d at

pub remove-first : (same : Equality) (ps : Places) (n : ℕ) (c own : List ℤ) → place_at ps n ≡ Some own → same c own ≡ true
    → ((m : ℕ) (d : List ℤ) → place_at ps m ≡ Some d → same c d ≡ true → n ≤ m)
    → standing (set ps n None) ≡ without_first_by same c (standing ps)
remove-first same [] n c own at twin least = cc
remove-first same (None ∷ ps) zero c own at twin least = cc
remove-first same (None ∷ ps) (suc n) c own at twin least =
    remove-first same ps n c own at twin (λ m d is t. let le : suc n ≤ suc m = least (suc m) d is t in omega arith)
remove-first same (Some d ∷ ps) zero c own at twin least =
    sym (ap (λ b. if b then standing ps else d ∷ without_first_by same c (standing ps))
    (ap (same c) (same_inside d own at) ∙ twin))
remove-first same (Some d ∷ ps) (suc n) c own at twin least =
    elim (same c d)
    as (λ b. same c d ≡ b → d ∷ standing (set ps n None) ≡ (if b then standing ps else d ∷ without_first_by same c (standing ps))) [
      | true ↦ λ t. let low : suc n ≤ zero = least zero d refl t in absurd (omega arith)
      | false ↦ λ other.
          ap (λ l. d ∷ l)
          (remove-first same ps n c own at twin (λ m e is t. let le : suc n ≤ suc m = least (suc m) e is t in omega arith))
    ] refl

-- there is none of its kind
pub without-none : (same : Equality) (ps : Places) (c : List ℤ) → ((m : ℕ) (d : List ℤ) → place_at ps m ≡ Some d → same c d ≡ false)
    → without_first_by same c (standing ps) ≡ standing ps
without-none same [] c none = refl
without-none same (None ∷ ps) c none = without-none same ps c (λ m d is. none (suc m) d is)
without-none same (Some d ∷ ps) c none =
    ap (λ b. if b then standing ps else d ∷ without_first_by same c (standing ps)) (none zero d refl)
    ∙ ap (λ l. d ∷ l) (without-none same ps c (λ m e is. none (suc m) e is))

-- a place is emptied: what each passes each does
pub all-emptied : (p : List ℤ → Bool) (ps : Places) (n : ℕ) → list_all p (standing ps) ≡ true
    → list_all p (standing (set ps n None)) ≡ true
all-emptied p [] n all = all
all-emptied p (None ∷ ps) zero all = all
all-emptied p (None ∷ ps) (suc n) all = all-emptied p ps n all
all-emptied p (Some d ∷ ps) zero all = (and_parts (p d) _ all).1
all-emptied p (Some d ∷ ps) (suc n) all = and_from _ _ (and_parts (p d) _ all).0 (all-emptied p ps n (and_parts (p d) _ all).1)

-- some clause passes: it is among them, and the other way; and what fails on a clause is passed still once that goes
pub some-clause : (p : List ℤ → Bool) (cs : List (List ℤ)) → list_any p cs ≡ true → (c : List ℤ) × (is_among cs c ≡ true) × (p c ≡ true)
some-clause p [] h = cc
some-clause p (d ∷ ds) h =
    elim (or_cases (p d) _ h) [
      | inl here ↦ (d, or_left _ _ (eq-same_list d d refl), here)
      | inr later ↦
          let rest : (c : List ℤ) × (is_among ds c ≡ true) × (p c ≡ true) = some-clause p ds later in
          (rest.0, or_right (same_list rest.0 d) _ rest.1, rest.2)
    ]

pub any-among : (p : List ℤ → Bool) (cs : List (List ℤ)) (c : List ℤ) → p c ≡ true → is_among cs c ≡ true → list_any p cs ≡ true
any-among p [] c passes among = cc
any-among p (d ∷ ds) c passes among =
    elim (or_cases (same_list c d) _ among) [
      | inl here ↦ or_left _ _ (subst (λ e. p e ≡ true) (same_list-true c d here) passes)
      | inr later ↦ or_right (p d) _ (any-among p ds c passes later)
    ]
