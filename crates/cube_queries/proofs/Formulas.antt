-- Clauses that are conjoined one by one.
use Rattle.std.proofs.Common.{◌≡◌, ◌∙◌, ◌<◌, ◌≤◌, ◌+◌, ◌-◌, ◌&&◌, ℕ, Bool, true, false, ℤ, List, [], ◌∷◌, length, take}
use Rattle.std.proofs.Common.{drop, refl, sym, ap, arith}
use Rattle.std.specs.Prelude.{slice_index_or}
use Rattle.std.specs.List.{list_all}
use Rattle.std.proofs.lemmas.List.{take-append-drop, take_more}
use Rattle.std.proofs.lemmas.List.Folds.{list_all-append}
use Rattle.cnf_base.specs.Truth.{Assignment, clause_holds}

and_true : (b : Bool) → (b && true) ≡ b
and_true true = refl
and_true false = refl

and_false : (b : Bool) → (b && false) ≡ false
and_false true = refl
and_false false = refl

-- one clause more
pub one_more : (clauses : List (List ℤ)) (a : Assignment) (number : ℕ) → 0 < number → number ≤ length clauses
    → list_all (clause_holds a) (take number clauses)
    ≡ (list_all (clause_holds a) (take (number - 1) clauses) && clause_holds a (slice_index_or clauses (number - 1) []))
one_more clauses a number some within =
    let before : number - 1 + 1 ≡ number = omega (arith, some) in
    ap (λ (n : ℕ). list_all (clause_holds a) (take n clauses)) (sym before)
    ∙ ap (list_all (clause_holds a)) (take_more clauses (number - 1) [] (omega (arith, some, within)))
    ∙ list_all-append (clause_holds a) (take (number - 1) clauses) (slice_index_or clauses (number - 1) [] ∷ [])
    ∙ ap (λ (b : Bool). list_all (clause_holds a) (take (number - 1) clauses) && b) (and_true (clause_holds a (slice_index_or clauses
    (number - 1) [])))

-- where some of them don't hold, the formula doesn't
pub none_holds : (clauses : List (List ℤ)) (a : Assignment) (number : ℕ) → list_all (clause_holds a) (take number clauses) ≡ false
    → list_all (clause_holds a) clauses ≡ false
none_holds clauses a number none =
    ap (list_all (clause_holds a)) (sym (take-append-drop number clauses))
    ∙ list_all-append (clause_holds a) (take number clauses) (drop number clauses)
    ∙ ap (λ (b : Bool). b && list_all (clause_holds a) (drop number clauses)) none

-- an empty clause holds nowhere
pub empty_holds : (clauses : List (List ℤ)) (a : Assignment) (number : ℕ) → 0 < number → number ≤ length clauses
    → slice_index_or clauses (number - 1) [] ≡ [] → list_all (clause_holds a) clauses ≡ false
empty_holds clauses a number some within empty =
    none_holds clauses a number
    (one_more clauses a number some within
    ∙ ap (λ (c : List ℤ). list_all (clause_holds a) (take (number - 1) clauses) && clause_holds a c) empty
    ∙ and_false (list_all (clause_holds a) (take (number - 1) clauses)))

pub all_taken : (clauses : List (List ℤ)) → take (length clauses) clauses ≡ clauses
all_taken [] = refl
all_taken (clause ∷ clauses) = ap (λ (cs : List (List ℤ)). clause ∷ cs) (all_taken clauses)
