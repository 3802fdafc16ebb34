-- Two lists that have each set of literals equally often: an addition is good over both or over neither, and they stay such where one
-- loses a clause by its list and the other by its set.
use Rattle.std.proofs.Common.{◌≡◌, ℕ, ◌+◌, ◌<◌, Bool, true, false, cond, not, ◌||◌, ℤ, List, [], ◌∷◌, ◌++◌, refl, sym, ap, ◌∙◌, subst}
use Rattle.std.proofs.Common.{None, Some, if◌then◌else◌, arith, inl, inr, length}
use Rattle.std.specs.List.{list_any, list_all, count_by}
use Rattle.std.proofs.lemmas.Bool.{and_parts, and_from, or_cases, or_left, or_right}
use Rattle.lrat_rules.specs.declared.outcome.Reason.TheVariants.{CandidateOpen}
use Rattle.lrat_rules.specs.Chain.{FalseSet}
use Rattle.lrat_rules.specs.Addition.{holds_negated}
use Rattle.drat_text.specs.declared.step.DratStep.{DratStep}
use Rattle.drat_text.specs.declared.step.DratStep.TheVariants.{Add as adds, Delete as deletes}
use Rattle.drat_rules.specs.Clauses.{same_list, same_set, is_among, without_first, without_first_by}
use Rattle.drat_rules.specs.Quiet.{closed_under, IsQuiet, has_quiet}
use Rattle.drat_rules.specs.Addition.{others_of, passes_candidate, open_fault, drat_fault}
use Rattle.drat_rules.specs.Run.{fault_or, first_fault, first_fault_by, adds_empty, drat_verdict, drat_verdict_at, drat_verdict_by}
use Rattle.drat_rules.specs.Hits.{DeletesStanding}
use Rattle.drat_rules.proofs.Counts.{one_if, count-cons, count-push, counted, found}
use Rattle.drat_rules.proofs.QuietSets.{has_quiet-some, some_quiet}
use Rattle.drat_rules.proofs.SameSets.{same_test, same_set-refl, same_set-sym, same_set-tests, same_list-set, same_set-append, holds_negated-sets}
use Rattle.drat_rules.proofs.SameSets.{all-sets, closed_under-sets, others_of-sets}

-- each set of literals stands equally often in both lists
record HaveSameSets (clauses others : List (List ℤ)) : Type 0 where
  pub counts : (clause : List ℤ) → count_by (same_set clause) clauses ≡ count_by (same_set clause) others

swapped : (clauses others : List (List ℤ)) → HaveSameSets clauses others → HaveSameSets others clauses
swapped clauses others same = record { counts = λ clause. sym (same.counts clause) }

-- what sets alone decide
abbrev OfSets : (List ℤ → Bool) → Type 0
OfSets p = (c d : List ℤ) → same_set c d ≡ true → p c ≡ p d

-- what all of a list pass, one of them with this set passes
at_set : (p : List ℤ → Bool) → OfSets p → (cs : List (List ℤ)) (c : List ℤ) → list_all p cs ≡ true → list_any (same_set c) cs ≡ true
    → p c ≡ true
at_set p of [] c all any = cc
at_set p of (d ∷ ds) c all any =
    elim (or_cases (same_set c d) _ any) [
      | inl here ↦ of c d here ∙ (and_parts (p d) _ all).0
      | inr later ↦ at_set p of ds c (and_parts (p d) _ all).1 later
    ]

every_set : (p : List ℤ → Bool) (cs : List (List ℤ)) → ((c : List ℤ) → list_any (same_set c) cs ≡ true → p c ≡ true)
    → list_all p cs ≡ true
every_set p [] each = refl
every_set p (c ∷ cs) each =
    and_from _ _ (each c (or_left _ _ (same_set-refl c)))
    (every_set p cs (λ d m. each d (or_right (same_set d c) _ m)))

is_there : (clauses others : List (List ℤ)) → HaveSameSets clauses others → (c : List ℤ) → list_any (same_set c) clauses ≡ true
    → list_any (same_set c) others ≡ true
is_there clauses others same c m =
    found (same_set c) others (subst (λ (k : ℕ). 0 < k) (same.counts c) (counted (same_set c) clauses m))

all_stand : (p : List ℤ → Bool) → OfSets p → (clauses others : List (List ℤ)) → HaveSameSets clauses others
    → list_all p clauses ≡ true → list_all p others ≡ true
all_stand p of clauses others same all =
    every_set p others (λ c m. at_set p of clauses c all (is_there others clauses (swapped clauses others same) c m))

-- quiet sets are the same
quiet_stands : (clauses others : List (List ℤ)) → HaveSameSets clauses others → (n : FalseSet) → IsQuiet clauses n → IsQuiet others n
quiet_stands clauses others same n quiet = record {
  apart = quiet.apart;
  closed = all_stand (closed_under n) (closed_under-sets n) clauses others same quiet.closed;
}

has_quiet-stands : (clauses others : List (List ℤ)) → HaveSameSets clauses others → (c d : List ℤ) → same_set c d ≡ true
    → has_quiet clauses c ≡ true → has_quiet others d ≡ true
has_quiet-stands clauses others same c d h some =
    let one = some_quiet clauses c some in
    has_quiet-some others d one.set (quiet_stands clauses others same one.set one.quiet) (all-sets one.set c d h one.falsifies)

has_quiet-sets : (clauses others : List (List ℤ)) → HaveSameSets clauses others → (c d : List ℤ) → same_set c d ≡ true
    → has_quiet clauses c ≡ has_quiet others d
has_quiet-sets clauses others same c d h =
    same_test _ _ (has_quiet-stands clauses others same c d h)
    (has_quiet-stands others clauses (swapped clauses others same) d c (same_set-sym c d h))

-- so is the fault of an addition
itself : (clauses : List (List ℤ)) → HaveSameSets clauses clauses
itself clauses = record { counts = λ clause. refl }

passes-sets : (clauses : List (List ℤ)) (pivot : ℤ) (clause : List ℤ) → OfSets (passes_candidate clauses pivot clause)
passes-sets clauses pivot clause c d h =
    λ i. not (holds_negated-sets pivot c d h i)
    || not (has_quiet-sets clauses clauses (itself clauses) (clause ++ others_of pivot c) (clause ++ others_of pivot d)
    (same_set-append clause clause (others_of pivot c) (others_of pivot d) (same_set-refl clause) (others_of-sets pivot c d h)) i)

passes-stands : (clauses others : List (List ℤ)) → HaveSameSets clauses others → (pivot : ℤ) (clause c : List ℤ)
    → passes_candidate clauses pivot clause c ≡ passes_candidate others pivot clause c
passes-stands clauses others same pivot clause c =
    ap (λ b. not (holds_negated pivot c) || not b)
    (has_quiet-sets clauses others same (clause ++ others_of pivot c) (clause ++ others_of pivot c)
    (same_set-refl (clause ++ others_of pivot c)))

all-pass : (clauses others : List (List ℤ)) → HaveSameSets clauses others → (pivot : ℤ) (clause : List ℤ)
    → list_all (passes_candidate clauses pivot clause) clauses ≡ true → list_all (passes_candidate others pivot clause) others ≡ true
all-pass clauses others same pivot clause all =
    all_stand (passes_candidate others pivot clause) (passes-sets others pivot clause) clauses others same
    (ap (λ p. list_all p clauses) (λ i c. passes-stands others clauses (swapped clauses others same) pivot clause c i) ∙ all)

open_fault-sets : (clauses others : List (List ℤ)) → HaveSameSets clauses others → (clause : List ℤ)
    → open_fault clauses clause ≡ open_fault others clause
open_fault-sets clauses others same [] = refl
open_fault-sets clauses others same (pivot ∷ rest) =
    ap (λ b. if b then None else Some CandidateOpen)
    (same_test _ _ (all-pass clauses others same pivot (pivot ∷ rest))
    (all-pass others clauses (swapped clauses others same) pivot (pivot ∷ rest)))

drat_fault-sets : (clauses others : List (List ℤ)) → HaveSameSets clauses others → (clause : List ℤ)
    → drat_fault clauses clause ≡ drat_fault others clause
drat_fault-sets clauses others same clause =
    λ i. if has_quiet-sets clauses others same clause clause (same_set-refl clause) i then open_fault-sets clauses others same clause i else
    None

-- behind an addition
added : (clauses others : List (List ℤ)) → HaveSameSets clauses others → (clause : List ℤ)
    → HaveSameSets (clauses ++ clause ∷ []) (others ++ clause ∷ [])
added clauses others same clause = record {
  counts = λ c. count-push (same_set c) clauses clause ∙ ap (λ k. k + one_if (same_set c clause)) (same.counts c)
      ∙ sym (count-push (same_set c) others clause);
}

-- A clause that is taken out, by an equality of clauses with the same set, is counted once less, and the others as before.
taken : (same : List ℤ → List ℤ → Bool) → ((c d : List ℤ) → same c d ≡ true → same_set c d ≡ true) → (e c : List ℤ) (cs : List (List ℤ))
    → list_any (same c) cs ≡ true
    → count_by (same_set e) cs ≡ one_if (same_set e c) + count_by (same_set e) (without_first_by same c cs)
taken same narrow e c [] h = cc
taken same narrow e c (d ∷ ds) h =
    elim (same c d)
    as (λ b. same c d ≡ b → (b || list_any (same c) ds) ≡ true
    → count_by (same_set e) (d ∷ ds) ≡ one_if (same_set e c)
    + count_by (same_set e) (cond b ds (d ∷ without_first_by same c ds))) [
      | true ↦ λ is any.
          count-cons (same_set e) d ds
          ∙ ap (λ b. one_if b + count_by (same_set e) ds) (sym (same_set-tests c d (narrow c d is) e))
      | false ↦ λ other any.
          let rest : count_by (same_set e) ds ≡ one_if (same_set e c) + count_by (same_set e) (without_first_by same c ds) =
          taken same narrow e c ds any in
          let whole : count_by (same_set e) (d ∷ ds) ≡ one_if (same_set e d) + count_by (same_set e) ds = count-cons (same_set e) d ds in
          let left : count_by (same_set e) (d ∷ without_first_by same c ds) ≡ one_if (same_set e d)
          + count_by (same_set e) (without_first_by same c ds) = count-cons (same_set e) d (without_first_by same c ds) in
          omega arith
    ] refl h

wider : (c : List ℤ) (cs : List (List ℤ)) → is_among cs c ≡ true → list_any (same_set c) cs ≡ true
wider c [] h = cc
wider c (d ∷ ds) h =
    elim (or_cases (same_list c d) _ h) [
      | inl here ↦ or_left _ _ (same_list-set c d here)
      | inr later ↦ or_right (same_set c d) _ (wider c ds later)
    ]

deleted : (clauses others : List (List ℤ)) → HaveSameSets clauses others → (clause : List ℤ) → is_among clauses clause ≡ true
    → HaveSameSets (without_first clause clauses) (without_first_by same_set clause others)
deleted clauses others same clause among = record {
  counts = λ c.
      let one : count_by (same_set c) clauses ≡ one_if (same_set c clause) + count_by (same_set c) (without_first clause clauses) =
      taken same_list same_list-set c clause clauses among in
      let two : count_by (same_set c) others ≡ one_if (same_set c clause)
      + count_by (same_set c) (without_first_by same_set clause others) =
      taken same_set (λ d e h. h) c clause others (is_there clauses others same clause (wider clause clauses among)) in
      let both : count_by (same_set c) clauses ≡ count_by (same_set c) others = same.counts c in
      omega arith;
}

-- from step to step
faults-sets : (place : ℕ) (clauses others : List (List ℤ)) (steps : List DratStep) → HaveSameSets clauses others
    → DeletesStanding clauses steps → first_fault_by same_set place others steps ≡ first_fault place clauses steps
faults-sets place clauses others [] same stand = refl
faults-sets place clauses others (adds clause ∷ steps) same stand =
    λ i. fault_or place (sym (drat_fault-sets clauses others same clause) i)
    (faults-sets (place + 1) (clauses ++ clause ∷ []) (others ++ clause ∷ []) steps (added clauses others same clause) stand i)
faults-sets place clauses others (deletes clause ∷ steps) same stand =
    faults-sets (place + 1) (without_first clause clauses) (without_first_by same_set clause others) steps
    (deleted clauses others same clause stand.0) stand.1

pub any_order : (clauses : List (List ℤ)) (steps : List DratStep) → DeletesStanding clauses steps
    → drat_verdict_by same_set clauses steps ≡ drat_verdict clauses steps
any_order clauses steps stand =
    ap (drat_verdict_at (length steps + 1) (list_any adds_empty steps)) (faults-sets 1 clauses clauses steps (itself clauses) stand)
