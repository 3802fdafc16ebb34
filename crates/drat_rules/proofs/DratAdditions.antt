-- The fault of an addition by what propagation tells of the clause and of each candidate, where clauses have numbers.
use Rattle.std.proofs.Common.{◌≡◌, ℕ, Bool, true, false, not, ◌||◌, ℤ, List, [], ◌∷◌, ◌++◌, None, Some, if◌then◌else◌}
use Rattle.std.proofs.Common.{refl, sym, ◌∙◌}
use Rattle.std.specs.List.{list_all}
use Rattle.std.proofs.lemmas.Bool.{and_parts, not_from_false, false_from_ne_true}
use Rattle.std.proofs.lemmas.List.Folds.{list_all-append}
use Rattle.lrat_rules.specs.declared.outcome.Reason.TheVariants.{NoConflict, CandidateOpen}
use Rattle.lrat_rules.specs.State.{Live, clause_at}
use Rattle.lrat_rules.specs.Addition.{holds_negated}
use Rattle.drat_rules.specs.Quiet.{has_quiet}
use Rattle.drat_rules.specs.Addition.{others_of, passes_candidate, open_fault, drat_fault}
use Rattle.drat_rules.specs.FromLrat.{HaveSame}
use Rattle.drat_rules.proofs.QuietSets.{HasQuietSet, some_quiet, has_quiet-some}
use Rattle.drat_rules.proofs.Counts.{at_clause, all_clauses}
use Rattle.drat_rules.proofs.LratAdditions.{live_in_list, list_is_live}

pub drat_fault-refuted : (clauses : List (List ℤ)) (clause : List ℤ) → has_quiet clauses clause ≡ false → drat_fault clauses clause ≡ None
drat_fault-refuted clauses clause h = rw h refl

pub drat_fault-empty : (clauses : List (List ℤ)) → has_quiet clauses [] ≡ true → drat_fault clauses [] ≡ Some NoConflict
drat_fault-empty clauses h = rw h refl

module _ (live : Live) (clauses : List (List ℤ)) (pivot : ℤ) (others : List ℤ) (same : HaveSame live clauses) where
  abbrev passes_by : List ℤ → Bool
  passes_by other = passes_candidate clauses pivot (pivot ∷ others) other

  -- each candidate is refuted
  pub drat_fault-resolved : ((id : ℕ) (other : List ℤ) → clause_at live id ≡ Some other → holds_negated pivot other ≡ true
      → has_quiet clauses ((pivot ∷ others) ++ others_of pivot other) ≡ false) → drat_fault clauses (pivot ∷ others) ≡ None
  drat_fault-resolved refuted =
      let passes : list_all passes_by clauses ≡ true = all_clauses passes_by clauses (λ other among.
      let at : (id : ℕ) × (clause_at live id ≡ Some other) = list_is_live live clauses same other among in
      elim (holds_negated pivot other)
      as (λ b. holds_negated pivot other ≡ b
      → (not b || not (has_quiet clauses ((pivot ∷ others) ++ others_of pivot other))) ≡ true) [
        | true ↦ λ negated. not_from_false _ (refuted at.0 other at.1 negated)
        | false ↦ λ free. refl
      ] refl) in
      elim (has_quiet clauses (pivot ∷ others)) as (λ b. (if b then open_fault clauses (pivot ∷ others) else None) ≡ None) [
        | true ↦ rw passes refl
        | false ↦ refl
      ]

  -- one candidate is not
  fails : (c q : Bool) → c ≡ true → q ≡ true → (not c || not q) ≡ true → ⊥
  fails true true e f h = cc
  fails true false e f h = cc
  fails false q e f h = cc

  pub drat_fault-open : (id : ℕ) (other : List ℤ) → clause_at live id ≡ Some other → holds_negated pivot other ≡ true
      → has_quiet clauses ((pivot ∷ others) ++ others_of pivot other) ≡ true → drat_fault clauses (pivot ∷ others) ≡ Some CandidateOpen
  drat_fault-open id other at negated found =
      let some : HasQuietSet clauses ((pivot ∷ others) ++ others_of pivot other) =
      some_quiet clauses ((pivot ∷ others) ++ others_of pivot other) found in
      let parts : (list_all some.set (pivot ∷ others) ≡ true) × (list_all some.set (others_of pivot other) ≡ true) =
      and_parts _ _ (sym (list_all-append some.set (pivot ∷ others) (others_of pivot other)) ∙ some.falsifies) in
      let own : has_quiet clauses (pivot ∷ others) ≡ true = has_quiet-some clauses (pivot ∷ others) some.set some.quiet parts.0 in
      let not_all : list_all passes_by clauses ≡ false = false_from_ne_true _ (λ all.
      fails (holds_negated pivot other) (has_quiet clauses ((pivot ∷ others) ++ others_of pivot other)) negated found
      (at_clause passes_by clauses other all (live_in_list live clauses same id other at))) in
      rw (own, not_all) refl
