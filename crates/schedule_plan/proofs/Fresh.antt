-- The buckets before any occurrence is looked at: those of variables that occur are told apart.
use Rattle.std.proofs.Common.{◌≡◌, ℕ, suc, ◌+◌, ◌<◌, ◌⊎◌, ◌≢◌, inl, inr, true, List, length, set, slice_index, slice_index_or, sym, ap, ◌∙◌}
use Rattle.std.proofs.Common.{subst, arith, get_or-set_same, get_or-set_other, length-set}
use Rattle.std.proofs.lemmas.Bool.{cases_eq, cases_Bool, cases_lt}
use Rattle.std.proofs.lemmas.List.{get_or_default}
use Rattle.cnf_base.specs.Formula.{Formula}
use Rattle.schedule_plan.specs.declared.occurrence.Occurrence.{Occurrence}
use Rattle.schedule_plan.proofs.Climb.{no_occurrence, place_at}
use Rattle.schedule_plan.specs.Forest.{AreOccurrences, IsOccurrence, AreFresh, is_held}

-- after some of the occurrences
pub record IsFreshAfter (clauses variables : ℕ) (occurrences : List Occurrence) (n : ℕ) (buckets : List ℕ) : Type 0 where
  pub count : length buckets ≡ clauses + variables
  pub clauses_are : (item : ℕ) → item < clauses → slice_index buckets item ≡ variables
  pub results : (place : ℕ) → place < variables
      → ((slice_index buckets (clauses + place) ≡ variables) × ((k : ℕ) × (k < n) × (place_at occurrences k ≡ place)))
      ⊎ ((slice_index buckets (clauses + place) ≡ suc variables) × ((k : ℕ) → k < n → place_at occurrences k ≢ place))

fresh_behind : (clauses variables : ℕ) (occurrences : List Occurrence) (n : ℕ) (buckets : List ℕ) → place_at occurrences n < variables
    → IsFreshAfter clauses variables occurrences n buckets
    → IsFreshAfter clauses variables occurrences (n + 1) (set buckets (clauses + place_at occurrences n) variables)
fresh_behind clauses variables occurrences n buckets inside before =
    let at = place_at occurrences n in
    let other : (item : ℕ) → item ≢ clauses + at → slice_index (set buckets (clauses + at) variables) item ≡ slice_index buckets item =
    λ item differ. get_or-set_other buckets (clauses + at) item variables 0 differ in
    record {
      count = length-set buckets (clauses + at) variables ∙ before.count;
      clauses_are = λ item small. other item (omega (arith, small)) ∙ before.clauses_are item small;
      results = λ place small. elim (cases_eq at place) [
        | inl same ↦ inl (
          ap (λ p. slice_index (set buckets (clauses + at) variables) (clauses + p)) (sym same)
              ∙ get_or-set_same buckets (clauses + at) variables 0 (omega (arith, before.count, inside)),
          (n, omega arith, same),
        )
        | inr differ ↦
            let kept : slice_index (set buckets (clauses + at) variables) (clauses + place) ≡ slice_index buckets (clauses + place) =
            other (clauses + place) (λ same. differ (omega (arith, same))) in
            elim (before.results place small) [
              | inl there ↦ inl (kept ∙ there.0, (there.1.0, omega (arith, there.1.1), there.1.2))
              | inr none ↦ inr (
                kept ∙ none.0,
                λ k within. elim (cases_lt k n) [
                  | inl early ↦ none.1 k early
                  | inr late ↦ λ same. differ (ap (place_at occurrences) (omega (arith, within, late)) ∙ same)
                ],
              )
            ]
      ];
    }

-- one more occurrence
pub fresh_more : (clauses variables : ℕ) (occurrences : List Occurrence) (n : ℕ) (buckets : List ℕ) (place value : ℕ)
    → place ≡ clauses + place_at occurrences n → value ≡ variables → place_at occurrences n < variables
    → IsFreshAfter clauses variables occurrences n buckets → IsFreshAfter clauses variables occurrences (n + 1) (set buckets place value)
fresh_more clauses variables occurrences n buckets place value place_is value_is inside before =
    rw (place_is, value_is) (fresh_behind clauses variables occurrences n buckets inside before)

pub fresh_last : (formula : Formula) (order : List ℕ) (occurrences : List Occurrence) (buckets : List ℕ)
    → AreOccurrences formula order occurrences
    → IsFreshAfter (length formula.clauses) (length order) occurrences (length occurrences) buckets → AreFresh formula order buckets
fresh_last formula order occurrences buckets all done = record {
  count = done.count;
  clauses = done.clauses_are;
  results = λ place small. elim (done.results place small) [
    | inl there ↦
        let one = slice_index_or occurrences there.1.0 no_occurrence in
        let sound : IsOccurrence formula order one = all.sound there.1.0 no_occurrence there.1.1 in
        inl (there.0, (one.clause, sound.clause, subst (λ (p : ℕ). is_held formula order p one.clause ≡ true) there.1.2 sound.held))
    | inr none ↦ inr (
      none.0,
      λ clause within. elim (cases_Bool (is_held formula order place clause)) [
        | inl held ↦
            let one : Occurrence = record { place = place; clause = clause } in
            let at = all.complete place clause small within held in
            absurd (none.1 at.0 at.1 (ap (λ (o : Occurrence). o.place) (get_or_default occurrences at.0 no_occurrence one at.1 ∙ at.2)))
        | inr free ↦ free
      ],
    )
  ];
}
