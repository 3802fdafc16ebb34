-- The literals of all clauses, each with the place of its variable, are all occurrences.
use Rattle.std.proofs.Common.{◌≡◌, ℕ, zero, suc, ◌+◌, ◌-◌, ◌<◌, ◌≤◌, ◌==◌, ℤ, nat_abs, inl, inr, true, List, [], length, map, slice_index}
use Rattle.std.proofs.Common.{slice_index_or, All, Contains, IsPermutation, sym, ap, ◌∙◌, subst, arith, eq-eqb, eqb-true}
use Rattle.std.specs.Prelude.{nat_lt, nat_le, IsTrue}
use Rattle.std.specs.List.{list_all}
use Rattle.std.specs.List.Sorted.{IsNonDecreasingBy}
use Rattle.std.proofs.lemmas.Bool.{and_parts, ltb-true, leb-true, lt-ltb, cases_eq}
use Rattle.std.proofs.lemmas.List.{get_or-map, length-map}
use Rattle.std.proofs.lemmas.List.Elements.{All-nil, All-append, All-map, Contains-append_left, Contains-append_right}
use Rattle.std.proofs.lemmas.List.Folds.{Any-from_list_any, list_any_at}
use Rattle.std.proofs.lemmas.List.Sums.{AllPass-from_list_all, list_all-from_AllPass}
use Rattle.std.proofs.lemmas.List.Sorted.{All-permutation, Contains-permutation}
use Rattle.cnf_base.specs.Truth.{is_literal_of, AreClausesOf}
use Rattle.cnf_base.specs.Formula.{Formula}
use Rattle.schedule_plan.specs.declared.occurrence.Occurrence.{Occurrence}
use Rattle.cnf_base.specs.Order.{IsOrder}
use Rattle.schedule_plan.specs.Plan.{clause_of_number}
use Rattle.schedule_plan.specs.Forest.{ArePlaces, is_held, occurrence_of, occurrences_of, IsOccurrence, AreOccurrences}

-- the literals of a clause are of the formula's variables
pub literals_of : (formula : Formula) (n k : ℕ) (d : ℤ) → AreClausesOf formula.vars formula.clauses → n < length formula.clauses
    → k < length (clause_of_number formula (suc n)) → (0 < nat_abs (slice_index_or (clause_of_number formula (suc n)) k d))
    × (nat_abs (slice_index_or (clause_of_number formula (suc n)) k d) ≤ formula.vars)
literals_of formula n k d of_vars small within =
    let same : suc n - 1 ≡ n = omega arith in
    let clause : list_all (is_literal_of formula.vars) (clause_of_number formula (suc n)) ≡ true =
    ap (λ i. list_all (is_literal_of formula.vars) (slice_index_or formula.clauses i [])) same
    ∙ AllPass-from_list_all (list_all (is_literal_of formula.vars)) formula.clauses of_vars n [] small in
    let literal = slice_index_or (clause_of_number formula (suc n)) k d in
    let parts = and_parts (nat_lt 0 (nat_abs literal)) (nat_le (nat_abs literal) formula.vars)
    (AllPass-from_list_all (is_literal_of formula.vars) (clause_of_number formula (suc n)) clause k d within) in
    (ltb-true 0 (nat_abs literal) parts.0, leb-true (nat_abs literal) formula.vars parts.1)

-- so each is within the places
pub literals_within : (formula : Formula) (n count : ℕ) → AreClausesOf formula.vars formula.clauses → n < length formula.clauses → count
    ≡ formula.vars + 1
    → IsTrue (list_all (λ (literal : ℤ). nat_lt (nat_abs literal) count) (clause_of_number formula (suc n)))
literals_within formula n count of_vars small is =
    list_all-from_AllPass (λ (literal : ℤ). nat_lt (nat_abs literal) count) (clause_of_number formula (suc n))
    (λ k d within. lt-ltb _ count (omega (arith, is, (literals_of formula n k d of_vars small within).1)))

sound_clause : (formula : Formula) (order places : List ℕ) (n : ℕ) → IsOrder order → ArePlaces order places → length order ≡ formula.vars
    → AreClausesOf formula.vars formula.clauses → n < length formula.clauses
    → All (λ literal. IsOccurrence formula order (occurrence_of places n literal)) (clause_of_number formula (suc n))
sound_clause formula order places n sound right order_is of_vars small k d within =
    let clause = clause_of_number formula (suc n) in
    let literal = slice_index_or clause k d in
    let variable = literals_of formula n k d of_vars small within in
    let at = sound.each (nat_abs literal) variable.0 (omega (arith, variable.1, order_is)) in
    let place : slice_index places (nat_abs literal) ≡ at.0 = ap (slice_index places) (sym at.2) ∙ right.right at.0 at.1 in
    record {
      place = omega (arith, place, at.1);
      clause = small;
      held = subst (λ (p : ℕ). is_held formula order p n ≡ true) (sym place)
          (list_any_at (λ (l : ℤ). nat_abs l == slice_index_or order at.0 0) clause k d within
          (eq-eqb (nat_abs literal) (slice_index_or order at.0 0) (sym at.2)));
    }

gathered_sound : (formula : Formula) (order places : List ℕ) (n : ℕ) → IsOrder order → ArePlaces order places → length order ≡ formula.vars
    → AreClausesOf formula.vars formula.clauses → n ≤ length formula.clauses
    → All (IsOccurrence formula order) (occurrences_of places formula n)
gathered_sound formula order places zero sound right order_is of_vars small = All-nil (IsOccurrence formula order)
gathered_sound formula order places (suc n) sound right order_is of_vars small =
    All-append (IsOccurrence formula order) (occurrences_of places formula n)
    (map (occurrence_of places n) (clause_of_number formula (suc n)))
    (gathered_sound formula order places n sound right order_is of_vars (omega (arith, small)))
    (All-map (IsOccurrence formula order) (occurrence_of places n) (clause_of_number formula (suc n))
    (sound_clause formula order places n sound right order_is of_vars small))

abbrev occurrence_at : ℕ → ℕ → Occurrence
occurrence_at place clause = record { place = place; clause = clause }

complete_clause : (formula : Formula) (order places : List ℕ) (place n : ℕ) → ArePlaces order places → place < length order
    → is_held formula order place n ≡ true
    → Contains (map (occurrence_of places n) (clause_of_number formula (suc n))) (record { place = place; clause = n })
complete_clause formula order places place n right small held =
    let clause = clause_of_number formula (suc n) in
    let any = Any-from_list_any (λ (l : ℤ). nat_abs l == slice_index_or order place 0) clause held in
    let one : Occurrence = record { place = place; clause = n } in
    let at : slice_index places (nat_abs any.1) ≡ place =
    ap (slice_index places) (eqb-true (nat_abs any.1) (slice_index_or order place 0) any.4) ∙ right.right place small in (
      any.0,
      omega (arith, any.2, length-map clause (occurrence_of places n)),
      get_or-map (occurrence_of places n) clause any.0 any.1 one any.2 ∙ ap (occurrence_of places n) any.3
          ∙ ap (λ (p : ℕ). occurrence_at p n) at,
    )

gathered_complete : (formula : Formula) (order places : List ℕ) (place clause n : ℕ) → ArePlaces order places → place < length order
    → clause < n
    → is_held formula order place clause ≡ true → Contains (occurrences_of places formula n) (record { place = place; clause = clause })
gathered_complete formula order places place clause zero right small early held = absurd (omega (arith, early))
gathered_complete formula order places place clause (suc n) right small early held =
    let one : Occurrence = record { place = place; clause = clause } in
    let own = map (occurrence_of places n) (clause_of_number formula (suc n)) in
    elim (cases_eq clause n) [
      | inl same ↦
          Contains-append_right (occurrences_of places formula n) own one
          (subst (λ (c : ℕ). is_held formula order place c ≡ true → Contains own (record { place = place; clause = c })) (sym same)
          (complete_clause formula order places place n right small) held)
      | inr differ ↦ Contains-append_left (occurrences_of places formula n) own one
          (gathered_complete formula order places place clause n right small (omega (arith, early, differ)) held)
    ]

pub all_occurrences : (formula : Formula) (order places : List ℕ) (occurrences : List Occurrence) → IsOrder order → ArePlaces order places
    → length order ≡ formula.vars → AreClausesOf formula.vars formula.clauses
    → IsPermutation (occurrences_of places formula (length formula.clauses)) occurrences
    → IsNonDecreasingBy (λ (one : Occurrence). one.place) occurrences
    → AreOccurrences formula order occurrences
all_occurrences formula order places occurrences sound right order_is of_vars moved sorted =
    let all = occurrences_of places formula (length formula.clauses) in
    record {
      sorted = sorted;
      sound = All-permutation (IsOccurrence formula order) all occurrences moved
          (gathered_sound formula order places (length formula.clauses) sound right order_is of_vars (omega arith));
      complete = λ place clause small number held.
          Contains-permutation all occurrences (record { place = place; clause = clause }) moved
          (gathered_complete formula order places place clause (length formula.clauses) right small number held);
    }
