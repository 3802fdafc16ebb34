-- The items of the bucket plan, and what is used of them.
use Rattle.std.proofs.Common.{◌≡◌, ℕ, suc, ◌+◌, ◌-◌, ◌<◌, ◌≤◌, inl, inr, true, List, [], ◌∷◌, length, slice_index, slice_index_or, refl}
use Rattle.std.proofs.Common.{sym, ap, ◌∙◌, subst, arith}
use Rattle.std.proofs.lemmas.Bool.{false≢true, cases_lt, cond-true, cond-false, lt-ltb, le-ltb}
use Rattle.std.proofs.lemmas.List.{get_or_default}
use Rattle.cnf_base.specs.Formula.{Formula}
use Rattle.schedule_plan.specs.declared.occurrence.Occurrence.{Occurrence}
use Rattle.cnf_base.specs.Order.{IsOrder}
use Rattle.schedule_plan.specs.Plan.{Term, input, some_value}
use Rattle.schedule_plan.specs.Bucket.{first_place, conjunction, result_of, items}
use Rattle.schedule_plan.specs.Forest.{is_held, terms_of, bucket_of, bucket_of_terms, item_count, AreFresh, AreOccurrences, IsOccurrence}
use Rattle.schedule_plan.proofs.Terms.{times, counted, counted-result_of, times_itself, same_number}
use Rattle.schedule_plan.proofs.Buckets.{IsResult, holds_at, first_within, first_of_result, result_of_held, result_times, held_is_number}
use Rattle.schedule_plan.proofs.Buckets.{result_closed, held_of_items, none_held, meets, first_is_held, from_first}
use Rattle.schedule_plan.proofs.Climb.{Items, AreFacts, AreSorted, no_occurrence}

-- the terms and the buckets of items
pub clause_terms : (formula : Formula) (order : List ℕ) (item : ℕ) → item < length formula.clauses → terms_of formula order item
    ≡ input (suc item) ∷ []
unfolding terms_of
clause_terms formula order item small = cond-true _ _ _ (lt-ltb item (length formula.clauses) small)

pub result_terms : (formula : Formula) (order : List ℕ) (place : ℕ)
    → terms_of formula order (length formula.clauses + place) ≡ result_of (slice_index_or order place 0) (items formula order place)
unfolding terms_of
result_terms formula order place =
    let same : length formula.clauses + place - length formula.clauses ≡ place = omega arith in
    cond-false _ _ _ (le-ltb (length formula.clauses + place) (length formula.clauses) (omega arith))
    ∙ ap (λ p. result_of (slice_index_or order p 0) (items formula order p)) same

pub term_bucket : (formula : Formula) (order : List ℕ) (item : ℕ) (term : Term) → terms_of formula order item ≡ term ∷ []
    → bucket_of formula order item ≡ first_place formula order term
unfolding bucket_of
term_bucket formula order item term is = ap (bucket_of_terms formula order) is

pub no_bucket : (formula : Formula) (order : List ℕ) (item : ℕ) → terms_of formula order item ≡ [] → bucket_of formula order item
    ≡ suc (length order)
unfolding bucket_of
no_bucket formula order item is = ap (bucket_of_terms formula order) is

-- the result of a bucket, or none
pub data HasResult (formula : Formula) (order : List ℕ) (place : ℕ) : Type 0 where
  there : (term : Term) → IsResult formula order place term → HasResult formula order place
  empty : items formula order place ≡ [] → HasResult formula order place

pub has_result : (formula : Formula) (order : List ℕ) (place : ℕ) → HasResult formula order place
has_result formula order place =
    elim (items formula order place) as (λ list. items formula order place ≡ list → HasResult formula order place) [
      | [] ↦ λ is. empty is
      | first ∷ more ↦ λ is. there (some_value (slice_index_or order place 0) (conjunction first more))
          (ap (result_of (slice_index_or order place 0)) is)
    ] refl

abbrev pub items_of : Formula → List ℕ → List Occurrence → List ℕ → Items
items_of formula order occurrences fresh = record {
  clauses = length formula.clauses;
  variables = length order;
  amount = λ item clause. counted (suc clause) (terms_of formula order item);
  held = is_held formula order;
  first = bucket_of formula order;
  occurrences = occurrences;
  fresh = fresh;
}

-- an item is a clause or the result of a bucket
split : (clauses variables item : ℕ) → item < clauses + variables → clauses ≤ item → (place : ℕ) × (place < variables)
    × (item ≡ clauses + place)
split clauses variables item within late = (item - clauses, omega (arith, within, late), omega (arith, late))

clause_amount : (formula : Formula) (order : List ℕ) (item number : ℕ) → item < length formula.clauses
    → counted number (terms_of formula order item) ≡ times number (input (suc item))
clause_amount formula order item number small = ap (counted number) (clause_terms formula order item small) ∙ omega arith

result_amount : (formula : Formula) (order : List ℕ) (place number : ℕ)
    → counted number (terms_of formula order (length formula.clauses + place)) ≡ counted number (items formula order place)
result_amount formula order place number =
    ap (counted number) (result_terms formula order place) ∙ counted-result_of number (slice_index_or order place 0)
    (items formula order place)

-- a clause meets the results that it is inside
clause_meets : (formula : Formula) (order : List ℕ) (item place clause : ℕ) → item < length formula.clauses → place < length order
    → 0 < counted (suc clause) (terms_of formula order item) → 0
    < counted (suc clause) (terms_of formula order (length formula.clauses + place))
    → (bucket_of formula order item ≤ place)
    × ((other : ℕ) → 0 < counted (suc other) (terms_of formula order item) → 0
    < counted (suc other) (terms_of formula order (length formula.clauses + place)))
clause_meets formula order item place clause early small has has_too =
    let alone : (other : ℕ) → 0 < counted (suc other) (terms_of formula order item) → suc other ≡ suc item =
    (λ other inside. same_number (suc other) (suc item) (omega (arith, inside, clause_amount formula order item (suc other) early))) in
    let in_items : 0 < counted (suc item) (items formula order place) =
    subst (λ (number : ℕ). 0 < counted number (items formula order place)) (alone clause has)
    (omega (arith, has_too, result_amount formula order place (suc clause))) in (
      omega (
        arith,
        from_first formula order place (suc item) (omega (arith, small)) (omega arith) (omega (arith, early)) in_items,
        term_bucket formula order item (input (suc item)) (clause_terms formula order item early),
      ),
      (λ other inside. subst (λ (number : ℕ). 0 < counted number (terms_of formula order (length formula.clauses + place)))
          (sym (alone other inside))
          (omega (arith, in_items, result_amount formula order place (suc item)))),
    )

-- and so does a result
result_meets : (formula : Formula) (order : List ℕ) (earlier place clause : ℕ) → earlier < place → place < length order
    → 0 < counted (suc clause) (terms_of formula order (length formula.clauses + earlier)) → 0
    < counted (suc clause) (terms_of formula order (length formula.clauses + place))
    → (bucket_of formula order (length formula.clauses + earlier) ≤ place)
    × ((other : ℕ) → 0 < counted (suc other) (terms_of formula order (length formula.clauses + earlier)) → 0
    < counted (suc other) (terms_of formula order (length formula.clauses + place)))
result_meets formula order earlier place clause before small has has_too =
    let m = length formula.clauses in
    let one = result_of_held formula order earlier (suc clause) (omega (arith, has, result_amount formula order earlier (suc clause))) in
    let other = result_of_held formula order place (suc clause) (omega (arith, has_too, result_amount formula order place (suc clause))) in
    let of_one : (number : ℕ) → counted number (terms_of formula order (m + earlier)) ≡ times number one.0 =
    (λ number. result_amount formula order earlier number ∙ sym (result_times formula order earlier one.0 number one.1)) in
    let of_other : (number : ℕ) → counted number (terms_of formula order (m + place)) ≡ times number other.0 =
    (λ number. result_amount formula order place number ∙ sym (result_times formula order place other.0 number other.1)) in
    let met = meets formula order earlier place one.0 other.0 (suc clause) before small one.1 other.1
    (omega (arith, has, of_one (suc clause))) (omega (arith, has_too, of_other (suc clause))) in (
      omega (arith, met.0, term_bucket formula order (m + earlier) one.0 (result_terms formula order earlier ∙ one.1)),
      (λ number inside. omega (arith, inside, met.1 (suc number), of_one (suc number), of_other (suc number))),
    )

item_meets : (formula : Formula) (order : List ℕ) (item place clause : ℕ) → item < length formula.clauses + place → place < length order
    → 0 < counted (suc clause) (terms_of formula order item) → 0
    < counted (suc clause) (terms_of formula order (length formula.clauses + place))
    → (bucket_of formula order item ≤ place)
    × ((other : ℕ) → 0 < counted (suc other) (terms_of formula order item) → 0
    < counted (suc other) (terms_of formula order (length formula.clauses + place)))
item_meets formula order item place clause below small has has_too =
    elim (cases_lt item (length formula.clauses)) [
      | inl early ↦ clause_meets formula order item place clause early small has has_too
      | inr late ↦
          let parts = split (length formula.clauses) place item below late in
          subst (λ (i : ℕ). 0 < counted (suc clause) (terms_of formula order i) → (bucket_of formula order i ≤ place)
          × ((other : ℕ) → 0 < counted (suc other) (terms_of formula order i) → 0
          < counted (suc other) (terms_of formula order (length formula.clauses + place))))
          (sym parts.2) (λ has_part. result_meets formula order parts.0 place clause parts.1 small has_part has_too) has
    ]

-- the first variable of an item is held by a clause inside
clause_held : (formula : Formula) (order : List ℕ) (item : ℕ) → item < length formula.clauses → bucket_of formula order item < length order
    → (clause : ℕ) × (clause < length formula.clauses) × (0 < counted (suc clause) (terms_of formula order item))
    × (is_held formula order (bucket_of formula order item) clause ≡ true)
clause_held formula order item early inner =
    let is = term_bucket formula order item (input (suc item)) (clause_terms formula order item early) in
    let held = first_is_held formula order (input (suc item)) (omega (arith, is, inner)) in
    let same = same_number held.0 (suc item) held.1 in (
      item,
      early,
      omega (arith, clause_amount formula order item (suc item) early, times_itself (suc item)),
      subst (λ (place : ℕ). is_held formula order place item ≡ true) (sym is)
          (subst (λ (number : ℕ). holds_at formula order (first_place formula order (input (suc item))) number ≡ true) same held.2),
    )

result_held : (formula : Formula) (order : List ℕ) (place : ℕ) → place < length order
    → bucket_of formula order (length formula.clauses + place) < length order
    → (clause : ℕ) × (clause < length formula.clauses)
    × (0 < counted (suc clause) (terms_of formula order (length formula.clauses + place)))
    × (is_held formula order (bucket_of formula order (length formula.clauses + place)) clause ≡ true)
result_held formula order place small inner =
    let item = length formula.clauses + place in
    elim (has_result formula order place) [
      | empty none ↦ absurd (omega (
        arith,
        inner,
        no_bucket formula order item (result_terms formula order place
            ∙ ap (result_of (slice_index_or order place 0)) none),
      ))
      | there term is ↦
          let bucket_is = term_bucket formula order item term (result_terms formula order place ∙ is) in
          let held = first_is_held formula order term (omega (arith, bucket_is, inner)) in
          let inside : 0 < counted held.0 (items formula order place) = omega
          (arith, held.1, result_times formula order place term held.0 is) in
          let number = held_is_number formula order place held.0 (omega (arith, small)) inside in
          let same : held.0 ≡ suc (held.0 - 1) = omega (arith, number.0) in (
            held.0 - 1,
            omega (arith, number.0, number.1),
            subst (λ (number : ℕ). 0 < counted number (terms_of formula order item)) same
                (omega (arith, inside, result_amount formula order place held.0)),
            subst (λ (p : ℕ). is_held formula order p (held.0 - 1) ≡ true) (sym bucket_is)
                (subst (λ (number : ℕ). holds_at formula order (first_place formula order term) number ≡ true) same held.2),
          )
    ]

item_held : (formula : Formula) (order : List ℕ) (item : ℕ) → item < item_count formula order → bucket_of formula order item < length order
    → (clause : ℕ) × (clause < length formula.clauses) × (0 < counted (suc clause) (terms_of formula order item))
    × (is_held formula order (bucket_of formula order item) clause ≡ true)
item_held formula order item within inner =
    elim (cases_lt item (length formula.clauses)) [
      | inl early ↦ clause_held formula order item early inner
      | inr late ↦
          let parts = split (length formula.clauses) (length order) item within late in
          subst (λ (i : ℕ). bucket_of formula order i < length order
          → (clause : ℕ) × (clause < length formula.clauses) × (0 < counted (suc clause) (terms_of formula order i))
          × (is_held formula order (bucket_of formula order i) clause ≡ true)) (sym parts.2)
          (result_held formula order parts.0 parts.1) inner
    ]

-- a result belongs to a later bucket
result_later : (formula : Formula) (order : List ℕ) (place : ℕ) → place < length order → place
    < bucket_of formula order (length formula.clauses + place)
result_later formula order place small =
    let item = length formula.clauses + place in
    elim (has_result formula order place) [
      | empty none ↦ omega (
        arith,
        small,
        no_bucket formula order item (result_terms formula order place
            ∙ ap (result_of (slice_index_or order place 0)) none),
      )
      | there term is ↦ omega (
        arith,
        (first_of_result formula order place term small is).0,
        term_bucket formula order item term (result_terms formula order place ∙ is),
      )
    ]

pub item_later : (formula : Formula) (order : List ℕ) (item : ℕ) → item < item_count formula order → item < length formula.clauses
    + bucket_of formula order item
item_later formula order item within =
    elim (cases_lt item (length formula.clauses)) [
      | inl early ↦ omega (arith, early)
      | inr late ↦
          let parts = split (length formula.clauses) (length order) item within late in
          omega (arith, parts.2, result_later formula order parts.0 parts.1, ap (bucket_of formula order) parts.2)
    ]

-- no item has a bucket past that of no term
pub item_bucket : (formula : Formula) (order : List ℕ) (item : ℕ) → bucket_of formula order item ≤ suc (length order)
unfolding bucket_of
item_bucket formula order item =
    elim (terms_of formula order item) as (λ terms. bucket_of_terms formula order terms ≤ suc (length order)) [
      | [] ↦ omega arith
      | term ∷ more ↦ omega (arith, first_within formula order term)
    ]

-- where no variable is held, the fresh bucket is right
result_fresh : (formula : Formula) (order fresh : List ℕ) (place : ℕ) → IsOrder order → AreFresh formula order fresh → place < length order
    → length order ≤ bucket_of formula order (length formula.clauses + place)
    → slice_index fresh (length formula.clauses + place) ≡ bucket_of formula order (length formula.clauses + place)
result_fresh formula order fresh place sound start small outer =
    let item = length formula.clauses + place in
    elim (has_result formula order place) [
      | empty none ↦
          let is = no_bucket formula order item (result_terms formula order place ∙ ap (result_of (slice_index_or order place 0)) none) in
          elim (start.results place small) [
            | inl held ↦ absurd (false≢true (sym (none_held formula order sound place (suc held.1.0) small none (omega arith) held.1.1)
                ∙ held.1.2))
            | inr free ↦ free.0 ∙ sym is
          ]
      | there term made ↦
          let is = term_bucket formula order item term (result_terms formula order place ∙ made) in
          elim (start.results place small) [
            | inl held ↦ omega (arith, held.0, is, outer, first_within formula order term)
            | inr free ↦
                let some = held_of_items formula order place term small made in
                let same : some.0 ≡ suc (some.0 - 1) = omega (arith, some.1) in
                absurd (false≢true (sym (free.1 (some.0 - 1) (omega (arith, some.1, some.2)))
                ∙ subst (λ (number : ℕ). holds_at formula order place number ≡ true) same some.3))
          ]
    ]

item_fresh : (formula : Formula) (order fresh : List ℕ) (item : ℕ) → IsOrder order → AreFresh formula order fresh → item
    < item_count formula order
    → length order ≤ bucket_of formula order item → slice_index fresh item ≡ bucket_of formula order item
item_fresh formula order fresh item sound start within outer =
    elim (cases_lt item (length formula.clauses)) [
      | inl early ↦
          let term = input (suc item) in
          omega (
            arith,
            outer,
            start.clauses item early,
            term_bucket formula order item term (clause_terms formula order item early),
            first_within formula order term,
          )
      | inr late ↦
          let parts = split (length formula.clauses) (length order) item within late in
          subst (λ (i : ℕ). length order ≤ bucket_of formula order i → slice_index fresh i ≡ bucket_of formula order i) (sym parts.2)
          (result_fresh formula order fresh parts.0 sound start parts.1) outer
    ]

pub item_facts : (formula : Formula) (order : List ℕ) (occurrences : List Occurrence) (fresh : List ℕ) → IsOrder order
    → AreFresh formula order fresh
    → AreFacts (items_of formula order occurrences fresh)
item_facts formula order occurrences fresh sound start = record {
  own = λ clause small. omega (arith, clause_amount formula order clause (suc clause) small, times_itself (suc clause));
  alone = λ item clause small has.
      omega (arith, same_number (suc clause) (suc item) (omega (arith, has, clause_amount formula order item (suc clause) small)));
  closed = λ place clause small number held.
      let closed = result_closed formula order sound place (suc clause) small (omega arith) number held in
      omega (
        arith,
        closed.2,
        result_amount formula order place (suc clause),
        result_times formula order place closed.0 (suc clause) closed.1,
      );
  meets = item_meets formula order;
  first_held = item_held formula order;
  later = item_later formula order;
  unheld = λ item within outer. item_fresh formula order fresh item sound start within outer;
}

pub sorted_facts : (formula : Formula) (order : List ℕ) (occurrences : List Occurrence) (fresh : List ℕ)
    → AreOccurrences formula order occurrences
    → AreSorted (items_of formula order occurrences fresh)
sorted_facts formula order occurrences fresh all = record {
  sorted = λ i j before small. all.sorted i j no_occurrence before small;
  sound = λ k small.
      let one : IsOccurrence formula order (slice_index_or occurrences k no_occurrence) = all.sound k no_occurrence small in
      (one.place, one.clause, one.held);
  complete = λ place clause small number held.
      let one : Occurrence = record { place = place; clause = clause } in
      let at = all.complete place clause small number held in
      let is : slice_index_or occurrences at.0 no_occurrence ≡ one = get_or_default occurrences at.0 no_occurrence one at.1 ∙ at.2 in
      (at.0, at.1, ap (λ (o : Occurrence). o.place) is, ap (λ (o : Occurrence). o.clause) is);
}
