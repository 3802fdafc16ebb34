-- The items of a bucket, followed from the last to the first, are its terms.
use Rattle.std.proofs.Common.{◌≡◌, ℕ, zero, suc, ◌+◌, ◌-◌, ◌<◌, ◌≤◌, ◌==◌, inl, inr, Bool, true, false, List, [], ◌∷◌, ◌++◌, length}
use Rattle.std.proofs.Common.{reverse, Option, None, Some, slice_index, slice_index_or, refl, sym, ap, ◌∙◌, subst, arith, eq-eqb, ne_eqb}
use Rattle.std.proofs.Common.{append_assoc, length-append}
use Rattle.std.specs.Prelude.{if◌then◌else◌}
use Rattle.std.proofs.lemmas.Bool.{cases_eq, cases_lt, cond-true, cond-false}
use Rattle.std.proofs.lemmas.List.{append-nil, reverse-append, length-reverse, get_or_read}
use Rattle.std.proofs.lemmas.List.Elements.{filter-append}
use Rattle.std.proofs.lemmas.Option.{none-some, same_Some}
use Rattle.cnf_base.specs.Formula.{Formula}
use Rattle.schedule_plan.specs.declared.links.Links.{Links}
use Rattle.schedule_plan.specs.declared.plan.Move.{Move}
use Rattle.schedule_plan.specs.declared.plan.Move.TheVariants.{Push, And, Exists}
use Rattle.schedule_plan.specs.Plan.{Term, input, both, some_value}
use Rattle.schedule_plan.specs.Bucket.{first_place, all_inputs, belonging, conjunction, result_of, results, items, moves_of, moves_of_all}
use Rattle.schedule_plan.specs.Bucket.{bucket}
use Rattle.schedule_plan.specs.Forest.{terms_of, bucket_of, item_count, AreBuckets, IsLinked, last_of, terms_in, moves_of_item, moves_to}
use Rattle.schedule_plan.specs.Forest.{moves_to_all, IsItem}
use Rattle.schedule_plan.proofs.Buckets.{made}
use Rattle.schedule_plan.proofs.ItemFacts.{clause_terms, result_terms, no_bucket, term_bucket, item_later}

-- one item more
terms_here : (formula : Formula) (order : List ℕ) (place n : ℕ) → bucket_of formula order n ≡ place
    → terms_in formula order place (suc n) ≡ terms_in formula order place n ++ terms_of formula order n
terms_here formula order place n same =
    ap (λ more. terms_in formula order place n ++ more) (cond-true _ (terms_of formula order n) []
    (eq-eqb (bucket_of formula order n) place same))

terms_elsewhere : (formula : Formula) (order : List ℕ) (place n : ℕ) → (bucket_of formula order n ≡ place → ⊥)
    → terms_in formula order place (suc n) ≡ terms_in formula order place n
terms_elsewhere formula order place n differ =
    ap (λ more. terms_in formula order place n ++ more) (cond-false _ (terms_of formula order n) []
    (ne_eqb (bucket_of formula order n) place differ))
    ∙ append-nil (terms_in formula order place n)

-- A bucket without a last item is empty.
pub none_linked : (formula : Formula) (order buckets : List ℕ) (place n : ℕ) → AreBuckets formula order buckets → n
    ≤ item_count formula order
    → last_of buckets place n ≡ None → terms_in formula order place n ≡ []
none_linked formula order buckets place zero right small none = refl
none_linked formula order buckets place (suc n) right small none =
    elim (cases_eq (slice_index buckets n) place) [
      | inl same ↦ absurd (none-some n (sym none ∙ cond-true _ (Some n) (last_of buckets place n)
          (eq-eqb (slice_index buckets n) place same)))
      | inr differ ↦
          terms_elsewhere formula order place n (λ same. differ (right.right n (omega (arith, small)) ∙ same))
          ∙ none_linked formula order buckets place n right (omega (arith, small))
          (sym (cond-false _ (Some n) (last_of buckets place n) (ne_eqb (slice_index buckets n) place differ)) ∙ none)
    ]

-- behind the last item of a bucket there is none of it
pub some_linked : (formula : Formula) (order buckets : List ℕ) (place n last : ℕ) → AreBuckets formula order buckets → n
    ≤ item_count formula order
    → last_of buckets place n ≡ Some last
    → (last < n) × (bucket_of formula order last ≡ place) × (terms_in formula order place n ≡ terms_in formula order place (suc last))
some_linked formula order buckets place zero last right small some = absurd (none-some last some)
some_linked formula order buckets place (suc n) last right small some =
    elim (cases_eq (slice_index buckets n) place) [
      | inl same ↦
          let is : n ≡ last = same_Some n last (sym (cond-true _ (Some n) (last_of buckets place n)
          (eq-eqb (slice_index buckets n) place same)) ∙ some) in (
            omega (arith, is),
            ap (bucket_of formula order) (sym is) ∙ sym (right.right n (omega (arith, small))) ∙ same,
            ap (λ k. terms_in formula order place (suc k)) is,
          )
      | inr differ ↦
          let before = some_linked formula order buckets place n last right (omega (arith, small))
          (sym (cond-false _ (Some n) (last_of buckets place n) (ne_eqb (slice_index buckets n) place differ)) ∙ some) in (
            omega (arith, before.0),
            before.1,
            terms_elsewhere formula order place n (λ same. differ (right.right n (omega (arith, small)) ∙ same)) ∙ before.2,
          )
    ]

-- the terms of a bucket among the clauses, and among the first results
belonging_one : (formula : Formula) (order : List ℕ) (place item : ℕ) (term : Term) → terms_of formula order item ≡ term ∷ []
    → belonging formula order place (term ∷ []) ≡ (if bucket_of formula order item == place then terms_of formula order item else [])
belonging_one formula order place item term is =
    let bucket_is = term_bucket formula order item term is in
    elim (cases_eq (first_place formula order term) place) [
      | inl same ↦
          cond-true _ (term ∷ []) [] (eq-eqb (first_place formula order term) place same)
          ∙ sym is ∙ sym (cond-true _ (terms_of formula order item) [] (eq-eqb (bucket_of formula order item) place (bucket_is ∙ same)))
      | inr differ ↦
          cond-false _ (term ∷ []) [] (ne_eqb (first_place formula order term) place differ)
          ∙ sym (cond-false _ (terms_of formula order item) [] (ne_eqb (bucket_of formula order item) place
          (λ same. differ (sym bucket_is ∙ same))))
    ]

no_terms_either : (test : Bool) → ◌≡◌ {A = List Term} (if test then [] else []) []
no_terms_either true = refl
no_terms_either false = refl

belonging_terms : (formula : Formula) (order : List ℕ) (place item : ℕ)
    → belonging formula order place (terms_of formula order item)
    ≡ (if bucket_of formula order item == place then terms_of formula order item else [])
belonging_terms formula order place item =
    elim (cases_lt item (length formula.clauses)) [
      | inl early ↦
          let is = clause_terms formula order item early in
          ap (belonging formula order place) is ∙ belonging_one formula order place item (input (suc item)) is
      | inr late ↦
          let k = item - length formula.clauses in
          let same : length formula.clauses + k ≡ item = omega (arith, late) in
          let made_here : terms_of formula order item ≡ result_of (slice_index_or order k 0) (items formula order k) =
          subst (λ (i : ℕ). terms_of formula order i ≡ result_of (slice_index_or order k 0) (items formula order k)) same
          (result_terms formula order k) in
          elim (items formula order k) as (λ terms. terms_of formula order item ≡ result_of (slice_index_or order k 0) terms
          → belonging formula order place (terms_of formula order item)
          ≡ (if bucket_of formula order item == place then terms_of formula order item else [])) [
            | [] ↦ λ is. ap (belonging formula order place) is ∙ sym
                (ap (λ terms. if bucket_of formula order item == place then terms else []) is
                ∙ no_terms_either (bucket_of formula order item == place))
            | first ∷ more ↦ λ is.
                ap (belonging formula order place) is ∙ belonging_one formula order place item
                (some_value (slice_index_or order k 0) (conjunction first more)) is
          ] made_here
    ]

clauses_in : (formula : Formula) (order : List ℕ) (place n : ℕ) → n ≤ length formula.clauses
    → belonging formula order place (all_inputs n) ≡ terms_in formula order place n
clauses_in formula order place zero small = refl
clauses_in formula order place (suc n) small =
    filter-append (λ term. first_place formula order term == place) (all_inputs n) (input (suc n) ∷ [])
    ∙ ap (λ front. front ++ belonging formula order place (input (suc n) ∷ [])) (clauses_in formula order place n (omega (arith, small)))
    ∙ ap (λ more. terms_in formula order place n ++ more)
    (ap (belonging formula order place) (sym (clause_terms formula order n small)) ∙ belonging_terms formula order place n)

made_in : (formula : Formula) (order : List ℕ) (place k : ℕ)
    → belonging formula order place (made formula order k) ≡ terms_in formula order place (length formula.clauses + k)
made_in formula order place zero =
    let all : length formula.clauses ≡ length formula.clauses + 0 = omega arith in
    ap (belonging formula order place) (append-nil (all_inputs (length formula.clauses)))
    ∙ clauses_in formula order place (length formula.clauses) (omega arith) ∙ ap (terms_in formula order place) all
made_in formula order place (suc k) =
    let m = length formula.clauses in
    let next : suc (m + k) ≡ m + suc k = omega arith in
    let result = result_of (slice_index_or order k 0) (items formula order k) in
    ap (belonging formula order place) (sym (append_assoc (all_inputs m) (results formula order k) result))
    ∙ filter-append (λ term. first_place formula order term == place) (made formula order k) result
    ∙ ap (λ front. front ++ belonging formula order place result) (made_in formula order place k)
    ∙ ap (λ more. terms_in formula order place (m + k) ++ more)
    (ap (belonging formula order place) (sym (result_terms formula order k)) ∙ belonging_terms formula order place (m + k))
    ∙ ap (terms_in formula order place) next

-- later results go to later buckets
none_later : (formula : Formula) (order : List ℕ) (place steps : ℕ) → place + steps ≤ length order
    → terms_in formula order place (length formula.clauses + (place + steps))
    ≡ terms_in formula order place (length formula.clauses + place)
none_later formula order place zero small =
    let same : length formula.clauses + (place + 0) ≡ length formula.clauses + place = omega arith in
    ap (terms_in formula order place) same
none_later formula order place (suc steps) small =
    let m = length formula.clauses in
    let item = m + (place + steps) in
    let next : m + (place + suc steps) ≡ suc item = omega arith in
    ap (terms_in formula order place) next
    ∙ terms_elsewhere formula order place item (λ same. omega (arith, same, item_later formula order item (omega (arith, small))))
    ∙ none_later formula order place steps (omega (arith, small))

pub bucket_items : (formula : Formula) (order : List ℕ) (place : ℕ) → place ≤ length order
    → items formula order place ≡ terms_in formula order place (item_count formula order)
bucket_items formula order place small =
    let all : length formula.clauses + (place + (length order - place)) ≡ item_count formula order = omega (arith, small) in
    made_in formula order place place ∙ sym (none_later formula order place (length order - place) (omega (arith, small)))
    ∙ ap (terms_in formula order place) all

-- an item with a bucket has one term
pub one_term : (formula : Formula) (order : List ℕ) (item : ℕ) → IsItem formula order item → (term : Term)
    × (terms_of formula order item ≡ term ∷ [])
one_term formula order item there =
    elim (cases_lt item (length formula.clauses)) [
      | inl early ↦ (input (suc item), clause_terms formula order item early)
      | inr late ↦
          let k = item - length formula.clauses in
          let same : length formula.clauses + k ≡ item = omega (arith, late) in
          let made_here : terms_of formula order item ≡ result_of (slice_index_or order k 0) (items formula order k) =
          subst (λ (i : ℕ). terms_of formula order i ≡ result_of (slice_index_or order k 0) (items formula order k)) same
          (result_terms formula order k) in
          elim (items formula order k) as (λ terms. terms_of formula order item ≡ result_of (slice_index_or order k 0) terms
          → (term : Term) × (terms_of formula order item ≡ term ∷ [])) [
            | [] ↦ λ is. absurd (omega (arith, there.there, no_bucket formula order item is))
            | first ∷ more ↦ λ is. (some_value (slice_index_or order k 0) (conjunction first more), is)
          ] made_here
    ]

conjunction_push : (first term : Term) (more : List Term) → conjunction first (more ++ term ∷ []) ≡ both (conjunction first more) term
conjunction_push first term [] = refl
conjunction_push first term (next ∷ more) = conjunction_push (both first next) term more

moves_push : (terms : List Term) (term : Term) → 0 < length terms
    → moves_of_all (terms ++ term ∷ []) ≡ (moves_of_all terms ++ moves_of term) ++ And ∷ []
moves_push [] term some = absurd (omega (arith, some))
moves_push (first ∷ more) term some = ap moves_of (conjunction_push first term more)

-- the moves up to an item: its own, and those up to the item before with the conjunction of both
pub first_moves : (formula : Formula) (order buckets : List ℕ) (item : ℕ) → AreBuckets formula order buckets → IsItem formula order item
    → last_of buckets (slice_index buckets item) item ≡ None → moves_to formula order item ≡ moves_of_item formula order item
unfolding moves_to moves_of_item
first_moves formula order buckets item right there none =
    let place = bucket_of formula order item in
    let same = right.right item there.small in
    ap moves_of_all (terms_here formula order place item refl
    ∙ ap (λ front. front ++ terms_of formula order item)
    (none_linked formula order buckets place item right (omega (arith, there.small)) (ap (λ p. last_of buckets p item) (sym same) ∙ none)))

pub next_moves : (formula : Formula) (order buckets : List ℕ) (item before : ℕ) → AreBuckets formula order buckets
    → IsItem formula order item
    → last_of buckets (slice_index buckets item) item ≡ Some before
    → IsItem formula order before
    × (moves_to formula order item ≡ (moves_to formula order before ++ moves_of_item formula order item) ++ And ∷ [])
unfolding moves_to moves_of_item
next_moves formula order buckets item before right there some =
    let place = bucket_of formula order item in
    let same = right.right item there.small in
    let link = some_linked formula order buckets place item before right (omega (arith, there.small))
    (ap (λ p. last_of buckets p item) (sym same) ∙ some) in
    let here : IsItem formula order before = record {
      small = omega (arith, link.0, there.small);
      there = omega (arith, link.1, there.there);
    } in
    let term = one_term formula order item there in
    let term_before = one_term formula order before here in
    let front : terms_in formula order place (suc before) ≡ terms_in formula order (bucket_of formula order before) (suc before) =
    ap (λ p. terms_in formula order p (suc before)) (sym link.1) in
    let count : length (terms_in formula order place (suc before)) ≡ length (terms_in formula order place before)
    + length (terms_of formula order before) =
    ap length (terms_here formula order place before link.1) ∙ length-append (terms_in formula order place before)
    (terms_of formula order before) in (
      here,
      ap moves_of_all (terms_here formula order place item refl
          ∙ ap (λ terms. terms ++ terms_of formula order item) link.2
          ∙ ap (λ terms. terms_in formula order place (suc before) ++ terms) term.1)
          ∙ moves_push (terms_in formula order place (suc before)) term.0 (omega (arith, count, ap length term_before.1))
          ∙ ap (λ terms. (moves_of_all terms ++ moves_of term.0) ++ And ∷ []) front
          ∙ ap (λ own. (moves_of_all (terms_in formula order (bucket_of formula order before) (suc before)) ++ moves_of_all own) ++ And
          ∷ []) (sym term.1),
    )

-- the moves that make an item
pub clause_moves : (formula : Formula) (order : List ℕ) (item : ℕ) → item < length formula.clauses → moves_of_item formula order item
    ≡ Push (suc item) ∷ []
unfolding moves_of_item
clause_moves formula order item early = ap moves_of_all (clause_terms formula order item early)

-- those that conjoin the items of a bucket
pub last_moves : (formula : Formula) (order buckets : List ℕ) (place last : ℕ) → AreBuckets formula order buckets → place ≤ length order
    → last_of buckets place (length buckets) ≡ Some last → IsItem formula order last
    × (moves_to formula order last ≡ moves_of_all (items formula order place))
unfolding moves_to
last_moves formula order buckets place last right small some =
    let link = some_linked formula order buckets place (length buckets) last right (omega (arith, right.count)) some in (
      record { small = omega (arith, link.0, right.count); there = omega (arith, link.1, small) },
      ap (λ p. moves_of_all (terms_in formula order p (suc last))) link.1
          ∙ ap moves_of_all (sym link.2 ∙ ap (terms_in formula order place) right.count ∙ sym (bucket_items formula order place small)),
    )

pub no_moves : (formula : Formula) (order buckets : List ℕ) (place : ℕ) → AreBuckets formula order buckets → place ≤ length order
    → last_of buckets place (length buckets) ≡ None → items formula order place ≡ []
no_moves formula order buckets place right small none =
    bucket_items formula order place small ∙ ap (terms_in formula order place) (sym right.count)
    ∙ none_linked formula order buckets place (length buckets) right (omega (arith, right.count)) none

pub result_moves : (formula : Formula) (order buckets : List ℕ) (place last : ℕ) → AreBuckets formula order buckets → place < length order
    → last_of buckets place (length buckets) ≡ Some last → IsItem formula order (length formula.clauses + place)
    → IsItem formula order last
    × (moves_of_item formula order (length formula.clauses + place) ≡ moves_to formula order last ++ Exists (slice_index_or order place 0)
    ∷ [])
unfolding moves_of_item
result_moves formula order buckets place last right small some there =
    let link = last_moves formula order buckets place last right (omega (arith, small)) some in (
      link.0,
      elim (items formula order place) as (λ terms. items formula order place ≡ terms
          → moves_of_item formula order (length formula.clauses + place) ≡ moves_to formula order last
          ++ Exists (slice_index_or order place 0) ∷ []) [
            | [] ↦ λ none. absurd (omega (
              arith,
              there.there,
              no_bucket formula order (length formula.clauses + place)
                  (result_terms formula order place ∙ ap (result_of (slice_index_or order place 0)) none),
            ))
            | first ∷ more ↦ λ is.
                ap moves_of_all (result_terms formula order place ∙ ap (result_of (slice_index_or order place 0)) is)
                ∙ ap (λ moves. moves ++ Exists (slice_index_or order place 0) ∷ []) (sym (link.1 ∙ ap moves_of_all is))
          ] refl,
    )

-- an item whose bucket has no last item is none
pub no_result : (formula : Formula) (order buckets : List ℕ) (place : ℕ) → AreBuckets formula order buckets → place < length order
    → last_of buckets place (length buckets) ≡ None → IsItem formula order (length formula.clauses + place) → ⊥
no_result formula order buckets place right small none there =
    omega (
      arith,
      there.there,
      no_bucket formula order (length formula.clauses + place)
          (result_terms formula order place ∙ ap (result_of (slice_index_or order place 0))
          (no_moves formula order buckets place right (omega (arith, small)) none)),
    )

-- what is read of the links
pub before_read : (formula : Formula) (order : List ℕ) (links : Links) (item : ℕ) (read : Option ℕ) (linked : IsLinked formula order links)
    → item < item_count formula order
    → read ≡ slice_index_or links.before.items item read → last_of linked.buckets (slice_index linked.buckets item) item ≡ read
before_read formula order links item read linked small is =
    let within : item < length linked.buckets = omega (arith, small, linked.right.count) in
    sym (get_or_read links.before.items item read (omega (arith, within, linked.linked.befores)) is None ∙ linked.linked.before item within)

pub last_read : (formula : Formula) (order : List ℕ) (links : Links) (place : ℕ) (read : Option ℕ) (linked : IsLinked formula order links)
    → place ≤ length order
    → read ≡ slice_index_or links.last.items place read → last_of linked.buckets place (length linked.buckets) ≡ read
last_read formula order links place read linked small is =
    sym (get_or_read links.last.items place read (omega (arith, small, linked.linked.lasts)) is None
    ∙ linked.linked.last place (omega (arith, small)))

-- the moves that remain, with one pushed
pub moves_to_all-append : (formula : Formula) (order work more : List ℕ) → moves_to_all formula order (work ++ more)
    ≡ moves_to_all formula order work ++ moves_to_all formula order more
moves_to_all-append formula order [] more = refl
moves_to_all-append formula order (item ∷ work) more =
    ap (λ rest. moves_to formula order item ++ rest) (moves_to_all-append formula order work more)
    ∙ sym (append_assoc (moves_to formula order item) (moves_to_all formula order work) (moves_to_all formula order more))

pub moves_to_push : (formula : Formula) (order work : List ℕ) (item : ℕ) → moves_to_all formula order (work ++ item ∷ [])
    ≡ moves_to_all formula order work ++ moves_to formula order item
moves_to_push formula order work item =
    moves_to_all-append formula order work (item ∷ []) ∙ ap (λ own. moves_to_all formula order work
    ++ own) (append-nil (moves_to formula order item))

pub turned : (front moves : List Move) (move : Move) → front ++ reverse (moves ++ move ∷ []) ≡ (front ++ move ∷ []) ++ reverse moves
turned front moves move = ap (λ back. front ++ back) (reverse-append moves (move ∷ []))
    ∙ sym (append_assoc front (move ∷ []) (reverse moves))

-- a work list after a step
pub joined : (formula : Formula) (order work : List ℕ) (moves : List Move) (item before : ℕ)
    → moves_to formula order item ≡ (moves_to formula order before ++ moves_of_item formula order item) ++ And ∷ []
    → (moves_to_all formula order (work ++ before ∷ []) ++ moves_of_item formula order item) ++ reverse (moves ++ And ∷ [])
    ≡ (moves_to_all formula order work ++ moves_to formula order item) ++ reverse moves
joined formula order work moves item before is =
    let all = moves_to_all formula order work in
    let own = moves_of_item formula order item in
    ap (λ front. (front ++ own) ++ reverse (moves ++ And ∷ [])) (moves_to_push formula order work before)
    ∙ ap (λ front. front ++ reverse (moves ++ And ∷ [])) (append_assoc all (moves_to formula order before) own)
    ∙ turned (all ++ (moves_to formula order before ++ own)) moves And
    ∙ ap (λ front. front ++ reverse moves) (append_assoc all (moves_to formula order before ++ own) (And ∷ [])
    ∙ ap (λ rest. all ++ rest) (sym is))

pub pushed : (formula : Formula) (order work : List ℕ) (moves : List Move) (item : ℕ) (move : Move) → moves_of_item formula order item
    ≡ move ∷ []
    → moves_to_all formula order work ++ reverse (moves ++ move ∷ [])
    ≡ (moves_to_all formula order work ++ moves_of_item formula order item) ++ reverse moves
pushed formula order work moves item move is =
    turned (moves_to_all formula order work) moves move
    ∙ ap (λ own. (moves_to_all formula order work ++ own) ++ reverse moves) (sym is)

pub opened : (formula : Formula) (order work : List ℕ) (moves : List Move) (item last : ℕ) (move : Move)
    → moves_of_item formula order item ≡ moves_to formula order last ++ move ∷ []
    → moves_to_all formula order (work ++ last ∷ []) ++ reverse (moves ++ move ∷ [])
    ≡ (moves_to_all formula order work ++ moves_of_item formula order item) ++ reverse moves
opened formula order work moves item last move is =
    let all = moves_to_all formula order work in
    ap (λ front. front ++ reverse (moves ++ move ∷ [])) (moves_to_push formula order work last)
    ∙ turned (all ++ moves_to formula order last) moves move
    ∙ ap (λ front. front ++ reverse moves) (append_assoc all (moves_to formula order last) (move ∷ []) ∙ ap (λ rest. all ++ rest) (sym is))

pub stepped : (formula : Formula) (order before popped between after : List ℕ) (start middle end : List Move) (item : ℕ) → before ≡ popped
    ++ item ∷ []
    → (moves_to_all formula order between ++ moves_of_item formula order item) ++ reverse middle
    ≡ (moves_to_all formula order popped ++ moves_to formula order item) ++ reverse start
    → moves_to_all formula order after ++ reverse end ≡ (moves_to_all formula order between ++ moves_of_item formula order item)
    ++ reverse middle
    → moves_to_all formula order after ++ reverse end ≡ moves_to_all formula order before ++ reverse start
stepped formula order before popped between after start middle end item is one other =
    other ∙ one ∙ ap (λ front. front ++ reverse start) (sym (moves_to_push formula order popped item)
    ∙ ap (moves_to_all formula order) (sym is))

pub fewer : (one other start end : List Move) → one ++ reverse end ≡ other ++ reverse start → length start < length end → length one
    < length other
fewer one other start end same more =
    omega (
      arith,
      more,
      ap length same,
      length-append one (reverse end),
      length-append other (reverse start),
      length-reverse end,
      length-reverse start,
    )

-- at first
pub started : (formula : Formula) (order buckets : List ℕ) (last : ℕ) → AreBuckets formula order buckets
    → last_of buckets (length order) (length buckets) ≡ Some last
    → IsItem formula order last × (moves_to_all formula order (last ∷ []) ++ [] ≡ bucket formula order)
started formula order buckets last right some =
    let link = last_moves formula order buckets (length order) last right (omega arith) some in
    (link.0, append-nil (moves_to_all formula order (last ∷ [])) ∙ append-nil (moves_to formula order last) ∙ link.1)

pub nothing_started : (formula : Formula) (order buckets : List ℕ) → AreBuckets formula order buckets
    → last_of buckets (length order) (length buckets) ≡ None
    → moves_to_all formula order [] ++ [] ≡ bucket formula order
nothing_started formula order buckets right none = ap moves_of_all
    (sym (no_moves formula order buckets (length order) right (omega arith) none))
