-- The bucket plan: each clause is in one open item at each place, the result of a bucket goes to the bucket of its first
-- variable, and a clause climbs to the bucket of each of its variables.
use Rattle.std.proofs.Common.{◌≡◌, ℕ, zero, suc, ◌+◌, ◌<◌, ◌≤◌, ◌==◌, Bool, true, false, not, List, [], ◌∷◌, ◌++◌, length, filter, All}
use Rattle.std.proofs.Common.{Contains, refl, sym, ap, subst, ◌∙◌, inl, inr, arith, eq-eqb, ne_eqb, le-leb, eqb-true, leb-true}
use Rattle.std.proofs.Common.{append_assoc}
use Rattle.std.specs.Prelude.{nat_le, slice_index_or}
use Rattle.std.proofs.lemmas.Bool.{cases_eq, cases_lt, both_ways, and_from, and_left, and_right, or_from, or_left, or_right}
use Rattle.std.proofs.lemmas.Bool.{false_from_ne_true}
use Rattle.std.proofs.lemmas.List.Elements.{All-nil, All-head, All-same, All-append, All-weaker, All-filter, All-contains}
use Rattle.std.proofs.lemmas.List.Elements.{Contains-append_left, Contains-append_right, filter-append, filter_passes}
use Rattle.std.proofs.lemmas.List.Sums.{prefix_len-le-length, passes_at_first, fails_before_first}
use Rattle.cnf_base.specs.Formula.{Formula}
use Rattle.cnf_base.specs.Order.{IsOrder}
use Rattle.schedule_plan.specs.Plan.{Term, input, both, some_value, term_has, clause_has, clause_of_number}
use Rattle.schedule_plan.specs.Bucket.{first_place, all_inputs, result_of, results, items}
use Rattle.schedule_plan.proofs.Terms.{times, counted, IsClosed, same_number, counted-append, counted-result_of, counted_split}
use Rattle.schedule_plan.proofs.Terms.{counted_none, counted_once, times_contained, times_filtered, is_number, variable_of_input}
use Rattle.schedule_plan.proofs.Terms.{result_all, filter_all, inputs_all, closed_result, result_there, some_term}
use Rattle.schedule_plan.proofs.Terms.{input_contained, times_itself}

-- the clauses, and the results of the buckets before a place
abbrev pub made : Formula → List ℕ → ℕ → List Term
made formula order place = all_inputs (length formula.clauses) ++ results formula order place

-- those of them that belong to this bucket or to a later one
abbrev pub open_items : Formula → List ℕ → ℕ → List Term
open_items formula order place = filter (λ term. nat_le place (first_place formula order term)) (made formula order place)

-- whether the clause of a number holds the variable of a place
abbrev pub holds_at : Formula → List ℕ → ℕ → ℕ → Bool
holds_at formula order place i = clause_has (slice_index_or order place 0) (clause_of_number formula i)

-- the bucket of a place has this result
abbrev pub IsResult : Formula → List ℕ → ℕ → Term → Type 0
IsResult formula order place term = result_of (slice_index_or order place 0) (items formula order place) ≡ term ∷ []

-- a result has the inputs of its bucket's items
pub result_times : (formula : Formula) (order : List ℕ) (place : ℕ) (term : Term) (i : ℕ) → IsResult formula order place term
    → times i term ≡ counted i (items formula order place)
result_times formula order place term i made_here =
    omega (arith, ap (counted i) made_here, counted-result_of i (slice_index_or order place 0) (items formula order place))

-- there is a result where the bucket holds an input
pub result_of_held : (formula : Formula) (order : List ℕ) (place i : ℕ) → 0 < counted i (items formula order place)
    → (term : Term) × IsResult formula order place term
result_of_held formula order place i held = result_there i (slice_index_or order place 0) (items formula order place) held

-- what holds of all terms and of the next result holds of all terms at the next place
made_all : (P : Term → Type 0) (formula : Formula) (order : List ℕ) (place : ℕ) → All P (made formula order place)
    → All P (result_of (slice_index_or order place 0) (items formula order place)) → All P (made formula order (suc place))
made_all P formula order place here next =
    let result = result_of (slice_index_or order place 0) (items formula order place) in
    All-same P (made formula order (suc place)) (made formula order place ++ result)
    (sym (append_assoc (all_inputs (length formula.clauses)) (results formula order place) result))
    (All-append P (made formula order place) result here next)

made_start : (P : Term → Type 0) (formula : Formula) (order : List ℕ) → ((i : ℕ) → 0 < i → i ≤ length formula.clauses → P (input i))
    → All P (made formula order 0)
made_start P formula order each = All-append P (all_inputs (length formula.clauses)) [] (inputs_all P (length formula.clauses) each)
    (All-nil P)

pub first_within : (formula : Formula) (order : List ℕ) (term : Term) → first_place formula order term ≤ length order
first_within formula order term = prefix_len-le-length (λ x. not (term_has formula x term)) order

-- a term that holds no variable up to a place has a later first one
pub first_behind : (formula : Formula) (order : List ℕ) (place : ℕ) (term : Term) → place < length order
    → ((k : ℕ) → k ≤ place → term_has formula (slice_index_or order k 0) term ≡ false) → place < first_place formula order term
first_behind formula order place term small lacks =
    elim (cases_lt place (first_place formula order term)) [
      | inl behind ↦ behind
      | inr early ↦ absurd (both_ways _ (lacks (first_place formula order term) early)
          (passes_at_first (λ x. term_has formula x term) order 0 (omega (arith, early, small))))
    ]

-- and one that holds a variable has no later one
pub first_upto : (formula : Formula) (order : List ℕ) (place : ℕ) (term : Term) → term_has formula (slice_index_or order place 0) term
    ≡ true
    → first_place formula order term ≤ place
first_upto formula order place term holds =
    elim (cases_lt place (first_place formula order term)) [
      | inl behind ↦ absurd (both_ways _ (fails_before_first (λ x. term_has formula x term) order place 0 behind) holds)
      | inr early ↦ early
    ]

pub items_first : (formula : Formula) (order : List ℕ) (place : ℕ)
    → All (λ term. first_place formula order term ≡ place) (items formula order place)
items_first formula order place =
    All-weaker (λ term. (first_place formula order term == place) ≡ true) (λ term. first_place formula order term
    ≡ place) (λ term same. eqb-true _ _ same)
    (items formula order place) (filter_passes (λ term. first_place formula order term == place) (made formula order place))

-- a term holds none of the variables of the first places
abbrev LacksBefore : Formula → List ℕ → ℕ → Term → Type 0
LacksBefore formula order place term = (k : ℕ) → k < place → term_has formula (slice_index_or order k 0) term ≡ false

result_first : (formula : Formula) (order : List ℕ) (place : ℕ) → place < length order
    → All (λ term. place < first_place formula order term) (result_of (slice_index_or order place 0) (items formula order place))
result_first formula order place small =
    let here : All (LacksBefore formula order place) (items formula order place) =
    All-weaker (λ term. first_place formula order term ≡ place) (LacksBefore formula order place)
    (λ term same k before. fails_before_first (λ x. term_has formula x term) order k 0 (omega (arith, same, before)))
    (items formula order place) (items_first formula order place) in
    let there : All (LacksBefore formula order (suc place)) (result_of (slice_index_or order place 0) (items formula order place)) =
    result_all (LacksBefore formula order place) (LacksBefore formula order (suc place)) (slice_index_or order place 0)
    (λ one other left right k before. or_from _ _ (left k before) (right k before))
    (λ term lacks k before. elim (cases_eq k place) [
      | inl same ↦ and_right _ _ (ap not (eq-eqb (slice_index_or order k 0) (slice_index_or order place 0)
          (ap (λ k. slice_index_or order k 0) same)))
      | inr differ ↦ and_left _ _ (lacks k (omega (arith, before, differ)))
    ])
    (items formula order place) here in
    All-weaker (LacksBefore formula order (suc place)) (λ term. place < first_place formula order term)
    (λ term lacks. first_behind formula order place term small (λ k early. lacks k (omega (arith, early))))
    (result_of (slice_index_or order place 0) (items formula order place)) there

pub first_of_result : (formula : Formula) (order : List ℕ) (place : ℕ) (term : Term) → place < length order
    → IsResult formula order place term
    → (place < first_place formula order term) × (first_place formula order term ≤ length order)
first_of_result formula order place term small made_here =
    let later : All (λ term. place < first_place formula order term) (term ∷ []) =
    All-same (λ term. place < first_place formula order term) (term
    ∷ []) (result_of (slice_index_or order place 0) (items formula order place))
    (sym made_here) (result_first formula order place small) in
    (All-head (λ term. place < first_place formula order term) term [] later, first_within formula order term)

pub result_made : (formula : Formula) (order : List ℕ) (earlier place : ℕ) (term : Term) → earlier < place
    → IsResult formula order earlier term
    → Contains (made formula order place) term
result_made formula order earlier zero term small made_here = absurd (omega (arith, small))
result_made formula order earlier (suc place) term small made_here =
    let result = result_of (slice_index_or order place 0) (items formula order place) in
    subst (λ terms. Contains terms term) (append_assoc (all_inputs (length formula.clauses)) (results formula order place) result)
    (elim (cases_eq earlier place) [
      | inl same ↦
          let last : IsResult formula order place term = subst (λ k. IsResult formula order k term) same made_here in
          Contains-append_right (made formula order place) result term
          (subst (λ terms. Contains terms term) (sym last) (0, omega arith, refl))
      | inr differ ↦ Contains-append_left (made formula order place) result term
          (result_made formula order earlier place term (omega (arith, small, differ)) made_here)
    ])

-- the open items of the next place: those with a later first variable, and the new result
open_next : (formula : Formula) (order : List ℕ) (place i : ℕ) → place < length order
    → counted i (open_items formula order (suc place)) ≡ counted i (open_items formula order place)
open_next formula order place i small =
    let later : Term → Bool = λ term. nat_le (suc place) (first_place formula order term) in
    let result = result_of (slice_index_or order place 0) (items formula order place) in
    let kept : filter later result ≡ result =
    filter_all later result (All-weaker (λ term. place < first_place formula order term) (λ term. later term ≡ true)
    (λ term behind. le-leb (suc place) (first_place formula order term) behind) result (result_first formula order place small)) in
    let cut : counted i (open_items formula order (suc place)) ≡ counted i (filter later (made formula order place))
    + counted i (filter later result) =
    ap (λ terms. counted i (filter later terms)) (sym (append_assoc (all_inputs (length formula.clauses))
    (results formula order place) result))
    ∙ ap (counted i) (filter-append later (made formula order place) result)
    ∙ counted-append i (filter later (made formula order place)) (filter later result) in
    omega (
      arith,
      cut,
      ap (counted i) kept,
      counted-result_of i (slice_index_or order place 0) (items formula order place),
      counted_split i (first_place formula order) place (made formula order place),
    )

-- the open items have each clause once
pub open_counted : (formula : Formula) (order : List ℕ) (place i : ℕ) → place ≤ length order
    → counted i (open_items formula order place) ≡ counted i (all_inputs (length formula.clauses))
open_counted formula order zero i small =
    let all_open : open_items formula order 0 ≡ made formula order 0 =
    filter_all (λ term. nat_le 0 (first_place formula order term)) (made formula order 0) (λ k d within. le-leb 0 _ (omega arith)) in
    omega (arith, ap (counted i) all_open, counted-append i (all_inputs (length formula.clauses)) [])
open_counted formula order (suc place) i small = open_next formula order place i small
    ∙ open_counted formula order place i (omega (arith, small))

pub open_once : (formula : Formula) (order : List ℕ) (place i : ℕ) → place ≤ length order → 0 < i → i ≤ length formula.clauses
    → counted i (open_items formula order place) ≡ 1
open_once formula order place i small positive within = open_counted formula order place i small
    ∙ counted_once (length formula.clauses) i positive within

-- so have the items of the last bucket, that of the terms that hold no variable
pub last_once : (formula : Formula) (order : List ℕ) (i : ℕ) → 0 < i → i ≤ length formula.clauses
    → counted i (items formula order (length order)) ≡ 1
last_once formula order i positive within =
    let none : counted i (filter (λ term. nat_le (suc (length order)) (first_place formula order term)) (made formula order (length order)))
    ≡ 0 =
    counted_none i (λ term. nat_le (suc (length order)) (first_place formula order term)) (made formula order (length order))
    (λ k d inside passes. absurd (omega (
      arith,
      leb-true _ _ passes,
      first_within formula order (slice_index_or (made formula order (length order)) k d),
    ))) in
    omega (
      arith,
      none,
      open_once formula order (length order) i (omega arith) positive within,
      counted_split i (first_place formula order) (length order) (made formula order (length order)),
    )

-- a number inside a bucket's items is a clause's
pub held_is_number : (formula : Formula) (order : List ℕ) (place i : ℕ) → place ≤ length order → 0 < counted i (items formula order place)
    → (0 < i) × (i ≤ length formula.clauses)
held_is_number formula order place i small held =
    is_number (length formula.clauses) i
    (omega (
      arith,
      held,
      open_counted formula order place i small,
      counted_split i (first_place formula order) place (made formula order place),
    ))

-- a term keeps the variables from a place on of the clauses inside
abbrev KeepsFrom : Formula → List ℕ → ℕ → Term → Type 0
KeepsFrom formula order place term =
    (i j : ℕ) → place ≤ j → j < length order → 0 < times i term → holds_at formula order j i ≡ true
    → term_has formula (slice_index_or order j 0) term ≡ true

both_keep : (formula : Formula) (order : List ℕ) (place : ℕ) (one other : Term) → KeepsFrom formula order place one
    → KeepsFrom formula order place other
    → KeepsFrom formula order place (both one other)
both_keep formula order place one other left right i j late small inside held =
    elim (cases_eq (times i one) 0) [
      | inl none ↦ or_right _ _ (right i j late small (omega (arith, inside, none)) held)
      | inr some ↦ or_left _ _ (left i j late small (omega (arith, some)) held)
    ]

some_value_keeps : (formula : Formula) (order : List ℕ) → IsOrder order → (place : ℕ) (term : Term) → KeepsFrom formula order place term
    → KeepsFrom formula order (suc place) (some_value (slice_index_or order place 0) term)
some_value_keeps formula order sound place term keeps i j late small inside held =
    and_from _ _ (keeps i j (omega (arith, late)) small inside held)
    (ap not (ne_eqb (slice_index_or order j 0) (slice_index_or order place 0)
    (λ same. omega (arith, sound.apart j place small (omega (arith, late, small)) same, late))))

made_keep : (formula : Formula) (order : List ℕ) → IsOrder order → (place : ℕ)
    → All (KeepsFrom formula order place) (made formula order place)
made_keep formula order sound zero =
    made_start (KeepsFrom formula order 0) formula order
    (λ number positive within i j late small inside held. subst (λ i. holds_at formula order j i ≡ true) (same_number i number inside) held)
made_keep formula order sound (suc place) =
    let here = made_keep formula order sound place in
    made_all (KeepsFrom formula order (suc place)) formula order place
    (All-weaker (KeepsFrom formula order place) (KeepsFrom formula order (suc place))
    (λ term keeps i j late. keeps i j (omega (arith, late))) (made formula order place) here)
    (result_all (KeepsFrom formula order place) (KeepsFrom formula order (suc place)) (slice_index_or order place 0)
    (both_keep formula order place) (some_value_keeps formula order sound place) (items formula order place)
    (All-filter (λ term. first_place formula order term == place) (KeepsFrom formula order place) (made formula order place) here))

-- all clauses that hold a bucket's variable are in its items
pub items_closed : (formula : Formula) (order : List ℕ) → IsOrder order → (place i : ℕ) → place < length order → 0 < i → i
    ≤ length formula.clauses
    → holds_at formula order place i ≡ true → counted i (items formula order place) ≡ 1
items_closed formula order sound place i small positive within held =
    let later : Term → Bool = λ term. nat_le (suc place) (first_place formula order term) in
    let none : counted i (filter later (made formula order place)) ≡ 0 =
    counted_none i later (made formula order place)
    (All-weaker (KeepsFrom formula order place) (λ term. later term ≡ true → times i term ≡ 0)
    (λ term keeps passes. elim (cases_eq (times i term) 0) [
      | inl without ↦ without
      | inr inside ↦ absurd (omega (
        arith,
        leb-true _ _ passes,
        first_upto formula order place term
            (keeps i place (omega arith) small (omega (arith, inside)) held),
      ))
    ]) (made formula order place) (made_keep formula order sound place)) in
    omega (
      arith,
      none,
      open_once formula order place i (omega (arith, small)) positive within,
      counted_split i (first_place formula order) place (made formula order place),
    )

-- and so in its result, which there is
pub result_closed : (formula : Formula) (order : List ℕ) → IsOrder order → (place i : ℕ) → place < length order → 0 < i → i
    ≤ length formula.clauses
    → holds_at formula order place i ≡ true → (term : Term) × IsResult formula order place term × (times i term ≡ 1)
result_closed formula order sound place i small positive within held =
    let closed = items_closed formula order sound place i small positive within held in
    let there = result_of_held formula order place i (omega (arith, closed)) in
    (there.0, there.1, result_times formula order place there.0 i there.1 ∙ closed)

-- an item holds its bucket's variable by a clause inside
held_of_item : (formula : Formula) (order : List ℕ) (place : ℕ) (item : Term) → place < length order
    → Contains (items formula order place) item
    → (i : ℕ) × (0 < i) × (i ≤ length formula.clauses) × (holds_at formula order place i ≡ true)
held_of_item formula order place item small here =
    let first = All-contains (λ term. first_place formula order term
    ≡ place) (items formula order place) item (items_first formula order place) here in
    let holds : term_has formula (slice_index_or order place 0) item ≡ true =
    subst (λ k. term_has formula (slice_index_or order k 0) item
    ≡ true) first (passes_at_first (λ x. term_has formula x item) order 0 (omega (arith, first, small))) in
    let inside = variable_of_input formula (slice_index_or order place 0) item holds in
    let number = held_is_number formula order place inside.0 (omega (arith, small))
    (omega (arith, inside.1, times_contained inside.0 (items formula order place) item here)) in
    (inside.0, number.0, number.1, inside.2)

-- A bucket is empty exactly where no clause holds its variable.
pub held_of_items : (formula : Formula) (order : List ℕ) → (place : ℕ) (term : Term) → place < length order
    → IsResult formula order place term
    → (i : ℕ) × (0 < i) × (i ≤ length formula.clauses) × (holds_at formula order place i ≡ true)
held_of_items formula order place term small made_here =
    let item = some_term (slice_index_or order place 0) (items formula order place) term made_here in
    held_of_item formula order place item.0 small item.1

pub none_held : (formula : Formula) (order : List ℕ) → IsOrder order → (place i : ℕ) → place < length order → items formula order place ≡ []
    → 0 < i → i ≤ length formula.clauses → holds_at formula order place i ≡ false
none_held formula order sound place i small empty positive within =
    false_from_ne_true _ (λ held. omega (arith, items_closed formula order sound place i small positive within held, ap (counted i) empty))

pub first_is_held : (formula : Formula) (order : List ℕ) (term : Term) → first_place formula order term < length order
    → (i : ℕ) × (0 < times i term) × (holds_at formula order (first_place formula order term) i ≡ true)
first_is_held formula order term small =
    variable_of_input formula (slice_index_or order (first_place formula order term) 0) term
    (passes_at_first (λ x. term_has formula x term) order 0 small)

-- A result goes to the bucket of its first variable, and is among its result.
pub climbs : (formula : Formula) (order : List ℕ) (place : ℕ) (term : Term) → place < length order → IsResult formula order place term
    → first_place formula order term < length order
    → (later : Term) × IsResult formula order (first_place formula order term) later × ((i : ℕ) → times i term ≤ times i later)
climbs formula order place term small made_here inner =
    let next = first_place formula order term in
    let here = result_made formula order place next term ((first_of_result formula order place term small made_here).0) made_here in
    let among : (i : ℕ) → times i term ≤ counted i (items formula order next) =
    (λ i. times_filtered i (λ term. first_place formula order term == next) (made formula order next) term here (eq-eqb next next refl)) in
    let inside = first_is_held formula order term inner in
    let there = result_of_held formula order next inside.0 (omega (arith, inside.1, among inside.0)) in
    (there.0, there.1, (λ i. omega (arith, among i, result_times formula order next there.0 i there.1)))

-- Where a bucket has a clause, each term with that clause that was made before belongs to this bucket or to one before.
upto_place : (formula : Formula) (order : List ℕ) (place : ℕ) (term : Term) (i : ℕ) → place ≤ length order
    → Contains (made formula order place) term → 0 < times i term → 0 < counted i (items formula order place)
    → first_place formula order term ≤ place
upto_place formula order place term i small here inside in_items =
    elim (cases_lt place (first_place formula order term)) [
      | inr early ↦ early
      | inl behind ↦
          let later = times_filtered i (λ term. nat_le (suc place) (first_place formula order term)) (made formula order place) term here
          (le-leb (suc place) (first_place formula order term) behind) in
          let number = held_is_number formula order place i small in_items in
          absurd (omega (
            arith,
            later,
            inside,
            in_items,
            open_once formula order place i small number.0 number.1,
            counted_split i (first_place formula order) place (made formula order place),
          ))
    ]

-- A clause is in no bucket before that of its first variable, and is in that one.
pub from_first : (formula : Formula) (order : List ℕ) (place i : ℕ) → place ≤ length order → 0 < i → i ≤ length formula.clauses
    → 0 < counted i (items formula order place) → first_place formula order (input i) ≤ place
from_first formula order place i small positive within in_items =
    let here = Contains-append_left (all_inputs (length formula.clauses)) (results formula order place) (input i)
    (input_contained (length formula.clauses) i positive within) in
    upto_place formula order place (input i) i small here (omega (arith, times_itself i)) in_items

-- where the number of places between is below a number
meets_within : (steps : ℕ) (formula : Formula) (order : List ℕ) (earlier place : ℕ) (one : Term) (i : ℕ) → place ≤ earlier + steps → earlier
    < place → place < length order
    → IsResult formula order earlier one → 0 < times i one → 0 < counted i (items formula order place)
    → (j : ℕ) → times j one ≤ counted j (items formula order place)
meets_within zero formula order earlier place one i near before small made_one in_one in_items j = absurd (omega (arith, near, before))
meets_within (suc steps) formula order earlier place one i near before small made_one in_one in_items j =
    let upto = upto_place formula order place one i (omega (arith, small))
    (result_made formula order earlier place one before made_one) in_one in_items in
    let behind = (first_of_result formula order earlier one (omega (arith, before, small)) made_one).0 in
    let next = climbs formula order earlier one (omega (arith, before, small)) made_one (omega (arith, upto, small)) in
    elim (cases_eq (first_place formula order one) place) [
      | inl same ↦ omega (
        arith,
        next.2 j,
        result_times formula order (first_place formula order one) next.0 j next.1,
        ap (λ k. counted j (items formula order k)) same,
      )
      | inr differ ↦
          let rest = meets_within steps formula order (first_place formula order one) place next.0 i (omega (arith, near, behind))
          (omega (arith, upto, differ)) small next.1
          (omega (arith, in_one, next.2 i)) in_items j in
          omega (arith, rest, next.2 j)
    ]

-- Where results of two buckets share a clause, the first goes to the second's bucket at the latest, and is among its result.
pub meets : (formula : Formula) (order : List ℕ) (earlier place : ℕ) (one other : Term) (i : ℕ) → earlier < place → place < length order
    → IsResult formula order earlier one → IsResult formula order place other → 0 < times i one → 0 < times i other
    → (first_place formula order one ≤ place) × ((j : ℕ) → times j one ≤ times j other)
meets formula order earlier place one other i before small made_one made_other in_one in_other =
    let in_items : 0 < counted i (items formula order place) = omega
    (arith, in_other, result_times formula order place other i made_other) in (
      upto_place formula order place one i (omega (arith, small))
          (result_made formula order earlier place one before made_one) in_one in_items,
      (λ j. omega (
        arith,
        meets_within place formula order earlier place one i (omega arith) before small made_one in_one in_items j,
        result_times formula order place other j made_other,
      )),
    )

-- quantified variables are closed inside all terms
pub terms_closed : (formula : Formula) (order : List ℕ) → IsOrder order → length order ≡ formula.vars → (place : ℕ) → place ≤ length order
    → All (IsClosed formula) (made formula order place)
terms_closed formula order sound order_is zero small = made_start (IsClosed formula) formula order (λ i positive within. (positive, within))
terms_closed formula order sound order_is (suc place) small =
    let here = terms_closed formula order sound order_is place (omega (arith, small)) in
    let variable = sound.within place small in
    made_all (IsClosed formula) formula order place here
    (closed_result formula (slice_index_or order place 0) (items formula order place) variable.0 (omega (arith, variable.1, order_is))
    (λ i positive within held. omega (arith, items_closed formula order sound place i small positive within held))
    (All-filter (λ term. first_place formula order term == place) (IsClosed formula) (made formula order place) here))

pub items_are_closed : (formula : Formula) (order : List ℕ) → IsOrder order → length order ≡ formula.vars → (place : ℕ) → place
    ≤ length order
    → All (IsClosed formula) (items formula order place)
items_are_closed formula order sound order_is place small =
    All-filter (λ term. first_place formula order term == place) (IsClosed formula) (made formula order place)
    (terms_closed formula order sound order_is place small)
