-- The clauses inside terms, counted by their numbers, and the variables that terms hold.
use Rattle.std.proofs.Common.{◌≡◌, ℕ, zero, suc, ◌+◌, ◌<◌, ◌≤◌, ◌==◌, Bool, true, false, cond, List, [], ◌∷◌, ◌++◌, length, filter, All}
use Rattle.std.proofs.Common.{Contains, refl, sym, ap, subst, ◌∙◌, inl, inr, arith, eq-eqb, ne_eqb, le-leb}
use Rattle.std.specs.Prelude.{nat_le}
use Rattle.std.proofs.lemmas.Bool.{cases_eq, cases_order, cases_Bool, or_cases, and_parts, lt-leb}
use Rattle.std.proofs.lemmas.List.Elements.{All-nil, All-cons, All-head, All-tail, All-append, Contains-append_left}
use Rattle.std.proofs.lemmas.List.Elements.{Contains-push}
use Rattle.cnf_base.specs.Formula.{Formula}
use Rattle.schedule_plan.specs.Plan.{Term, input, both, some_value, term_has, clause_has, clause_of_number}
use Rattle.schedule_plan.specs.Bucket.{all_inputs, conjunction, result_of}

-- how often a clause's number stands in a term, and in some terms
abbrev pub times : ℕ → Term → ℕ
times i (input j) = cond (j == i) 1 0
times i (both one other) = times i one + times i other
times i (some_value x term) = times i term

abbrev pub counted : ℕ → List Term → ℕ
counted i [] = 0
counted i (term ∷ terms) = times i term + counted i terms

-- Each quantified variable inside is one of the formula's and all clauses that hold it are below, and each number is a
-- clause's.
abbrev pub IsClosed : Formula → Term → Type 0
IsClosed formula (input i) = (0 < i) × (i ≤ length formula.clauses)
IsClosed formula (both one other) = IsClosed formula one × IsClosed formula other
IsClosed formula (some_value x term) =
    (0 < x) × (x ≤ formula.vars)
    × ((i : ℕ) → 0 < i → i ≤ length formula.clauses → clause_has x (clause_of_number formula i) ≡ true → 0 < times i term)
    × IsClosed formula term

once : (i j : ℕ) → i ≡ j → times i (input j) ≡ 1
once i j same = ap (λ b. cond {A = ℕ} b 1 0) (eq-eqb j i (sym same))

never : (i j : ℕ) → (i ≡ j → ⊥) → times i (input j) ≡ 0
never i j differ = ap (λ b. cond {A = ℕ} b 1 0) (ne_eqb j i (λ same. differ (sym same)))

pub same_number : (i j : ℕ) → 0 < times i (input j) → i ≡ j
same_number i j held =
    elim (cases_eq i j) [
      | inl same ↦ same
      | inr differ ↦ absurd (omega (arith, held, never i j differ))
    ]

pub counted-append : (i : ℕ) (some more : List Term) → counted i (some ++ more) ≡ counted i some + counted i more
counted-append i [] more = omega arith
counted-append i (term ∷ some) more = omega (arith, counted-append i some more)

pub times-conjunction : (i : ℕ) (term : Term) (more : List Term) → times i (conjunction term more) ≡ times i term + counted i more
times-conjunction i term [] = omega arith
times-conjunction i term (next ∷ more) = omega (arith, times-conjunction i (both term next) more)

pub counted-result_of : (i x : ℕ) (terms : List Term) → counted i (result_of x terms) ≡ counted i terms
counted-result_of i x [] = refl
counted-result_of i x (first ∷ more) = omega (arith, times-conjunction i first more)

counted-filter_cons : (i : ℕ) (test : Term → Bool) (term : Term) (terms : List Term)
    → counted i (filter test (term ∷ terms)) ≡ cond (test term) (times i term) 0 + counted i (filter test terms)
counted-filter_cons i test term terms =
    elim (test term) as (λ b. counted i (cond b (term ∷ filter test terms) (filter test terms)) ≡ cond b (times i term) 0
    + counted i (filter test terms)) [
      | true ↦ refl
      | false ↦ omega arith
    ]

pub times_contained : (i : ℕ) (terms : List Term) (term : Term) → Contains terms term → times i term ≤ counted i terms
times_contained i [] term (k, small, at) = absurd (omega (arith, small))
times_contained i (first ∷ terms) term (zero, small, at) = omega (arith, ap (times i) at)
times_contained i (first ∷ terms) term (suc k, small, at) = omega (arith, times_contained i terms term (k, omega (arith, small), at))

-- a term that passes is counted among those that pass
pub times_filtered : (i : ℕ) (test : Term → Bool) (terms : List Term) (term : Term) → Contains terms term → test term ≡ true → times i term
    ≤ counted i (filter test terms)
times_filtered i test [] term (k, small, at) passes = absurd (omega (arith, small))
times_filtered i test (first ∷ terms) term (zero, small, at) passes =
    let taken : cond (test first) (times i first) 0 ≡ times i term = ap (λ t. cond (test t) (times i t) 0) at
    ∙ ap (λ b. cond b (times i term) 0) passes in
    omega (arith, counted-filter_cons i test first terms, taken)
times_filtered i test (first ∷ terms) term (suc k, small, at) passes =
    omega (arith, counted-filter_cons i test first terms, times_filtered i test terms term (k, omega (arith, small), at) passes)

pub counted_none : (i : ℕ) (test : Term → Bool) (terms : List Term) → All (λ term. test term ≡ true → times i term ≡ 0) terms
    → counted i (filter test terms) ≡ 0
counted_none i test [] none = refl
counted_none i test (term ∷ terms) none =
    let later = counted_none i test terms (All-tail (λ term. test term ≡ true → times i term ≡ 0) term terms none) in
    let here : cond (test term) (times i term) 0 ≡ 0 =
    elim (cases_Bool (test term)) [
      | inl passes ↦ ap (λ b. cond b (times i term) 0) passes ∙ All-head (λ term. test term ≡ true → times i term
          ≡ 0) term terms none passes
      | inr fails ↦ ap (λ b. cond b (times i term) 0) fails
    ] in
    omega (arith, counted-filter_cons i test term terms, later, here)

-- terms from a number on are those at it and those behind it
pub counted_split : (i : ℕ) (place_of : Term → ℕ) (place : ℕ) (terms : List Term)
    → counted i (filter (λ term. nat_le place (place_of term)) terms)
    ≡ counted i (filter (λ term. place_of term == place) terms) + counted i (filter (λ term. nat_le (suc place) (place_of term)) terms)
counted_split i place_of place [] = refl
counted_split i place_of place (term ∷ terms) =
    let n = times i term in
    let here : cond (nat_le place (place_of term)) n 0 ≡ cond (place_of term == place) n 0 + cond (nat_le (suc place) (place_of term)) n 0 =
    elim (cases_order (place_of term) place) [
      | inl same ↦ omega (
        arith,
        ap (λ b. cond b n 0) (le-leb place (place_of term) (omega (arith, same))),
        ap (λ b. cond b n 0) (eq-eqb (place_of term) place same),
        ap (λ b. cond b n 0) (lt-leb (suc place) (place_of term) (omega (arith, same))),
      )
      | inr (inl before) ↦ omega (
        arith,
        ap (λ b. cond b n 0) (lt-leb place (place_of term) before),
        ap (λ b. cond b n 0) (ne_eqb (place_of term) place (λ same. omega (arith, same, before))),
        ap (λ b. cond b n 0) (lt-leb (suc place) (place_of term) (omega (arith, before))),
      )
      | inr (inr behind) ↦ omega (
        arith,
        ap (λ b. cond b n 0) (le-leb place (place_of term) (omega (arith, behind))),
        ap (λ b. cond b n 0) (ne_eqb (place_of term) place (λ same. omega (arith, same, behind))),
        ap (λ b. cond b n 0) (le-leb (suc place) (place_of term) (omega (arith, behind))),
      )
    ] in
    omega (
      arith,
      here,
      counted_split i place_of place terms,
      counted-filter_cons i (λ term. nat_le place (place_of term)) term terms,
      counted-filter_cons i (λ term. place_of term == place) term terms,
      counted-filter_cons i (λ term. nat_le (suc place) (place_of term)) term terms,
    )

pub counted_above : (count i : ℕ) → count < i → counted i (all_inputs count) ≡ 0
counted_above zero i late = refl
counted_above (suc count) i late =
    omega (
      arith,
      counted-append i (all_inputs count) (input (suc count) ∷ []),
      counted_above count i (omega (arith, late)),
      never i (suc count) (λ same. omega (arith, same, late)),
    )

-- each clause's number stands once among all inputs, and no other number
pub counted_once : (count i : ℕ) → 0 < i → i ≤ count → counted i (all_inputs count) ≡ 1
counted_once zero i positive small = absurd (omega (arith, positive, small))
counted_once (suc count) i positive small =
    elim (cases_eq i (suc count)) [
      | inl same ↦ omega (
        arith,
        counted-append i (all_inputs count) (input (suc count) ∷ []),
        counted_above count i (omega (arith, same)),
        once i (suc count) same,
      )
      | inr differ ↦ omega (
        arith,
        counted-append i (all_inputs count) (input (suc count) ∷ []),
        counted_once count i positive (omega (arith, small, differ)),
        never i (suc count) differ,
      )
    ]

pub is_number : (count i : ℕ) → 0 < counted i (all_inputs count) → (0 < i) × (i ≤ count)
is_number zero i held = absurd (omega (arith, held))
is_number (suc count) i held =
    elim (cases_eq i (suc count)) [
      | inl same ↦ (omega (arith, same), omega (arith, same))
      | inr differ ↦
          let earlier = is_number count i (omega (
            arith,
            held,
            counted-append i (all_inputs count) (input (suc count) ∷ []),
            never i (suc count) differ,
          )) in
          (earlier.0, omega (arith, earlier.1))
    ]

-- a variable that a term holds is held by a clause inside
pub variable_of_input : (formula : Formula) (x : ℕ) (term : Term) → term_has formula x term ≡ true → (i : ℕ) × (0 < times i term)
    × (clause_has x (clause_of_number formula i) ≡ true)
variable_of_input formula x (input j) held = (j, omega (arith, once j j refl), held)
variable_of_input formula x (both one other) held =
    elim (or_cases (term_has formula x one) (term_has formula x other) held) [
      | inl left ↦ let inside = variable_of_input formula x one left in (inside.0, omega (arith, inside.1), inside.2)
      | inr right ↦ let inside = variable_of_input formula x other right in (inside.0, omega (arith, inside.1), inside.2)
    ]
variable_of_input formula x (some_value y term) held = variable_of_input formula x term ((and_parts _ _ held).0)

pub input_contained : (count i : ℕ) → 0 < i → i ≤ count → Contains (all_inputs count) (input i)
input_contained zero i positive small = absurd (omega (arith, positive, small))
input_contained (suc count) i positive small =
    elim (cases_eq i (suc count)) [
      | inl same ↦ subst (λ i. Contains (all_inputs (suc count)) (input i)) (sym same)
          (Contains-push (all_inputs count) (input (suc count)))
      | inr differ ↦ Contains-append_left (all_inputs count) (input (suc count)
          ∷ []) (input i) (input_contained count i positive (omega (arith, small, differ)))
    ]

pub times_itself : (i : ℕ) → times i (input i) ≡ 1
times_itself i = once i i refl

-- what holds of a bucket's items, and of both where it holds of one and other, holds of their conjunction
pub conjunction_all : (P : Term → Type 0) → ((one other : Term) → P one → P other → P (both one other)) → (term : Term) (more : List Term)
    → P term → All P more → P (conjunction term more)
conjunction_all P joins term [] first rest = first
conjunction_all P joins term (next ∷ more) first rest =
    conjunction_all P joins (both term next) more (joins term next first (All-head P next more rest)) (All-tail P next more rest)

pub result_all : (P Q : Term → Type 0) (x : ℕ) → ((one other : Term) → P one → P other → P (both one other))
    → ((term : Term) → P term → Q (some_value x term))
    → (terms : List Term) → All P terms → All Q (result_of x terms)
result_all P Q x joins step [] each = All-nil Q
result_all P Q x joins step (first ∷ more) each =
    All-cons Q (some_value x (conjunction first more)) [] (step (conjunction first more)
    (conjunction_all P joins first more (All-head P first more each) (All-tail P first more each))) (All-nil Q)

pub filter_all : (test : Term → Bool) (terms : List Term) → All (λ term. test term ≡ true) terms → filter test terms ≡ terms
filter_all test [] each = refl
filter_all test (term ∷ terms) each =
    ap (λ b. cond b (term ∷ filter test terms) (filter test terms)) (All-head (λ term. test term ≡ true) term terms each)
    ∙ ap (λ rest. term ∷ rest) (filter_all test terms (All-tail (λ term. test term ≡ true) term terms each))

pub inputs_all : (P : Term → Type 0) (count : ℕ) → ((i : ℕ) → 0 < i → i ≤ count → P (input i)) → All P (all_inputs count)
inputs_all P zero each = All-nil P
inputs_all P (suc count) each =
    All-append P (all_inputs count) (input (suc count) ∷ []) (inputs_all P count
    (λ i positive small. each i positive (omega (arith, small))))
    (All-cons P (input (suc count)) [] (each (suc count) (omega arith) (omega arith)) (All-nil P))

-- a quantified conjunction is closed where all clauses that hold the variable are in its terms
pub closed_result : (formula : Formula) (x : ℕ) (terms : List Term) → 0 < x → x ≤ formula.vars
    → ((i : ℕ) → 0 < i → i ≤ length formula.clauses → clause_has x (clause_of_number formula i) ≡ true → 0 < counted i terms)
    → All (IsClosed formula) terms → All (IsClosed formula) (result_of x terms)
closed_result formula x [] positive small held each = All-nil (IsClosed formula)
closed_result formula x (first ∷ more) positive small held each =
    let inner = conjunction_all (IsClosed formula) (λ one other a b. (a, b)) first more (All-head (IsClosed formula) first more each)
    (All-tail (IsClosed formula) first more each) in
    All-cons (IsClosed formula) (some_value x (conjunction first more)) []
    (positive, small, (λ i from to has. omega (arith, held i from to has, times-conjunction i first more)), inner)
    (All-nil (IsClosed formula))

-- there is a result where a clause is inside, and a first term where there is a result
pub result_there : (i x : ℕ) (terms : List Term) → 0 < counted i terms → (term : Term) × (result_of x terms ≡ term ∷ [])
result_there i x [] held = absurd (omega (arith, held))
result_there i x (first ∷ more) held = (some_value x (conjunction first more), refl)

pub some_term : (x : ℕ) (terms : List Term) (term : Term) → result_of x terms ≡ term ∷ [] → (first : Term) × Contains terms first
some_term x [] term made_here = absurd (omega (arith, ap length made_here))
some_term x (first ∷ more) term made_here = (first, (0, omega arith, refl))
