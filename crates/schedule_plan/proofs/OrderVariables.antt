-- Distinct variables: as many as there are make an order, so what a text is read as is one.
use Rattle.std.proofs.Common.{◌≡◌, ℕ, zero, suc, ◌+◌, ◌<◌, ◌≤◌, Bool, true, false, List, [], ◌∷◌, ◌++◌, Option, None, Some, length, refl}
use Rattle.std.proofs.Common.{sym, ap, ◌∙◌, arith, inl, inr}
use Rattle.std.specs.Prelude.{nat_eq as eqb, nat_lt, ◌||◌, slice_index_or, if◌then◌else◌}
use Rattle.std.specs.List.{AllByRecursion, IsDistinct}
use Rattle.std.proofs.lemmas.Bool.{cases_lt, eqb-true, eqb-false, eq-eqb, ne_eqb, ltb-false}
use Rattle.std.proofs.lemmas.List.Folds.{list_any-append, list_any_at}
use Rattle.std.proofs.lemmas.Map.Keys.{apart_from_distinct}
use Rattle.std.proofs.lemmas.Map.Steps.{length-le_from_distinct_below}
use Rattle.cnf_base.specs.Number.{plain_number}
use Rattle.text_scan.specs.Items.{Items, the_end, too_long, next_word}
use Rattle.schedule_plan.specs.declared.order_error.OrderKind.{OrderKind}
use Rattle.schedule_plan.specs.declared.order_error.OrderKind.TheVariants.{Range, Repeated, Missing}
use Rattle.cnf_base.specs.Order.{IsOrder}
use Rattle.schedule_plan.specs.OrderReader.{AreVariables}
use Rattle.schedule_plan.specs.OrderText.{OrderText, order, refusal, stands_in, offence_of, with_read, judged, order_of}

pub equal : (n : ℕ) → eqb n n ≡ true
equal n = eq-eqb n n refl

other_of : (m n : ℕ) → eqb m n ≡ false → eqb n m ≡ false
other_of m n h = ne_eqb n m (λ same. eqb-false m n h (sym same))

neither : (a b : Bool) → (a || b) ≡ false → (a ≡ false) × (b ≡ false)
neither true b h = cc
neither false b h = (refl, h)

judges : (a s : Bool) → ◌≡◌ {A = Option OrderKind} (if a then Some Range else if s then Some Repeated else None) None → (a ≡ false)
    × (s ≡ false)
judges true s h = cc
judges false true h = cc
judges false false h = (refl, refl)

-- a number that offends nothing is a variable, and stands nowhere before
pub unoffending : (n vars : ℕ) (before : List ℕ) → offence_of (Some n) vars before ≡ None → (0 < n) × (n ≤ vars)
    × (stands_in n before ≡ false)
unoffending n vars before h =
    let both = judges (eqb n 0 || nat_lt vars n) (stands_in n before) h in
    let range = neither (eqb n 0) (nat_lt vars n) both.0 in
    let differs = eqb-false n 0 range.0 in
    (omega (arith, differs), ltb-false vars n range.1, both.1)

all_last : (P : ℕ → Type 0) (xs : List ℕ) (n : ℕ) → AllByRecursion P xs → P n → AllByRecursion P (xs ++ n ∷ [])
all_last P [] n all last = (last, tt)
all_last P (x ∷ xs) n all last = (all.0, all_last P xs n all.1 last)

none_equal : (x : ℕ) (xs : List ℕ) → stands_in x xs ≡ false → AllByRecursion (λ y. eqb x y ≡ false) xs
none_equal x [] h = tt
none_equal x (y ∷ ys) h = let both = neither (eqb x y) (stands_in x ys) h in (both.0, none_equal x ys both.1)

distinct_first : (x : ℕ) (xs : List ℕ) → stands_in x xs ≡ false → IsDistinct eqb xs → IsDistinct eqb (x ∷ xs)
unfolding IsDistinct
distinct_first x xs apart distinct = (none_equal x xs apart, distinct)

distinct_last : (xs : List ℕ) (n : ℕ) → stands_in n xs ≡ false → IsDistinct eqb xs → IsDistinct eqb (xs ++ n ∷ [])
unfolding IsDistinct
distinct_last [] n apart distinct = (tt, tt)
distinct_last (x ∷ xs) n apart distinct =
    let both = neither (eqb n x) (stands_in n xs) apart in
    (all_last (λ y. eqb x y ≡ false) xs n distinct.0 (other_of n x both.0), distinct_last xs n both.1 distinct.1)

distinct_none : IsDistinct eqb []
unfolding IsDistinct
distinct_none = tt

or_last : (a b : Bool) → (a || (b || false)) ≡ (a || b)
or_last true b = refl
or_last false true = refl
or_last false false = refl

pub or_true : (a : Bool) → (a || true) ≡ true
or_true true = refl
or_true false = refl

pub or_false : (a : Bool) → (a || false) ≡ a
or_false true = refl
or_false false = refl

pub stands_last : (m n : ℕ) (xs : List ℕ) → stands_in m (xs ++ n ∷ []) ≡ (stands_in m xs || eqb m n)
stands_last m n xs = list_any-append (eqb m) xs (n ∷ []) ∙ or_last (stands_in m xs) (eqb m n)

-- The numbers are at most as many as the variables, since zero stands nowhere.
with_zero : (vars : ℕ) (numbers : List ℕ) → AreVariables vars numbers → IsDistinct eqb (0 ∷ numbers)
with_zero vars numbers variables = distinct_first 0 numbers
    (elim (stands_in 0 numbers) as (λ b. stands_in 0 numbers ≡ b → b ≡ false) [
      | true ↦ λ e. absurd (omega (arith, (variables.within 0 e).0))
      | false ↦ λ e. refl
    ] refl) variables.distinct

below : (vars q : ℕ) (numbers : List ℕ) → AreVariables vars numbers → stands_in q (0 ∷ numbers) ≡ true → q < vars + 1
below vars q numbers variables h = elim (eqb q 0) as (λ b. eqb q 0 ≡ b → q < vars + 1) [
  | true ↦ λ same. let is = eqb-true q 0 same in omega (arith, is)
  | false ↦ λ other. let inside = variables.within q (sym (ap (λ b. b || stands_in q numbers) other) ∙ h) in omega (arith, inside.1)
] refl

few : (vars : ℕ) (numbers : List ℕ) → AreVariables vars numbers → length numbers ≤ vars
few vars numbers variables =
    omega (
      arith,
      length-le_from_distinct_below (0 ∷ numbers) (vars
          + 1) (with_zero vars numbers variables) (λ q h. below vars q numbers variables h),
    )

-- so where they are as many, each variable stands among them
each_stands : (vars variable : ℕ) (numbers : List ℕ) → AreVariables vars numbers → vars ≤ length numbers
    → 0 < variable → variable ≤ vars → stands_in variable numbers ≡ true
each_stands vars variable numbers variables many positive small =
    elim (stands_in variable numbers) as (λ b. stands_in variable numbers ≡ b → b ≡ true) [
      | true ↦ λ e. refl
      | false ↦ λ e.
          let more : IsDistinct eqb (variable ∷ numbers) = distinct_first variable numbers e variables.distinct in
          let all : (n : ℕ) → stands_in n (variable ∷ numbers) ≡ true → (0 < n) × (n ≤ vars) = λ n h.
          elim (eqb n variable) as (λ b. eqb n variable ≡ b → (0 < n) × (n ≤ vars)) [
            | true ↦ λ same. let is = eqb-true n variable same in (omega (arith, positive, is), omega (arith, small, is))
            | false ↦ λ other. variables.within n (sym (ap (λ b. b || stands_in n numbers) other) ∙ h)
          ] refl in
          absurd (omega (arith, many, few vars (variable ∷ numbers) (record { distinct = more; within = all })))
    ] refl

place_of : (n : ℕ) (xs : List ℕ) → stands_in n xs ≡ true → (place : ℕ) × (place < length xs) × (slice_index_or xs place 0 ≡ n)
place_of n [] h = cc
place_of n (x ∷ xs) h = elim (eqb n x) as (λ b. eqb n x ≡ b → (place : ℕ) × (place < length (x ∷ xs))
    × (slice_index_or (x ∷ xs) place 0 ≡ n)) [
      | true ↦ λ e. (zero, omega arith, sym (eqb-true n x e))
      | false ↦ λ e.
          let later = place_of n xs (sym (ap (λ b. b || stands_in n xs) e) ∙ h) in
          (suc later.0, omega (arith, later.1), later.2)
    ] refl

differ : (xs : List ℕ) (i j : ℕ) → IsDistinct eqb xs → i < j → j < length xs → slice_index_or xs i 0 ≡ slice_index_or xs j 0 → ⊥
differ xs i j distinct before inside same =
    let apart = apart_from_distinct eqb xs i j 0 distinct before inside in
    let no : true ≡ false = sym (equal (slice_index_or xs j 0)) ∙ ap (λ x. eqb x (slice_index_or xs j 0)) (sym same) ∙ apart in
    cc

-- As many distinct variables as there are make an order.
pub are_order : (vars : ℕ) (numbers : List ℕ) → AreVariables vars numbers → vars ≤ length numbers → IsOrder numbers
    × (length numbers ≡ vars)
are_order vars numbers variables many =
    let count : length numbers ≡ vars = omega (arith, many, few vars numbers variables) in (
      record {
        within = λ place small.
            let number = slice_index_or numbers place 0 in
            let is = variables.within number (list_any_at (eqb number) numbers place 0 small (equal number)) in
            (is.0, omega (arith, is.1, count));
        apart = λ place other small late same.
            elim (cases_lt place other) [
              | inl before ↦ absurd (differ numbers place other variables.distinct before late same)
              | inr behind ↦ elim (cases_lt other place) [
                | inl before ↦ absurd (differ numbers other place variables.distinct before small (sym same))
                | inr equals ↦ omega (arith, behind, equals)
              ]
            ];
        each = λ variable positive small.
            place_of variable numbers (each_stands vars variable numbers variables many positive (omega (arith, small, count)));
      },
      count,
    )

pub no_variables : (vars : ℕ) → AreVariables vars []
no_variables vars = record { distinct = distinct_none; within = λ number h. cc }

pub one_more_variable : (vars n : ℕ) (numbers : List ℕ) → offence_of (Some n) vars numbers ≡ None → AreVariables vars numbers
    → AreVariables vars (numbers ++ n ∷ [])
one_more_variable vars n numbers good variables =
    let is = unoffending n vars numbers good in
    record {
      distinct = distinct_last numbers n is.2 variables.distinct;
      within = λ number h. elim (eqb number n) as (λ b. eqb number n ≡ b → (0 < number) × (number ≤ vars)) [
        | true ↦ λ e. let same = eqb-true number n e in (omega (arith, is.0, same), omega (arith, is.1, same))
        | false ↦ λ e. variables.within number (sym (or_false (stands_in number numbers)) ∙ sym (ap (λ b. stands_in number numbers || b) e)
            ∙ sym (stands_last number n numbers) ∙ h)
      ] refl;
    }

-- The law of the texts: what is read as an order is one.
read_variables : (number : Option ℕ) (vars : ℕ) (before : List ℕ) → offence_of number vars before ≡ None → AreVariables vars before
    → AreVariables vars (with_read number before)
read_variables None vars before none variables = cc
read_variables (Some n) vars before none variables = one_more_variable vars n before none variables

unrefused : (offence : Option OrderKind) (line : ℕ) (more : OrderText) (variables : List ℕ) → judged offence line more ≡ order variables
    → (offence ≡ None) × (more ≡ order variables)
unrefused (Some kind) line more variables h = cc
unrefused None line more variables h = (refl, h)

ended : (b : Bool) (line : ℕ) (numbers variables : List ℕ) → (if b then refusal Missing line else order numbers) ≡ order variables
    → (b ≡ false) × (numbers ≡ variables)
ended true line numbers variables h = cc
ended false line numbers variables h = (refl, cc)

pub text_is_order : (all : Items) (vars : ℕ) (before variables : List ℕ) → AreVariables vars before → order_of all vars before
    ≡ order variables
    → IsOrder variables × (length variables ≡ vars)
text_is_order (the_end line) vars before variables are h =
    let end = ended (nat_lt (length before) vars) line before variables h in
    rw (← end.1) (are_order vars before are (ltb-false (length before) vars end.0))
text_is_order (too_long line) vars before variables are h = cc
text_is_order (next_word word all) vars before variables are h =
    let good = unrefused (offence_of (plain_number word.bytes) vars before) word.line
    (order_of all vars (with_read (plain_number word.bytes) before)) variables h in
    text_is_order all vars (with_read (plain_number word.bytes) before) variables
    (read_variables (plain_number word.bytes) vars before good.0 are) good.1
