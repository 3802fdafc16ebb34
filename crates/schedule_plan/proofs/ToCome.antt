-- How many clauses are to come.
use Rattle.std.proofs.Common.{◌≡◌, ℕ, zero, suc, ◌+◌, ◌<◌, ◌≤◌, ◌==◌, Bool, true, false, ◌||◌, ◌&&◌, List, [], ◌∷◌, inl, inr, refl, sym, ap}
use Rattle.std.proofs.Common.{◌∙◌, arith, eq-eqb, ne_eqb}
use Rattle.std.specs.Prelude.{not, nat_lt, if◌then◌else◌}
use Rattle.std.proofs.lemmas.Bool.{cases_eq, and_parts}
use Rattle.cnf_base.specs.Formula.{Formula}
use Rattle.schedule_plan.specs.Plan.{is_pushed, holds_later, clause_has, clause_of_number}
use Rattle.schedule_plan.specs.ScheduleText.{all_pushed}
use Rattle.schedule_plan.specs.ScheduleState.{to_come, any_clause, holds}

-- this one is to come
abbrev one_if : Bool → ℕ
one_if b = if b then 1 else 0

one_small : (b : Bool) → one_if b ≤ 1
one_small true = omega arith
one_small false = omega arith

pub to_come_small : (test : ℕ → Bool) (pushed : List ℕ) (n : ℕ) → to_come test pushed n ≤ n
to_come_small test pushed zero = omega arith
to_come_small test pushed (suc n) = omega (arith, one_small (not (is_pushed pushed (suc n)) && test (suc n)), to_come_small test pushed n)

pub to_come_below : (test : ℕ → Bool) (pushed : List ℕ) (i n : ℕ) → n < i → to_come test (i ∷ pushed) n ≡ to_come test pushed n
to_come_below test pushed i zero below = refl
to_come_below test pushed i (suc n) below =
    let head : one_if (not ((i == suc n) || is_pushed pushed (suc n)) && test (suc n))
    ≡ one_if (not (is_pushed pushed (suc n)) && test (suc n)) =
    ap (λ b. one_if (not (b || is_pushed pushed (suc n)) && test (suc n))) (ne_eqb i (suc n) (λ same. omega (arith, below, same))) in
    omega (arith, head, to_come_below test pushed i n (omega (arith, below)))

-- a clause is pushed
pub to_come_push : (test : ℕ → Bool) (pushed : List ℕ) (i n : ℕ) → 0 < i → i ≤ n → is_pushed pushed i ≡ false
    → to_come test pushed n ≡ one_if (test i) + to_come test (i ∷ pushed) n
to_come_push test pushed i zero positive small new = absurd (omega (arith, positive, small))
to_come_push test pushed i (suc n) positive small new =
    elim (cases_eq i (suc n)) [
      | inl same ↦
          let now : one_if (not ((i == suc n) || is_pushed pushed (suc n)) && test (suc n)) ≡ 0 =
          ap (λ b. one_if (not (b || is_pushed pushed (suc n)) && test (suc n))) (eq-eqb i (suc n) same) in
          let before : one_if (not (is_pushed pushed (suc n)) && test (suc n)) ≡ one_if (test i) =
          ap (λ j. one_if (not (is_pushed pushed j) && test j)) (sym same) ∙ ap (λ b. one_if (not b && test i)) new in
          omega (arith, now, before, to_come_below test pushed i n (omega (arith, same)))
      | inr differ ↦
          let head : one_if (not ((i == suc n) || is_pushed pushed (suc n)) && test (suc n))
          ≡ one_if (not (is_pushed pushed (suc n)) && test (suc n)) =
          ap (λ b. one_if (not (b || is_pushed pushed (suc n)) && test (suc n))) (ne_eqb i (suc n) differ) in
          omega (arith, head, to_come_push test pushed i n positive (omega (arith, small, differ)) new)
    ]

positive_sum : (b : Bool) (n : ℕ) → nat_lt 0 (one_if b + n) ≡ (b || nat_lt 0 n)
positive_sum true n = grind arith
positive_sum false n = grind arith

pub to_come_later : (formula : Formula) (pushed : List ℕ) (x n : ℕ) → nat_lt 0 (to_come (holds formula x) pushed n)
    ≡ holds_later formula pushed x n
to_come_later formula pushed x zero = refl
to_come_later formula pushed x (suc n) =
    let b = not (is_pushed pushed (suc n)) && clause_has x (clause_of_number formula (suc n)) in
    positive_sum b (to_come (holds formula x) pushed n) ∙ ap (λ c. b || c) (to_come_later formula pushed x n)

unpushed_step : (p r : Bool) → ((not p && true) || not r) ≡ not (p && r)
unpushed_step true r = refl
unpushed_step false r = refl

pub to_come_all : (pushed : List ℕ) (n : ℕ) → nat_lt 0 (to_come any_clause pushed n) ≡ not (all_pushed pushed n)
to_come_all pushed zero = refl
to_come_all pushed (suc n) =
    positive_sum (not (is_pushed pushed (suc n)) && true) (to_come any_clause pushed n)
    ∙ ap (λ c. (not (is_pushed pushed (suc n)) && true) || c) (to_come_all pushed n)
    ∙ unpushed_step (is_pushed pushed (suc n)) (all_pushed pushed n)

pub each_pushed : (pushed : List ℕ) (n i : ℕ) → all_pushed pushed n ≡ true → 0 < i → i ≤ n → is_pushed pushed i ≡ true
each_pushed pushed zero i all positive small = absurd (omega (arith, positive, small))
each_pushed pushed (suc n) i all positive small =
    let parts = and_parts (is_pushed pushed (suc n)) (all_pushed pushed n) all in
    elim (cases_eq i (suc n)) [
      | inl same ↦ ap (is_pushed pushed) same ∙ parts.0
      | inr differ ↦ each_pushed pushed n i parts.1 positive (omega (arith, small, differ))
    ]

-- before the first push
pub none_pushed : (n : ℕ) → to_come any_clause [] n ≡ n
none_pushed zero = refl
none_pushed (suc n) = omega (arith, none_pushed n)
