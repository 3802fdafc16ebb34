-- Where the stacked terms begin among the pushes, as the moves change them.
use Rattle.std.proofs.Common.{◌≡◌, ℕ, suc, ◌<◌, ◌≤◌, ◌==◌, Bool, true, false, ◌||◌, ◌&&◌, List, [], ◌∷◌, length, inl, inr, refl, sym, ap}
use Rattle.std.proofs.Common.{◌∙◌, arith, eq-eqb, ne_eqb}
use Rattle.std.specs.Prelude.{not, nat_lt, min, if◌then◌else◌}
use Rattle.std.specs.List.{list_any}
use Rattle.std.proofs.lemmas.Bool.{cases_eq}
use Rattle.std.proofs.lemmas.Bool.Decides.{nat_tests}
use Rattle.cnf_base.specs.Formula.{Formula}
use Rattle.schedule_plan.specs.Plan.{Term, input, both, some_value, term_has, clause_has, clause_of_number}
use Rattle.schedule_plan.specs.ScheduleState.{AreStarts, never}

-- of all stacked terms
pub any_stacked : (formula : Formula) (earliest : ℕ → ℕ) (stack : List Term) (starts : List ℕ) (end x : ℕ)
    → AreStarts formula earliest stack starts end → x ≤ formula.vars
    → nat_lt (earliest x) end ≡ list_any (term_has formula x) stack
any_stacked formula earliest [] [] end x are small = are x small
any_stacked formula earliest [] (start ∷ starts) end x are small = absurd are
any_stacked formula earliest (top ∷ rest) [] end x are small = absurd are
any_stacked formula earliest (top ∷ rest) (start ∷ starts) end x are small = are.1 x small

pub as_many : (formula : Formula) (earliest : ℕ → ℕ) (stack : List Term) (starts : List ℕ) (end : ℕ)
    → AreStarts formula earliest stack starts end → length stack ≡ length starts
as_many formula earliest [] [] end are = refl
as_many formula earliest [] (start ∷ starts) end are = absurd are
as_many formula earliest (top ∷ rest) [] end are = absurd are
as_many formula earliest (top ∷ rest) (start ∷ starts) end are = ap suc (as_many formula earliest rest starts start are.2)

-- nothing is told otherwise up to a bound
pub starts_kept : (formula : Formula) (earliest later : ℕ → ℕ) (bound : ℕ)
    → ((x s : ℕ) → x ≤ formula.vars → s ≤ bound → nat_lt (later x) s ≡ nat_lt (earliest x) s)
    → (stack : List Term) (starts : List ℕ) (end : ℕ) → end ≤ bound → AreStarts formula earliest stack starts end
    → AreStarts formula later stack starts end
starts_kept formula earliest later bound same [] [] end within are = λ x small. same x end small within ∙ are x small
starts_kept formula earliest later bound same [] (start ∷ starts) end within are = absurd are
starts_kept formula earliest later bound same (top ∷ rest) [] end within are = absurd are
starts_kept formula earliest later bound same (top ∷ rest) (start ∷ starts) end within are = (
  are.0,
  (λ x small. same x end small within ∙ are.1 x small),
  starts_kept formula earliest later bound same rest starts start (omega (arith, within, are.0)) are.2,
)

-- a clause is pushed
push_below : (has : Bool) (e end s : ℕ) → s ≤ end → nat_lt (if has then min e end else e) s ≡ nat_lt e s
push_below true e end s within = grind (arith, nat_tests)
push_below false e end s within = refl

push_top : (has : Bool) (e end : ℕ) → end < never → (end ≤ e → e ≡ never) → nat_lt (if has then min e end else e) (suc end)
    ≡ (has || nat_lt e end)
push_top true e end few fresh = grind (arith, nat_tests)
push_top false e end few fresh = grind (arith, nat_tests)

pub starts_push : (formula : Formula) (earliest later : ℕ → ℕ) (stack : List Term) (starts : List ℕ) (end i : ℕ) → end < never
    → ((x : ℕ) → x ≤ formula.vars → end ≤ earliest x → earliest x ≡ never)
    → ((x : ℕ) → x ≤ formula.vars → later x ≡ (if clause_has x (clause_of_number formula i) then min (earliest x) end else earliest x))
    → AreStarts formula earliest stack starts end → AreStarts formula later (input i ∷ stack) (end ∷ starts) (suc end)
starts_push formula earliest later stack starts end i few fresh is are = (
  omega arith,
  λ x small. ap (λ e. nat_lt e (suc end)) (is x small) ∙ push_top (clause_has x (clause_of_number formula i)) (earliest x) end few
      (fresh x small)
      ∙ ap (λ b. clause_has x (clause_of_number formula i) || b) (any_stacked formula earliest stack starts end x are small),
  starts_kept formula earliest later end (λ x s small within. ap (λ e. nat_lt e s) (is x small)
      ∙ push_below (clause_has x (clause_of_number formula i)) (earliest x) end s within)
      stack starts end (omega arith) are,
)

-- the two top terms are conjoined
swap_or : (a b c : Bool) → (a || (b || c)) ≡ ((b || a) || c)
swap_or true true c = refl
swap_or true false c = refl
swap_or false true c = refl
swap_or false false c = refl

pub starts_and : (formula : Formula) (earliest : ℕ → ℕ) (top below : Term) (rest : List Term) (start next : ℕ) (starts : List ℕ) (end : ℕ)
    → AreStarts formula earliest (top ∷ below ∷ rest) (start ∷ next ∷ starts) end
    → AreStarts formula earliest (both below top ∷ rest) (next ∷ starts) end
starts_and formula earliest top below rest start next starts end are = (
  omega (arith, are.0, are.2.0),
  λ x small. are.1 x small ∙ swap_or (term_has formula x top) (term_has formula x below) (list_any (term_has formula x) rest),
  are.2.2,
)

-- a variable is quantified from the top one
absurd_bool : {A : Type 0} → true ≡ false → A
absurd_bool e = cc

and_true : (a c : Bool) (b : Bool) → b ≡ false → (a || c) ≡ ((a && not b) || c)
and_true a c true is = absurd_bool is
and_true true c false is = refl
and_true false c false is = refl

and_false : (a c : Bool) (b : Bool) → b ≡ true → c ≡ ((a && not b) || c)
and_false true c true is = refl
and_false false c true is = refl
and_false a c false is = absurd_bool (sym is)

past : (e s : ℕ) → s ≤ e → nat_lt e s ≡ false
past e s within = grind (arith, nat_tests)

below_false : (e s start : ℕ) → s ≤ start → nat_lt e start ≡ false → nat_lt e s ≡ false
below_false e s start within free = grind (arith, nat_tests)

pub starts_exists : (formula : Formula) (earliest later : ℕ → ℕ) (x : ℕ) (top : Term) (rest : List Term) (start : ℕ) (starts : List ℕ)
    (end : ℕ) → end ≤ never → x ≤ formula.vars
    → nat_lt (earliest x) start ≡ false → later x ≡ never → ((y : ℕ) → (x ≡ y → ⊥) → later y ≡ earliest y)
    → AreStarts formula earliest (top ∷ rest) (start ∷ starts) end → AreStarts formula later (some_value x top ∷ rest) (start ∷ starts) end
starts_exists formula earliest later x top rest start starts end few within free gone stays are = (
  are.0,
  λ y small. elim (cases_eq x y) [
    | inl same ↦
        let none : nat_lt (later y) end ≡ false = ap (λ z. nat_lt (later z) end) (sym same) ∙ ap (λ e. nat_lt e end) gone
        ∙ past never end few in
        let rest_has : list_any (term_has formula y) rest ≡ false =
        ap (λ z. list_any (term_has formula z) rest) (sym same) ∙ sym (any_stacked formula earliest rest starts start x are.2 within)
        ∙ free in
        none ∙ sym rest_has ∙ and_false (term_has formula y top) (list_any (term_has formula y) rest) (y == x) (eq-eqb y x (sym same))
    | inr differ ↦ ap (λ e. nat_lt e end) (stays y differ) ∙ are.1 y small
        ∙ and_true (term_has formula y top) (list_any (term_has formula y) rest) (y == x) (ne_eqb y x (λ same. differ (sym same)))
  ],
  starts_kept formula earliest later start (λ y s small under. elim (cases_eq x y) [
    | inl same ↦
        ap (λ z. nat_lt (later z) s) (sym same) ∙ ap (λ e. nat_lt e s) gone ∙ past never s (omega (arith, under, are.0, few))
        ∙ sym (below_false (earliest x) s start under free) ∙ ap (λ z. nat_lt (earliest z) s) same
    | inr differ ↦ ap (λ e. nat_lt e s) (stays y differ)
  ]) rest starts start (omega arith) are.2,
)
