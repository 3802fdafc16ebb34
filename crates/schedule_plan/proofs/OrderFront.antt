-- The numbers of an order as they are read, with their flags.
use Rattle.std.proofs.Common.{◌≡◌, ℕ, ◌<◌, ◌≤◌, Bool, true, false, List, [], ◌∷◌, ◌++◌, None, Some, length, refl, sym, ap, ◌∙◌}
use Rattle.std.specs.Prelude.{nat_eq as eqb, ◌||◌, slice_index_or, slice_set}
use Rattle.std.proofs.Math.ListN.{get_or-eq_default}
use Rattle.std.proofs.lemmas.Bool.{eqb-true}
use Rattle.std.proofs.lemmas.List.{get_or-set_same, get_or-set_other}
use Rattle.cnf_base.specs.Order.{IsOrder}
use Rattle.schedule_plan.specs.OrderReader.{IsFront}
use Rattle.schedule_plan.specs.OrderText.{stands_in, offence_of}
use Rattle.schedule_plan.proofs.OrderVariables.{equal, or_true, or_false, stands_last, are_order, no_variables, one_more_variable}

-- before the first number
pub no_numbers : (vars : ℕ) → IsFront vars [] []
no_numbers vars = record { variables = no_variables vars; flags = λ number. refl }

-- the flags may reach further
pub further : {vars : ℕ} {numbers : List ℕ} {seen : List Bool} (longer : List Bool)
    → ((i : ℕ) → slice_index_or longer i false ≡ slice_index_or seen i false)
    → IsFront vars numbers seen → IsFront vars numbers longer
further longer same front = record { variables = front.variables; flags = λ number. same number ∙ front.flags number }

-- one more number
pub one_more : {vars n : ℕ} {numbers : List ℕ} {seen : List Bool} → offence_of (Some n) vars numbers ≡ None → n < length seen
    → IsFront vars numbers seen → IsFront vars (numbers ++ n ∷ []) (slice_set seen n true)
one_more {vars} {n} {numbers} {seen} good inside front = record {
  variables = one_more_variable vars n numbers good front.variables;
  flags = λ number. elim (eqb number n) as (λ b. eqb number n ≡ b → slice_index_or (slice_set seen n true) number false
      ≡ stands_in number (numbers ++ n ∷ [])) [
        | true ↦ λ e.
            let same = eqb-true number n e in
            ap (λ i. slice_index_or (slice_set seen n true) i false) same ∙ get_or-set_same seen n true false inside
            ∙ sym (stands_last number n numbers ∙ ap (λ b. stands_in number numbers || b) e ∙ or_true (stands_in number numbers))
        | false ↦ λ e.
            get_or-set_other seen n number true false (λ same. let no = sym e ∙ ap (eqb number) (sym same) ∙ equal number in cc)
            ∙ front.flags number
            ∙ sym (stands_last number n numbers ∙ ap (λ b. stands_in number numbers || b) e ∙ or_false (stands_in number numbers))
      ] refl;
}

-- a number behind the flags stands nowhere
pub behind_flags : {vars : ℕ} {numbers : List ℕ} {seen : List Bool} (n : ℕ) → IsFront vars numbers seen → length seen ≤ n
    → stands_in n numbers ≡ false
behind_flags {seen = seen} n front far = sym (front.flags n) ∙ get_or-eq_default seen false far

-- As many numbers as there are variables are an order.
pub front_is_order : {vars : ℕ} {numbers : List ℕ} {seen : List Bool} → IsFront vars numbers seen → vars ≤ length numbers → IsOrder numbers
    × (length numbers ≡ vars)
front_is_order {vars} {numbers} front many = are_order vars numbers front.variables many
