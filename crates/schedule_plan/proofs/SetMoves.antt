-- A set of variables is quantified in one move exactly where each of them may be.
use Rattle.std.proofs.Common.{◌≡◌, ◌∙◌, ◌<◌, ◌&&◌, ◌||◌, ℕ, Bool, true, false, List, [], ◌∷◌, Option, None, Some, length, refl, sym, ap, arith}
use Rattle.std.specs.Prelude.{if◌then◌else◌, nat_le, nat_lt, not}
use Rattle.std.specs.List.{list_all, list_any}
use Rattle.std.specs.Option.{option_and_then}
use Rattle.std.proofs.lemmas.Bool.{and_from}
use Rattle.cnf_base.specs.Formula.{Formula}
use Rattle.schedule_plan.specs.declared.schedule.error.PlanKind.{PlanKind}
use Rattle.schedule_plan.specs.declared.schedule.error.PlanKind.TheVariants.{VariableInUse, VariableRange}
use Rattle.schedule_plan.specs.Plan.{Term, after_all, holds_later, some_value, term_has}
use Rattle.schedule_plan.specs.ScheduleText.{fault_of_all, is_in_use, is_out_of_range}
use Rattle.schedule_plan.specs.SetMove.{quantified_by, staged, trail_by}

pub both_false : (x y : Bool) → (x || y) ≡ false → (x ≡ false) × (y ≡ false)
both_false true y is = cc
both_false false y is = (refl, is)

pub from_not : (b : Bool) → not b ≡ false → b ≡ true
from_not true is = refl
from_not false is = cc

module _ (formula : Formula) (rest : List Term) (pushed : List ℕ) where
  -- the variable may be quantified
  abbrev pub is_free : ℕ → Bool
  is_free x = nat_lt 0 x && nat_le x formula.vars && not (list_any (term_has formula x) rest)
      && not (holds_later formula pushed x (length formula.clauses))

  pub all_after : (xs : List ℕ) (top : Term) (trail : List (ℕ × Term)) → after_all formula (staged (top ∷ rest) pushed trail) xs
      ≡ (if list_all is_free xs then Some (staged (quantified_by xs top ∷ rest) pushed (trail_by xs top trail)) else None)
  all_after [] top trail = refl
  all_after (x ∷ xs) top trail =
      elim (is_free x) as (λ b. option_and_then (λ later. after_all formula later xs)
      (if b then Some (staged (some_value x top ∷ rest) pushed ((x, top) ∷ trail)) else None)
      ≡ (if b && list_all is_free xs then Some (staged (quantified_by xs (some_value x top) ∷ rest) pushed
      (trail_by xs (some_value x top) ((x, top) ∷ trail))) else None)) [
        | true ↦ all_after xs (some_value x top) ((x, top) ∷ trail)
        | false ↦ refl
      ]

  free_of : (x : ℕ) → is_out_of_range formula x ≡ false → is_in_use formula rest pushed x ≡ false → is_free x ≡ true
  free_of x within unused =
      let none = both_false (list_any (term_has formula x) rest) (holds_later formula pushed x (length formula.clauses)) unused in
      and_from (nat_lt 0 x && nat_le x formula.vars && not (list_any (term_has formula x) rest))
      (not (holds_later formula pushed x (length formula.clauses)))
      (and_from (nat_lt 0 x && nat_le x formula.vars) (not (list_any (term_has formula x) rest))
      (from_not (nat_lt 0 x && nat_le x formula.vars) within) (ap not none.0)) (ap not none.1)

  all_free : (xs : List ℕ) → list_any (is_out_of_range formula) xs ≡ false → list_any (is_in_use formula rest pushed) xs ≡ false
      → list_all is_free xs ≡ true
  all_free [] within unused = refl
  all_free (x ∷ xs) within unused =
      let range = both_false (is_out_of_range formula x) (list_any (is_out_of_range formula) xs) within in
      let use_of = both_false (is_in_use formula rest pushed x) (list_any (is_in_use formula rest pushed) xs) unused in
      and_from (is_free x) (list_all is_free xs) (free_of x range.0 use_of.0) (all_free xs range.1 use_of.1)

  out_not_free : (x : ℕ) → is_out_of_range formula x ≡ true → is_free x ≡ false
  out_not_free x out = no_and (nat_lt 0 x && nat_le x formula.vars) (not (list_any (term_has formula x) rest))
      (not (holds_later formula pushed x (length formula.clauses))) out
    where
      no_and : (a c d : Bool) → not a ≡ true → (a && c && d) ≡ false
      no_and true c d is = cc
      no_and false c d is = refl

  used_not_free : (x : ℕ) → is_in_use formula rest pushed x ≡ true → is_free x ≡ false
  used_not_free x used = no_or (nat_lt 0 x && nat_le x formula.vars) (list_any (term_has formula x) rest)
      (holds_later formula pushed x (length formula.clauses)) used
    where
      no_or : (a c d : Bool) → (c || d) ≡ true → (a && not c && not d) ≡ false
      no_or false c d is = refl
      no_or true true d is = refl
      no_or true false true is = refl
      no_or true false false is = cc

  not_all : (p : ℕ → Bool) → ((x : ℕ) → p x ≡ true → is_free x ≡ false) → (xs : List ℕ) → list_any p xs ≡ true
      → list_all is_free xs ≡ false
  not_all p none [] any = cc
  not_all p none (x ∷ xs) any =
      elim (p x) as (λ b. p x ≡ b → (b || list_any p xs) ≡ true → (is_free x && list_all is_free xs) ≡ false) [
        | true ↦ λ is more. ap (λ (b : Bool). b && list_all is_free xs) (none x is)
        | false ↦ λ is more. last (is_free x) (list_all is_free xs) (not_all p none xs more)
      ] refl any
    where
      last : (a b : Bool) → b ≡ false → (a && b) ≡ false
      last true b is = is
      last false b is = refl

no_kind : {T : Type 0} (kind : PlanKind) → ◌≡◌ {A = Option PlanKind} (Some kind) None → T
no_kind kind is = cc

pub possible_set : (formula : Formula) (top : Term) (rest : List Term) (pushed : List ℕ) (trail : List (ℕ × Term)) (xs : List ℕ)
    → fault_of_all formula (staged (top ∷ rest) pushed trail) xs (top ∷ rest) ≡ None
    → after_all formula (staged (top ∷ rest) pushed trail) xs ≡ Some (staged (quantified_by xs top ∷ rest) pushed (trail_by xs top trail))
possible_set formula top rest pushed trail xs none =
    all_after formula rest pushed xs top trail
    ∙ ap (λ (b : Bool). if b then Some (staged (quantified_by xs top ∷ rest) pushed (trail_by xs top trail)) else None) free
  where
    free : list_all (is_free formula rest pushed) xs ≡ true
    free = elim (list_any (is_out_of_range formula) xs) as (λ b. list_any (is_out_of_range formula) xs ≡ b
        → (if b then Some VariableRange else if list_any (is_in_use formula rest pushed) xs then Some VariableInUse else None) ≡ None
        → list_all (is_free formula rest pushed) xs ≡ true) [
          | true ↦ λ is fault. no_kind VariableRange fault
          | false ↦ λ is fault. elim (list_any (is_in_use formula rest pushed) xs) as (λ c. list_any (is_in_use formula rest pushed) xs ≡ c
              → (if c then Some VariableInUse else None) ≡ None → list_all (is_free formula rest pushed) xs ≡ true) [
                | true ↦ λ used fault_too. no_kind VariableInUse fault_too
                | false ↦ λ used fault_too. all_free formula rest pushed xs is used
              ] refl fault
        ] refl none

pub refused_behind : (formula : Formula) (stack : List Term) (pushed : List ℕ) (trail : List (ℕ × Term)) (xs : List ℕ) (kind : PlanKind)
    → 0 < length xs → fault_of_all formula (staged stack pushed trail) xs stack ≡ Some kind
    → after_all formula (staged stack pushed trail) xs ≡ None
refused_behind formula [] pushed trail [] kind some fault = absurd (omega (arith, some))
refused_behind formula [] pushed trail (x ∷ xs) kind some fault = refl
refused_behind formula (top ∷ rest) pushed trail xs kind some fault =
    all_after formula rest pushed xs top trail
    ∙ ap (λ (b : Bool). if b then Some (staged (quantified_by xs top ∷ rest) pushed (trail_by xs top trail)) else None) bound
  where
    bound : list_all (is_free formula rest pushed) xs ≡ false
    bound = elim (list_any (is_out_of_range formula) xs) as (λ b. list_any (is_out_of_range formula) xs ≡ b
        → (if b then Some VariableRange else if list_any (is_in_use formula rest pushed) xs then Some VariableInUse else None) ≡ Some kind
        → list_all (is_free formula rest pushed) xs ≡ false) [
          | true ↦ λ is given. not_all formula rest pushed (is_out_of_range formula) (out_not_free formula rest pushed) xs is
          | false ↦ λ is given. elim (list_any (is_in_use formula rest pushed) xs) as (λ c. list_any (is_in_use formula rest pushed) xs ≡ c
              → (if c then Some VariableInUse else None) ≡ Some kind → list_all (is_free formula rest pushed) xs ≡ false) [
                | true ↦ λ used given_too. not_all formula rest pushed (is_in_use formula rest pushed)
                    (used_not_free formula rest pushed) xs used
                | false ↦ λ used given_too. no_kind kind (sym given_too)
              ] refl given
        ] refl fault
