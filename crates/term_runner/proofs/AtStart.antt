-- The start of a run, and a formula with an empty clause.
use Rattle.std.proofs.Common.{◌≡◌, ℕ, zero, suc, ◌+◌, ◌^◌, ◌<◌, ◌≤◌, Bool, true, false, List, ℤ, [], ◌∷◌, length, Option, None, Some}
use Rattle.std.proofs.Common.{Contains, is_some, refl, sym, ap, ◌∙◌, subst, arith, inl, inr}
use Rattle.std.specs.Prelude.{◌&&◌}
use Rattle.std.specs.List.{list_all}
use Rattle.std.proofs.Math.Nat.{one-le-mul, two-pow-succ}
use Rattle.cnf_base.specs.Truth.{AreClausesOf}
use Rattle.cnf_base.specs.Formula.{Formula}
use Rattle.lrat_rules.specs.State.{Live, clause_at, start}
use Rattle.lrat_rules.specs.Marks.{in_use}
use Rattle.node_table.specs.Lean.{live_above}
use Rattle.schedule_plan.specs.declared.plan.Move.{Move}
use Rattle.schedule_plan.specs.declared.limits.Limits.{Limits}
use Rattle.schedule_plan.specs.Plan.{IsAdmissible, Stage, is_pushed, no_stage}
use Rattle.term_runner.specs.Clauses.{is_tautology, has_empty_clause}
use Rattle.bdd_terms.specs.Price.{IsMovePrice}
use Rattle.term_runner.specs.Price.{IsPaidFor}
use Rattle.term_runner.specs.Proofs.{KeepsWithin}

-- an empty clause is no tautology
pub empty_is_open : (clauses : List (List ℤ)) → has_empty_clause clauses ≡ true → list_all is_tautology clauses ≡ false
empty_is_open [] has = absurd (let e : false ≡ true = has in cc)
empty_is_open ([] ∷ more) has = refl
empty_is_open ((x ∷ rest) ∷ more) has = (λ k. is_tautology (x ∷ rest) && empty_is_open more has k) ∙ and_false (is_tautology (x ∷ rest))
  where
    and_false : (b : Bool) → (b && false) ≡ false
    and_false true = refl
    and_false false = refl

abbrev pub Unused : Type 0
Unused = (vars : ℕ) (clauses : List (List ℤ)) → AreClausesOf vars clauses → in_use vars (start clauses) ≡ 0

-- the limits are kept at the start
pub start_within : Unused → (formula : Formula) (limits : Limits) → AreClausesOf formula.vars formula.clauses
    → KeepsWithin formula limits (start formula.clauses)
start_within unused formula limits literals = record {
  numbers = omega arith;
  nodes = omega (arith, unused formula.vars formula.clauses literals);
}

abbrev pub NoneAbove : Type 0
NoneAbove = (clauses : List (List ℤ)) (id : ℕ) → length clauses < id → clause_at (start clauses).live id ≡ None

abbrev pub FewLive : Type 0
FewLive = (inputs : ℕ) (live : Live) (ids : List ℕ) → ((id : ℕ) → inputs < id → is_some (clause_at live id) ≡ true → Contains ids id)
    → live_above inputs live ≤ length ids

none_live : {o : Option (List ℤ)} → o ≡ None → is_some o ≡ true → ⊥
none_live none is = let e : false ≡ true = sym (ap is_some none) ∙ is in cc

-- at the start all is within any price
pub start_paid : Unused → NoneAbove → FewLive → (formula : Formula) (limits : Limits) (moves : List Move) (width price : ℕ)
    → AreClausesOf formula.vars formula.clauses → IsPaidFor formula limits moves width price (start formula.clauses)
start_paid unused none_above few formula limits moves width price literals = record {
  within = record { numbers = omega arith; nodes = omega (arith, unused formula.vars formula.clauses literals) };
  lean = let none = few (length formula.clauses) (start formula.clauses).live []
      (λ id above is. absurd (none_live (none_above formula.clauses id above) is)) in omega (arith, none);
}

one_power : (n : ℕ) → 0 < 2 ^ n
one_power zero = omega arith
one_power (suc n) = omega (arith, one_power n, two-pow-succ n)

-- a move's price isn't nothing
pub some_price : (vars size width price : ℕ) → IsMovePrice vars size width price → 0 < price
some_price vars size width price is = elim is [
  | inl by_variables ↦ omega (arith, by_variables, one_power vars)
  | inr by_width ↦
      let one : 0 < width + 1 = omega arith in
      let square = one-le-mul one one in
      omega (arith, by_width.1, square)
]

-- a plan of a formula with clauses has some moves
pub some_moves : (formula : Formula) (moves : List Move) → IsAdmissible formula moves → has_empty_clause formula.clauses ≡ true → 0
    < length moves
some_moves formula [] plan has = absurd (none_pushed formula.clauses has plan.all_pushed)
  where
    none_there : plan.last.pushed ≡ []
    none_there = let same : Some no_stage ≡ Some plan.last = plan.possible in let is : no_stage ≡ plan.last = cc in
        sym (ap (λ (s : Stage). s.pushed) is)

    none_pushed : (clauses : List (List ℤ)) → has_empty_clause clauses ≡ true
        → ((i : ℕ) → 0 < i → i ≤ length clauses → is_pushed plan.last.pushed i ≡ true) → ⊥
    none_pushed [] is all = let e : false ≡ true = is in cc
    none_pushed (clause ∷ more) is all =
        let e : false ≡ true = subst (λ (pushed : List ℕ). is_pushed pushed 1 ≡ true) none_there (all 1 (omega arith) (omega arith)) in
        cc
some_moves formula (move ∷ moves) plan has = omega arith
