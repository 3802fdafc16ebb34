-- A good LRAT addition is a good DRAT addition over a list with the same clauses.
use Rattle.std.proofs.Common.{◌≡◌, ℕ, ◌<◌, Bool, true, false, not, ◌||◌, ℤ, neg_ℤ, List, [], ◌∷◌, ◌++◌, None, Some, if◌then◌else◌, int_eq}
use Rattle.std.proofs.Common.{nat_le}
use Rattle.std.proofs.Common.{Option, refl, sym, ap, ◌∙◌, subst}
use Rattle.std.specs.List.{list_any, list_all}
use Rattle.std.specs.FinMap as finmap
use Rattle.std.proofs.lemmas.Bool.{and_parts, and_from, not_from_false, false_from_ne_true}
use Rattle.std.proofs.lemmas.List.Folds.{list_all-append}
use Rattle.cnf_base.specs.declared.list.Group.{Group}
use Rattle.lrat_rules.specs.declared.outcome.Reason.{Reason}
use Rattle.lrat_rules.specs.declared.outcome.Reason.TheVariants.{IdNotGreater}
use Rattle.lrat_rules.specs.State.{State, Live, clause_at}
use Rattle.lrat_rules.specs.Chain.{FalseSet, literals_of, Outcome, Open, Closed, Bad, chain}
use Rattle.lrat_rules.specs.Addition.{holds_negated, resolvents_fault, fault_after_hints, fault}
use Rattle.drat_rules.specs.Quiet.{Includes, closed_under, IsQuiet, Falsifies, has_quiet}
use Rattle.drat_rules.specs.Addition.{others_of, passes_candidate, open_fault, drat_fault}
use Rattle.drat_rules.specs.Clauses.{same_list}
use Rattle.drat_rules.specs.FromLrat.{HaveSame}
use Rattle.drat_rules.proofs.Members.{at_member, literals_of-filter}
use Rattle.drat_rules.proofs.QuietSets.{HasQuietSet, some_quiet}
use Rattle.drat_rules.proofs.Counts.{all_clauses, same_list-true, counted, found, at_clause}
use Rattle.drat_rules.proofs.LiveClauses.{among_values, value_at}
use Rattle.drat_rules.proofs.Chains.{LiveClosed, EndsWithin, chain-within}
use Rattle.drat_rules.proofs.Candidates.{HasOthers, Settles-candidate, not_settled}

-- a live clause is in the list, and a clause of the list is live
pub live_in_list : (live : Live) (clauses : List (List ℤ)) → HaveSame live clauses → (id : ℕ) (clause : List ℤ)
    → clause_at live id ≡ Some clause → list_any (same_list clause) clauses ≡ true
live_in_list live clauses same id clause at =
    found (same_list clause) clauses
    (subst (λ (k : ℕ). 0 < k) (same.counts clause) (counted (same_list clause) (finmap.values live) (among_values live id clause at)))

pub list_is_live : (live : Live) (clauses : List (List ℤ)) → HaveSame live clauses → (clause : List ℤ)
    → list_any (same_list clause) clauses ≡ true → (id : ℕ) × (clause_at live id ≡ Some clause)
list_is_live live clauses same clause m =
    let among : list_any (same_list clause) (finmap.values live) ≡ true =
    found (same_list clause) (finmap.values live)
    (subst (λ (k : ℕ). 0 < k) (sym (same.counts clause)) (counted (same_list clause) clauses m)) in
    let at : (k : ℕ) × (c : List ℤ) × (clause_at live k ≡ Some c) × (same_list clause c ≡ true) = value_at (same_list clause) live among in
    (at.0, at.2 ∙ ap Some (sym (same_list-true clause at.1 at.3)))

live_closed : (live : Live) (clauses : List (List ℤ)) → HaveSame live clauses → (q : FalseSet) → IsQuiet clauses q → LiveClosed q live
live_closed live clauses same q quiet = record {
  closed = λ id clause at. at_clause (closed_under q) clauses clause quiet.closed (live_in_list live clauses same id clause at);
}

Includes-literals_of : (q : FalseSet) (clause : List ℤ) → Falsifies q clause → Includes q (literals_of clause)
Includes-literals_of q clause h = record { includes = λ x m. at_member q clause h x m }

HasOthers-falsifies : (q : FalseSet) (pivot : ℤ) (other : List ℤ) → Falsifies q (others_of pivot other) → HasOthers q pivot other
HasOthers-falsifies q pivot other h = record {
  others = λ x m apart. at_member q (others_of pivot other) h x
      (literals_of-filter (λ y. not (int_eq y (neg_ℤ pivot))) other x ∙ and_from _ _ apart m);
}

-- the hints leave these literals false, and each candidate is settled
module _ (live : Live) (clauses : List (List ℤ)) (same : HaveSame live clauses) (clause : List ℤ) (hints : List ℕ) (groups : List Group)
    (pivot : ℤ) (n : FalseSet) (opens : chain live (literals_of clause) hints ≡ Open n)
    (settled : resolvents_fault live n pivot groups ≡ None) where
  no_resolvent : (other : List ℤ) → list_any (same_list other) clauses ≡ true → holds_negated pivot other ≡ true
      → has_quiet clauses (clause ++ others_of pivot other) ≡ true → ⊥
  no_resolvent other m negated h =
      let some : HasQuietSet clauses (clause ++ others_of pivot other) = some_quiet clauses (clause ++ others_of pivot other) h in
      let parts : (list_all some.set clause ≡ true) × (list_all some.set (others_of pivot other) ≡ true) =
      and_parts _ _ (sym (list_all-append some.set clause (others_of pivot other)) ∙ some.falsifies) in
      let closed : LiveClosed some.set live = live_closed live clauses same some.set some.quiet in
      let within : Includes some.set n =
      subst (EndsWithin some.set) opens
      (chain-within some.set live closed (literals_of clause) hints (Includes-literals_of some.set clause parts.0)) in
      let at : (id : ℕ) × (clause_at live id ≡ Some other) = list_is_live live clauses same other m in
      not_settled clauses live some.set n pivot other some.quiet closed within (HasOthers-falsifies some.set pivot other parts.1)
      (Settles-candidate live n pivot groups settled at.0 other at.1 negated)

  passes : (other : List ℤ) → list_any (same_list other) clauses ≡ true → passes_candidate clauses pivot clause other ≡ true
  passes other m =
      elim (holds_negated pivot other)
      as (λ b. holds_negated pivot other ≡ b → (not b || not (has_quiet clauses (clause ++ others_of pivot other))) ≡ true) [
        | true ↦ λ e. not_from_false _ (false_from_ne_true _ (λ h. no_resolvent other m e h))
        | false ↦ λ e. refl
      ] refl

  pub all_pass : list_all (passes_candidate clauses pivot clause) clauses ≡ true
  all_pass = all_clauses (passes_candidate clauses pivot clause) clauses passes

-- by the outcome of the hints, where a quiet set has the clause's literals
by_outcome : (live : Live) (clauses : List (List ℤ)) → HaveSame live clauses → (clause : List ℤ) (hints : List ℕ) (groups : List Group)
    (q : FalseSet) (o : Outcome) → EndsWithin q o → chain live (literals_of clause) hints ≡ o
    → fault_after_hints live clause groups o ≡ None
    → open_fault clauses clause ≡ None
by_outcome live clauses same clause hints groups q (Bad reason) w is h = cc
by_outcome live clauses same clause hints groups q Closed w is h = absurd w
by_outcome live clauses same [] hints groups q (Open n) w is h = cc
by_outcome live clauses same (pivot ∷ others) hints groups q (Open n) w is h =
    rw (all_pass live clauses same (pivot ∷ others) hints groups pivot n is h) refl

number_parts : (b : Bool) (later : Option Reason) → (if b then Some IdNotGreater else later) ≡ None → (b ≡ false) × (later ≡ None)
number_parts true later h = cc
number_parts false later h = (refl, h)

pub above_top : (state : State) (id : ℕ) (clause : List ℤ) (hints : List ℕ) (groups : List Group)
    → fault state id clause hints groups ≡ None → nat_le id state.top ≡ false
above_top state id clause hints groups h = (number_parts (nat_le id state.top) _ h).0

pub drat_fault-none : (state : State) (clauses : List (List ℤ)) → HaveSame state.live clauses
    → (id : ℕ) (clause : List ℤ) (hints : List ℕ) (groups : List Group) → fault state id clause hints groups ≡ None
    → drat_fault clauses clause ≡ None
drat_fault-none state clauses same id clause hints groups h =
    elim (has_quiet clauses clause)
    as (λ b. has_quiet clauses clause ≡ b → (if b then open_fault clauses clause else None) ≡ None) [
      | true ↦ λ e.
          let some : HasQuietSet clauses clause = some_quiet clauses clause e in
          let ends : EndsWithin some.set (chain state.live (literals_of clause) hints) =
          chain-within some.set state.live (live_closed state.live clauses same some.set some.quiet) (literals_of clause) hints
          (Includes-literals_of some.set clause some.falsifies) in
          by_outcome state.live clauses same clause hints groups some.set (chain state.live (literals_of clause) hints) ends refl
          (number_parts (nat_le id state.top) _ h).1
      | false ↦ λ e. refl
    ] refl
