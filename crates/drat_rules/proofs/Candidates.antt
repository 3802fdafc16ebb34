-- A candidate of a good LRAT addition: no quiet set that has all literals which are false behind the addition's hints has the
-- candidate's other literals too.
use Rattle.std.proofs.Common.{◌≡◌, ◌==◌, ◌⊎◌, ℕ, Bool, true, false, not, ◌&&◌, ◌||◌, ℤ, neg_ℤ, List, [], ◌∷◌, Option, None, Some, is_some}
use Rattle.std.proofs.Common.{if◌then◌else◌, int_eq, nat_cmp, refl, sym, ap, ◌∙◌, subst, inl, inr, eqb-true}
use Rattle.std.specs.List.{list_any, list_all}
use Rattle.std.specs.Ordering.{eq_by_cmp}
use Rattle.std.specs.Cmp.{unsigned_tied}
use Rattle.std.specs.FinMap as finmap
use Rattle.std.proofs.lemmas.Bool.{and_parts, or_cases, or_right, both_ways}
use Rattle.cnf_base.specs.declared.list.Group.{Group}
use Rattle.lrat_rules.specs.declared.outcome.Reason.{Reason}
use Rattle.lrat_rules.specs.declared.outcome.Reason.TheVariants.{CandidateOpen}
use Rattle.lrat_rules.specs.State.{Live, clause_at}
use Rattle.lrat_rules.specs.Chain.{FalseSet, literals_of, Outcome, Open, Closed, Bad, chain}
use Rattle.lrat_rules.specs.Addition.{holds_negated, is_blocked_by, with_candidate, if_live, is_candidate, is_blocked, outcome_fault}
use Rattle.lrat_rules.specs.Addition.{candidate_fault, group_fault_at, group_fault, first_of_faults, groups_fault, is_settled}
use Rattle.lrat_rules.specs.Addition.{resolvents_fault}
use Rattle.drat_rules.specs.Quiet.{IsQuiet, Includes}
use Rattle.drat_rules.proofs.Members.{in_front}
use Rattle.drat_rules.proofs.Chains.{LiveClosed, EndsWithin, chain-within}

first_of_faults-none : (f g : Option Reason) → first_of_faults f g ≡ None → (f ≡ None) × (g ≡ None)
first_of_faults-none (Some reason) g h = cc
first_of_faults-none None g h = (refl, h)

outcome_fault-none : (o : Outcome) → outcome_fault o ≡ None → o ≡ Closed
outcome_fault-none (Bad reason) h = cc
outcome_fault-none (Open n) h = cc
outcome_fault-none Closed h = refl

if_none : (b : Bool) → (if b then None else Some CandidateOpen) ≡ None → b ≡ true
if_none true h = refl
if_none false h = cc

-- a number that is in a list passes what each of the list passes
at_key : (p : ℕ → Bool) (ids : List ℕ) (id : ℕ) → list_all p ids ≡ true → list_any (eq_by_cmp nat_cmp id) ids ≡ true → p id ≡ true
at_key p [] id all any = cc
at_key p (x ∷ xs) id all any =
    elim (or_cases (eq_by_cmp nat_cmp id x) _ any) [
      | inl here ↦ subst (λ k. p k ≡ true) (sym (eqb-true id x (sym (unsigned_tied id x) ∙ here))) (and_parts (p x) _ all).0
      | inr later ↦ at_key p xs id (and_parts (p x) _ all).1 later
    ]

-- how a candidate is settled: it is blocked, or some hints refute it
pub data Settles (live : Live) (n : FalseSet) (pivot : ℤ) (clause : List ℤ) : Type 0 where
  blocked : is_blocked_by n pivot clause ≡ true → Settles live n pivot clause
  refuted : (hints : List ℕ) → chain live (with_candidate n pivot clause) hints ≡ Closed → Settles live n pivot clause

by_group : (live : Live) (n : FalseSet) (pivot : ℤ) (clause : List ℤ) (hints : List ℕ) → holds_negated pivot clause ≡ true
    → group_fault_at live n pivot hints (Some clause) ≡ None → Settles live n pivot clause
by_group live n pivot clause hints negated h =
    let passes : candidate_fault live n pivot clause hints ≡ None = rw negated at h in
    elim (is_blocked_by n pivot clause)
    as (λ b. is_blocked_by n pivot clause ≡ b
    → (if b then None else outcome_fault (chain live (with_candidate n pivot clause) hints)) ≡ None → Settles live n pivot clause) [
      | true ↦ λ e p. blocked e
      | false ↦ λ e p. refuted hints (outcome_fault-none _ p)
    ] refl passes

group_named : (live : Live) (n : FalseSet) (pivot : ℤ) (groups : List Group) (id : ℕ) → groups_fault live n pivot groups ≡ None
    → list_any (λ group. group.id == id) groups ≡ true → (hints : List ℕ) × (group_fault_at live n pivot hints (clause_at live id) ≡ None)
group_named live n pivot [] id h m = cc
group_named live n pivot (group ∷ groups) id h m =
    let both : (group_fault live n pivot group ≡ None) × (groups_fault live n pivot groups ≡ None) = first_of_faults-none _ _ h in
    elim (or_cases (group.id == id) _ m) [
      | inl here ↦ (
        group.hints,
        subst (λ k. group_fault_at live n pivot group.hints (clause_at live k) ≡ None) (eqb-true group.id id here) both.0,
      )
      | inr later ↦ group_named live n pivot groups id both.1 later
    ]

settled_cases : (c b g : Bool) → c ≡ true → (not c || b || g) ≡ true → (b ≡ true) ⊎ (g ≡ true)
settled_cases true true g e h = inl refl
settled_cases true false g e h = inr h
settled_cases false b g e h = cc

-- each live candidate is settled
pub Settles-candidate : (live : Live) (n : FalseSet) (pivot : ℤ) (groups : List Group) → resolvents_fault live n pivot groups ≡ None
    → (id : ℕ) (clause : List ℤ) → clause_at live id ≡ Some clause → holds_negated pivot clause ≡ true → Settles live n pivot clause
Settles-candidate live n pivot groups h id clause at negated =
    let both : (groups_fault live n pivot groups ≡ None)
    × ((if list_all (is_settled live n pivot groups) (finmap.keys live) then None else Some CandidateOpen) ≡ None) =
    first_of_faults-none _ _ h in
    let is_key : list_any (eq_by_cmp nat_cmp id) (finmap.keys live) ≡ true = sym (finmap.contains_key-keys live id) ∙ ap is_some at in
    let settled : is_settled live n pivot groups id ≡ true = at_key (is_settled live n pivot groups) (finmap.keys live) id
    (if_none _ both.1) is_key in
    let candidate : is_candidate live pivot id ≡ true = ap (if_live (holds_negated pivot)) at ∙ negated in
    let blocked_is : is_blocked live n pivot id ≡ is_blocked_by n pivot clause = ap (if_live (is_blocked_by n pivot)) at in
    elim (settled_cases (is_candidate live pivot id) (is_blocked live n pivot id) _ candidate settled) [
      | inl is ↦ blocked (sym blocked_is ∙ is)
      | inr named ↦
          let group : (hints : List ℕ) × (group_fault_at live n pivot hints (clause_at live id) ≡ None) =
          group_named live n pivot groups id both.0 named in
          by_group live n pivot clause group.0 negated (subst (λ o. group_fault_at live n pivot group.0 o ≡ None) at group.1)
    ]

-- the set has each literal of the clause but the pivot's negation
pub record HasOthers (q : FalseSet) (pivot : ℤ) (clause : List ℤ) : Type 0 where
  pub others : (x : ℤ) → literals_of clause x ≡ true → not (int_eq x (neg_ℤ pivot)) ≡ true → q x ≡ true

-- a blocked candidate has a literal in the set whose negation is there too
not_blocked : (clauses : List (List ℤ)) (q n : FalseSet) (pivot : ℤ) (clause : List ℤ) → IsQuiet clauses q → Includes q n
    → HasOthers q pivot clause
    → is_blocked_by n pivot clause ≡ true → ⊥
not_blocked clauses q n pivot [] quiet w o h = cc
not_blocked clauses q n pivot (x ∷ xs) quiet w o h =
    elim (or_cases (not (int_eq x (neg_ℤ pivot)) && n (neg_ℤ x)) _ h) [
      | inl here ↦
          let both : (not (int_eq x (neg_ℤ pivot)) ≡ true) × (n (neg_ℤ x) ≡ true) = and_parts (not (int_eq x (neg_ℤ pivot))) _ here in
          both_ways (q (neg_ℤ x)) (quiet.apart x (o.others x (in_front x xs) both.0)) (w.includes (neg_ℤ x) both.1)
      | inr later ↦ not_blocked clauses q n pivot xs quiet w
          record { others = λ y m other. o.others y (or_right (int_eq y x) _ m) other } later
    ]

Includes-with_candidate : (q n : FalseSet) (pivot : ℤ) (clause : List ℤ) → Includes q n → HasOthers q pivot clause
    → Includes q (with_candidate n pivot clause)
Includes-with_candidate q n pivot clause w o = record {
  includes = λ x m. elim (or_cases (not (int_eq x (neg_ℤ pivot)) && list_any (int_eq x) clause) (n x) m) [
    | inl candidate ↦
        let both : (not (int_eq x (neg_ℤ pivot)) ≡ true) × (list_any (int_eq x) clause ≡ true) =
        and_parts (not (int_eq x (neg_ℤ pivot))) _ candidate in
        o.others x both.1 both.0
    | inr before ↦ w.includes x before
  ];
}

pub not_settled : (clauses : List (List ℤ)) (live : Live) (q n : FalseSet) (pivot : ℤ) (clause : List ℤ) → IsQuiet clauses q
    → LiveClosed q live → Includes q n → HasOthers q pivot clause → Settles live n pivot clause → ⊥
not_settled clauses live q n pivot clause quiet c w o (blocked h) = not_blocked clauses q n pivot clause quiet w o h
not_settled clauses live q n pivot clause quiet c w o (refuted hints h) =
    subst (EndsWithin q) h
    (chain-within q live c (with_candidate n pivot clause) hints (Includes-with_candidate q n pivot clause w o))
