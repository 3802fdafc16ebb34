-- Resolvent steps are sound: where the added clause doesn't hold, making its pivot true keeps each live clause.
use Rattle.std.proofs.Common.{◌≡◌, ◌==◌, ◌⊎◌, ℕ, suc, Bool, true, false, cond, not, ◌&&◌, ◌||◌, ℤ, pos, negsuc, neg_ℤ, List, [], ◌∷◌}
use Rattle.std.proofs.Common.{Option, None, Some, is_some, if◌then◌else◌, int_eq, nat_cmp, refl, sym, ap, ◌∙◌, subst, inl, inr, eqb-true}
use Rattle.std.proofs.Common.{eq-eqb}
use Rattle.std.specs.List.{list_any, list_all}
use Rattle.std.specs.Ordering.{eq_by_cmp}
use Rattle.std.specs.FinMap as finmap
use Rattle.std.proofs.lemmas.Bool.{and_parts, and_from, or_cases, or_parts, or_left, or_right, not-true, both_ways}
use Rattle.cnf_base.specs.declared.list.Group.{Group}
use Rattle.cnf_base.specs.Truth.{Assignment, literal_holds, clause_holds}
use Rattle.lrat_rules.specs.declared.outcome.Reason.{Reason}
use Rattle.lrat_rules.specs.declared.outcome.Reason.TheVariants.{CandidateOpen}
use Rattle.lrat_rules.specs.State.{Live, clause_at, SatisfiesLive}
use Rattle.lrat_rules.specs.Chain.{FalseSet, Outcome, Open, Closed, Bad, chain}
use Rattle.lrat_rules.specs.Addition.{holds_negated, is_blocked_by, with_candidate, if_live, is_candidate, is_blocked, outcome_fault}
use Rattle.lrat_rules.specs.Addition.{candidate_fault, group_fault_at, group_fault, first_of_faults, groups_fault, is_settled}
use Rattle.lrat_rules.specs.Addition.{resolvents_fault}
use Rattle.lrat_rules.specs.Soundness.{make_true, is_nonzero, has_no_zero, LiveHasNoZero}
use Rattle.lrat_rules.proofs.Tests.{int_eq-true, eq-int_eq, int_eq_symmetric, or_weaken, not_not, list_all_key}
use Rattle.lrat_rules.proofs.Chains.{Falsifies, literal_holds-neg_ℤ, IsSound, chain-sound}

-- some literal of the clause, other than the pivot's negation, holds
abbrev pub holds_otherwise : Assignment → ℤ → List ℤ → Bool
holds_otherwise a pivot clause = list_any (λ x. not (int_eq x (neg_ℤ pivot)) && literal_holds a x) clause

pub literal_holds-make_true : (pivot : ℤ) (a : Assignment) → literal_holds (make_true pivot a) pivot ≡ true
literal_holds-make_true (pos n) a = rw (eq-eqb n n refl)
literal_holds-make_true (negsuc n) a = rw (eq-eqb (suc n) (suc n) refl)

-- each literal but the pivot's negation that held holds still
literal_kept : (pivot : ℤ) (a : Assignment) (x : ℤ) → int_eq x (neg_ℤ pivot) ≡ false → literal_holds a x ≡ true
    → literal_holds (make_true pivot a) x ≡ true
literal_kept (pos n) a (pos m) e h = elim (m == n) as (λ b. cond b true (a m) ≡ true) [ true ↦ refl | false ↦ h ]
literal_kept (pos n) a (negsuc m) e h =
    elim (suc m == n) as (λ b. (suc m == n) ≡ b → not (cond b true (a (suc m))) ≡ true) [
      | true ↦ λ same. absurd (both_ways (int_eq (negsuc m) (neg_ℤ (pos n))) e
          (eq-int_eq (negsuc m) (neg_ℤ (pos n)) (ap (λ k. neg_ℤ (pos k)) (eqb-true (suc m) n same))))
      | false ↦ λ other. h
    ] refl
literal_kept (negsuc n) a (pos m) e h =
    elim (m == suc n) as (λ b. (m == suc n) ≡ b → cond b false (a m) ≡ true) [
      | true ↦ λ same. absurd (both_ways (int_eq (pos m) (pos (suc n))) e
          (eq-int_eq (pos m) (pos (suc n)) (ap pos (eqb-true m (suc n) same))))
      | false ↦ λ other. h
    ] refl
literal_kept (negsuc n) a (negsuc m) e h = elim (suc m == suc n) as (λ b. not (cond b false (a (suc m))) ≡ true) [ true ↦ refl | false ↦ h ]

clause_kept : (pivot : ℤ) (a : Assignment) (clause : List ℤ) → holds_otherwise a pivot clause ≡ true
    → clause_holds (make_true pivot a) clause ≡ true
clause_kept pivot a [] h = h
clause_kept pivot a (x ∷ xs) h =
    elim (or_cases (not (int_eq x (neg_ℤ pivot)) && literal_holds a x) _ h) [
      | inl here ↦ or_left _ _ (literal_kept pivot a x (not-true _ (and_parts (not (int_eq x (neg_ℤ pivot))) _ here).0)
          (and_parts (not (int_eq x (neg_ℤ pivot))) _ here).1)
      | inr later ↦ or_right _ _ (clause_kept pivot a xs later)
    ]

-- a clause without the pivot's negation
holds_otherwise-free : (pivot : ℤ) (a : Assignment) (clause : List ℤ) → holds_negated pivot clause ≡ false → clause_holds a clause ≡ true
    → holds_otherwise a pivot clause ≡ true
holds_otherwise-free pivot a [] free h = h
holds_otherwise-free pivot a (x ∷ xs) free h =
    let other : int_eq x (neg_ℤ pivot) ≡ false = int_eq_symmetric x (neg_ℤ pivot) ∙ (or_parts (int_eq (neg_ℤ pivot) x) _ free).0 in
    rw other (or_weaken (literal_holds a x) _ _ (holds_otherwise-free pivot a xs (or_parts (int_eq (neg_ℤ pivot) x) _ free).1) h)

-- a blocked candidate
holds_otherwise-blocked : (pivot : ℤ) (a : Assignment) (n : FalseSet) (clause : List ℤ) → Falsifies a n → has_no_zero clause ≡ true
    → is_blocked_by n pivot clause ≡ true → holds_otherwise a pivot clause ≡ true
holds_otherwise-blocked pivot a n [] f z b = b
holds_otherwise-blocked pivot a n (x ∷ xs) f z b =
    let nonzero : is_nonzero x ≡ true = (and_parts (is_nonzero x) _ z).0 in
    elim (or_cases (not (int_eq x (neg_ℤ pivot)) && n (neg_ℤ x)) _ b) [
      | inl here ↦ or_left _ _ (and_from _ _ (and_parts (not (int_eq x (neg_ℤ pivot))) _ here).0
          (not_not (literal_holds a x) ∙ ap not (sym (literal_holds-neg_ℤ a x nonzero)
          ∙ f.falsified (neg_ℤ x) (and_parts (not (int_eq x (neg_ℤ pivot))) _ here).1)))
      | inr later ↦ or_right _ _ (holds_otherwise-blocked pivot a n xs f (and_parts (is_nonzero x) _ z).1 later)
    ]

-- where no other literal of the candidate holds, its literals are false too
false_otherwise : (pivot : ℤ) (a : Assignment) (clause : List ℤ) → holds_otherwise a pivot clause ≡ false → (x : ℤ) → int_eq x (neg_ℤ pivot)
    ≡ false
    → list_any (int_eq x) clause ≡ true → literal_holds a x ≡ false
false_otherwise pivot a [] h x other m = cc
false_otherwise pivot a (y ∷ ys) h x other m =
    elim (or_cases (int_eq x y) _ m) [
      | inl here ↦
          let same : x ≡ y = int_eq-true x y here in
          let at_y : (not (int_eq y (neg_ℤ pivot)) && literal_holds a y)
          ≡ false = (or_parts (not (int_eq y (neg_ℤ pivot)) && literal_holds a y) _ h).0 in
          let at_x : (not (int_eq x (neg_ℤ pivot)) && literal_holds a x)
          ≡ false = subst (λ v. (not (int_eq v (neg_ℤ pivot)) && literal_holds a v) ≡ false) (sym same) at_y in
          rw other at at_x
      | inr later ↦ false_otherwise pivot a ys (or_parts (not (int_eq y (neg_ℤ pivot)) && literal_holds a y) _ h).1 x other later
    ]

Falsifies-with_candidate : (pivot : ℤ) (a : Assignment) (n : FalseSet) (clause : List ℤ) → Falsifies a n → holds_otherwise a pivot clause
    ≡ false
    → Falsifies a (with_candidate n pivot clause)
Falsifies-with_candidate pivot a n clause f h = record {
  falsified = λ x m. elim (or_cases (not (int_eq x (neg_ℤ pivot)) && list_any (int_eq x) clause) (n x) m) [
    | inl candidate ↦ false_otherwise pivot a clause h x (not-true _ (and_parts (not (int_eq x (neg_ℤ pivot))) _ candidate).0)
        (and_parts (not (int_eq x (neg_ℤ pivot))) _ candidate).1
    | inr before ↦ f.falsified x before
  ];
}

-- a candidate that its group refutes
holds_otherwise-refuted : (pivot : ℤ) (a : Assignment) (live : Live) (n : FalseSet) (clause : List ℤ) (hints : List ℕ) → LiveHasNoZero live
    → SatisfiesLive a live → Falsifies a n
    → chain live (with_candidate n pivot clause) hints ≡ Closed → holds_otherwise a pivot clause ≡ true
holds_otherwise-refuted pivot a live n clause hints z s f closed =
    elim (holds_otherwise a pivot clause) as (λ b. holds_otherwise a pivot clause ≡ b → b ≡ true) [
      | true ↦ λ e. refl
      | false ↦ λ e. absurd (subst (IsSound a) closed (chain-sound a live z s (with_candidate n pivot clause) hints
          (Falsifies-with_candidate pivot a n clause f e)))
    ] refl

outcome_fault-none : (o : Outcome) → outcome_fault o ≡ None → o ≡ Closed
outcome_fault-none (Bad reason) h = cc
outcome_fault-none (Open n) h = cc
outcome_fault-none Closed h = refl

pub first_of_faults-none : (f g : Option Reason) → first_of_faults f g ≡ None → (f ≡ None) × (g ≡ None)
first_of_faults-none (Some reason) g h = cc
first_of_faults-none None g h = (refl, h)

if_none : (b : Bool) (reason : Reason) → (if b then None else Some reason) ≡ None → b ≡ true
if_none true reason h = refl
if_none false reason h = cc

-- a candidate whose group is good is blocked or refuted
group_refutes : (live : Live) (n : FalseSet) (pivot : ℤ) (clause : List ℤ) (hints : List ℕ) → holds_negated pivot clause ≡ true
    → group_fault_at live n pivot hints (Some clause) ≡ None → (is_blocked_by n pivot clause ≡ true)
    ⊎ (chain live (with_candidate n pivot clause) hints ≡ Closed)
group_refutes live n pivot clause hints negated h =
    let passes : candidate_fault live n pivot clause hints ≡ None = rw negated at h in
    elim (is_blocked_by n pivot clause)
    as (λ b. (if b then None else outcome_fault (chain live (with_candidate n pivot clause) hints)) ≡ None → (b ≡ true)
    ⊎ (chain live (with_candidate n pivot clause) hints ≡ Closed)) [
      | true ↦ λ p. inl refl
      | false ↦ λ p. inr (outcome_fault-none _ p)
    ] passes

group_named : (live : Live) (n : FalseSet) (pivot : ℤ) (groups : List Group) (id : ℕ) → groups_fault live n pivot groups ≡ None
    → list_any (λ group. group.id == id) groups ≡ true → (hints : List ℕ) × (group_fault_at live n pivot hints (clause_at live id) ≡ None)
group_named live n pivot [] id h m = cc
group_named live n pivot (group ∷ groups) id h m =
    let both : (group_fault live n pivot group ≡ None) × (groups_fault live n pivot groups ≡ None) = first_of_faults-none _ _ h in
    elim (or_cases (group.id == id) _ m) [
      | inl here ↦ (
        group.hints,
        subst (λ k. group_fault_at live n pivot group.hints (clause_at live k)
            ≡ None) (eqb-true group.id id here) both.0,
      )
      | inr later ↦ group_named live n pivot groups id both.1 later
    ]

settled_cases : (c b g : Bool) → c ≡ true → (not c || b || g) ≡ true → (b ≡ true) ⊎ (g ≡ true)
settled_cases true true g e h = inl refl
settled_cases true false g e h = inr h
settled_cases false b g e h = cc

-- a candidate among the live clauses
candidate_kept : (a : Assignment) (live : Live) (n : FalseSet) (pivot : ℤ) (groups : List Group) → LiveHasNoZero live → SatisfiesLive a live
    → Falsifies a n
    → resolvents_fault live n pivot groups ≡ None → (id : ℕ) (clause : List ℤ) → clause_at live id ≡ Some clause
    → holds_negated pivot clause ≡ true → holds_otherwise a pivot clause ≡ true
candidate_kept a live n pivot groups z s f h id clause at negated =
    let both : (groups_fault live n pivot groups ≡ None)
    × ((if list_all (is_settled live n pivot groups) (finmap.keys live) then None else Some CandidateOpen) ≡ None) =
    first_of_faults-none _ _ h in
    let is_key : list_any (eq_by_cmp nat_cmp id) (finmap.keys live) ≡ true = sym (finmap.contains_key-keys live id) ∙ ap is_some at in
    let settled : is_settled live n pivot groups id ≡ true = list_all_key (is_settled live n pivot groups) (finmap.keys live) id
    (if_none _ CandidateOpen both.1) is_key in
    let candidate : is_candidate live pivot id ≡ true = ap (if_live (holds_negated pivot)) at ∙ negated in
    let blocked_is : is_blocked live n pivot id ≡ is_blocked_by n pivot clause = ap (if_live (is_blocked_by n pivot)) at in
    elim (settled_cases (is_candidate live pivot id) (is_blocked live n pivot id) _ candidate settled) [
      | inl blocked ↦ holds_otherwise-blocked pivot a n clause f (z id clause at) (sym blocked_is ∙ blocked)
      | inr named ↦
          let group : (hints : List ℕ) × (group_fault_at live n pivot hints (clause_at live id)
          ≡ None) = group_named live n pivot groups id both.0 named in
          elim (group_refutes live n pivot clause group.0 negated (subst (λ o. group_fault_at live n pivot group.0 o ≡ None) at group.1)) [
            | inl blocked ↦ holds_otherwise-blocked pivot a n clause f (z id clause at) blocked
            | inr closed ↦ holds_otherwise-refuted pivot a live n clause group.0 z s f closed
          ]
    ]

-- each live clause holds once the pivot is made true
pub SatisfiesLive-make_true : (a : Assignment) (live : Live) (n : FalseSet) (pivot : ℤ) (groups : List Group) → LiveHasNoZero live
    → SatisfiesLive a live → Falsifies a n
    → resolvents_fault live n pivot groups ≡ None → SatisfiesLive (make_true pivot a) live
SatisfiesLive-make_true a live n pivot groups z s f h id clause at =
    clause_kept pivot a clause (elim (holds_negated pivot clause) as (λ b. holds_negated pivot clause ≡ b → holds_otherwise a pivot clause
    ≡ true) [
      | true ↦ λ negated. candidate_kept a live n pivot groups z s f h id clause at negated
      | false ↦ λ free. holds_otherwise-free pivot a clause free (s id clause at)
    ] refl)
