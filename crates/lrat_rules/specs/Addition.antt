-- When an addition is good: its hints refute the negation of its clause, or its first literal, the pivot, has a
-- refutation for each candidate, a live clause with the pivot's negation: RUP and RAT steps. (Cruz-Filipe, Heule,
-- Hunt, Kaufmann, Schneider-Kamp: Efficient Certified RAT Verification, CADE 2017.) A candidate is blocked where
-- another literal of it has its negation among the false ones. That it needs no group then, and that a group of it
-- passes whatever its hints, is this project's own rule.
use Rattle.std.specs.Prelude.{ℕ, Bool, false, not, ◌||◌, ◌&&◌, ℤ, neg_ℤ, List, [], ◌∷◌, Option, None, Some, nat_le, ◌==◌, if◌then◌else◌}
use Rattle.std.specs.List.{list_any, list_all}
use Rattle.std.specs.Ordering.{int_eq}
use Rattle.std.specs.FinMap as map
use Rattle.cnf_base.specs.declared.list.Group.{Group}
use Rattle.lrat_rules.specs.declared.outcome.Reason.{Reason}
use Rattle.lrat_rules.specs.declared.outcome.Reason.TheVariants.{IdNotGreater, NoConflict, CandidateOpen, GroupStray}
use Rattle.lrat_rules.specs.State.{State, Live, clause_at}
use Rattle.lrat_rules.specs.Chain.{FalseSet, literals_of, chain, Outcome, Open, Closed, Bad}

-- the clause holds the pivot's negation
abbrev pub holds_negated : ℤ → List ℤ → Bool
holds_negated pivot clause = list_any (int_eq (neg_ℤ pivot)) clause

-- the clause has a literal other than the pivot's negation
abbrev pub has_other : ℤ → List ℤ → Bool
has_other pivot clause = list_any (λ x. not (int_eq x (neg_ℤ pivot))) clause

-- some literal other than the pivot's negation has its negation among the false ones
abbrev pub is_blocked_by : FalseSet → ℤ → List ℤ → Bool
is_blocked_by n pivot clause = list_any (λ x. not (int_eq x (neg_ℤ pivot)) && n (neg_ℤ x)) clause

-- the false literals with those of a candidate other than the pivot's negation
abbrev pub with_candidate : FalseSet → ℤ → List ℤ → FalseSet
with_candidate n pivot clause x = (not (int_eq x (neg_ℤ pivot)) && list_any (int_eq x) clause) || n x

-- a test of the clause of this number, false where it isn't live
abbrev pub if_live : (List ℤ → Bool) → Option (List ℤ) → Bool
if_live test None = false
if_live test (Some clause) = test clause

abbrev pub is_candidate : Live → ℤ → ℕ → Bool
is_candidate live pivot id = if_live (holds_negated pivot) (clause_at live id)

abbrev pub is_blocked : Live → FalseSet → ℤ → ℕ → Bool
is_blocked live n pivot id = if_live (is_blocked_by n pivot) (clause_at live id)

-- a group's hints have to reach a conflict
abbrev pub outcome_fault : Outcome → Option Reason
outcome_fault (Bad reason) = Some reason
outcome_fault (Open n) = Some CandidateOpen
outcome_fault Closed = None

abbrev pub candidate_fault : Live → FalseSet → ℤ → List ℤ → List ℕ → Option Reason
candidate_fault live n pivot clause hints =
    if is_blocked_by n pivot clause then None else outcome_fault (chain live (with_candidate n pivot clause) hints)

-- a group is of a candidate, which is blocked or refuted by the group's hints
abbrev pub group_fault_at : Live → FalseSet → ℤ → List ℕ → Option (List ℤ) → Option Reason
group_fault_at live n pivot hints None = Some GroupStray
group_fault_at live n pivot hints (Some clause) =
    if holds_negated pivot clause then candidate_fault live n pivot clause hints else Some GroupStray

abbrev pub group_fault : Live → FalseSet → ℤ → Group → Option Reason
group_fault live n pivot group = group_fault_at live n pivot group.hints (clause_at live group.id)

-- the first of two faults
abbrev pub first_of_faults : Option Reason → Option Reason → Option Reason
first_of_faults (Some reason) later = Some reason
first_of_faults None later = later

-- the first failing group decides
abbrev pub groups_fault : Live → FalseSet → ℤ → List Group → Option Reason
groups_fault live n pivot [] = None
groups_fault live n pivot (group ∷ groups) = first_of_faults (group_fault live n pivot group) (groups_fault live n pivot groups)

-- the number is of no candidate, or of one that is blocked or has a group
abbrev pub is_settled : Live → FalseSet → ℤ → List Group → ℕ → Bool
is_settled live n pivot groups id =
    not (is_candidate live pivot id) || is_blocked live n pivot id || list_any (λ group. group.id == id) groups

abbrev pub resolvents_fault : Live → FalseSet → ℤ → List Group → Option Reason
resolvents_fault live n pivot groups =
    first_of_faults (groups_fault live n pivot groups) (if list_all (is_settled live n pivot groups)
    (map.keys live) then None else Some CandidateOpen)

-- after the positive hints; the pivot is the clause's first literal
abbrev pub fault_after_hints : Live → List ℤ → List Group → Outcome → Option Reason
fault_after_hints live clause groups (Bad reason) = Some reason
fault_after_hints live clause groups Closed = None
fault_after_hints live [] groups (Open n) = Some NoConflict
fault_after_hints live (pivot ∷ clause) groups (Open n) = resolvents_fault live n pivot groups

-- why the addition of this clause under this number, with these hints and groups, is not good; nothing where it is
abbrev pub fault : State → ℕ → List ℤ → List ℕ → List Group → Option Reason
fault state id clause hints groups =
    if nat_le id state.top then Some IdNotGreater else fault_after_hints state.live clause groups
    (chain state.live (literals_of clause) hints)
