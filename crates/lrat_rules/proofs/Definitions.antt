-- A definition is a good addition: its groups name the candidates, and all of these are blocked.
use Rattle.std.proofs.Common.{◌≡◌, ◌==◌, ℕ, ◌<◌, Bool, true, false, not, ◌||◌, ℤ, List, [], ◌∷◌, map, Option, None, Some, refl, ap, ◌∙◌}
use Rattle.std.proofs.Common.{sym, subst, eq-eqb}
use Rattle.std.specs.List.{list_any, list_all}
use Rattle.std.specs.FinMap as finmap
use Rattle.std.proofs.lemmas.Bool.{lt-leb, or_left, or_right}
use Rattle.cnf_base.specs.declared.list.Group.{Group}
use Rattle.lrat_rules.specs.State.{State, Live, clause_at}
use Rattle.lrat_rules.specs.Chain.{FalseSet, Open, literals_of}
use Rattle.lrat_rules.specs.Addition.{holds_negated, is_blocked_by, if_live, is_candidate, is_blocked, group_fault_at, groups_fault}
use Rattle.lrat_rules.specs.Addition.{first_of_faults, is_settled, resolvents_fault, fault_after_hints, fault}
use Rattle.lrat_rules.specs.Strict.{IsDefinition}
use Rattle.lrat_rules.proofs.Tests.{list_all_each}

-- the group of a candidate without hints
abbrev bare_group : ℕ → Group
bare_group candidate = record { id = candidate; hints = [] }

group_fault_at-blocked : (live : Live) (n : FalseSet) (pivot : ℤ) (hints : List ℕ) (o : Option (List ℤ))
    → if_live (holds_negated pivot) o ≡ true → if_live (is_blocked_by n pivot) o ≡ true → group_fault_at live n pivot hints o ≡ None
group_fault_at-blocked live n pivot hints None h b = cc
group_fault_at-blocked live n pivot hints (Some clause) h b = rw (h, b)

groups_fault-blocked : (live : Live) (n : FalseSet) (pivot : ℤ) (candidates : List ℕ)
    → ((id : ℕ) → list_any (λ candidate. candidate == id) candidates ≡ true → (is_candidate live pivot id ≡ true)
    × (is_blocked live n pivot id ≡ true))
    → groups_fault live n pivot (map bare_group candidates) ≡ None
groups_fault-blocked live n pivot [] each = refl
groups_fault-blocked live n pivot (candidate ∷ candidates) each =
    let here : (is_candidate live pivot candidate ≡ true) × (is_blocked live n pivot candidate
    ≡ true) = each candidate (or_left _ _ (eq-eqb candidate candidate refl)) in
    let rest : groups_fault live n pivot (map bare_group candidates)
    ≡ None = groups_fault-blocked live n pivot candidates (λ id h. each id (or_right _ _ h)) in
    ap (λ f. first_of_faults f (groups_fault live n pivot (map bare_group candidates)))
    (group_fault_at-blocked live n pivot [] (clause_at live candidate) here.0 here.1) ∙ rest

settled_cases : (c b g : Bool) → (c ≡ true → b ≡ true) → (not c || b || g) ≡ true
settled_cases true b g h = rw (h refl)
settled_cases false b g h = refl

pub resolvents_fault-none : (live : Live) (n : FalseSet) (pivot : ℤ) (groups : List Group) → groups_fault live n pivot groups ≡ None
    → list_all (is_settled live n pivot groups) (finmap.keys live) ≡ true → resolvents_fault live n pivot groups ≡ None
resolvents_fault-none live n pivot groups g s = rw (g, s)

after_no_hints : (live : Live) (n : FalseSet) (clause : List ℤ) (pivot : ℤ) (others : List ℤ) (groups : List Group) → clause ≡ pivot
    ∷ others
    → resolvents_fault live n pivot groups ≡ None → fault_after_hints live clause groups (Open n) ≡ None
after_no_hints live n clause pivot others groups e h = subst (λ c. fault_after_hints live c groups (Open n) ≡ None) (sym e) h

pub fault-definition : (state : State) (id : ℕ) (clause : List ℤ) (candidates : List ℕ) → state.top < id
    → IsDefinition state.live clause candidates
    → fault state id clause [] (map bare_group candidates) ≡ None
fault-definition state id clause candidates above d =
    let n = literals_of clause in
    let groups : groups_fault state.live n d.pivot (map bare_group candidates) ≡ None =
    groups_fault-blocked state.live n d.pivot candidates (λ k h. (d.named k ∙ h, d.blocked k (d.named k ∙ h))) in
    let settled : list_all (is_settled state.live n d.pivot (map bare_group candidates)) (finmap.keys state.live) ≡ true =
    list_all_each (is_settled state.live n d.pivot (map bare_group candidates)) (finmap.keys state.live)
    (λ k. settled_cases (is_candidate state.live d.pivot k) _ _ (d.blocked k)) in
    rw (lt-leb id state.top above)
    (after_no_hints state.live n clause d.pivot d.others (map bare_group candidates) d.first
    (resolvents_fault-none state.live n d.pivot (map bare_group candidates) groups settled))
