-- A good addition, cut, over another map: where this has the same clauses under the numbers that are named, and no others but those
-- of the first, it is good there, and is cut no more.
use Rattle.std.proofs.Common.{◌≡◌, ◌⊎◌, ℕ, Bool, true, false, ◌||◌, ℤ, List, [], ◌∷◌, take, Option, Some, None, is_some, nat_eq, refl}
use Rattle.std.proofs.Common.{sym, ap, inl, inr}
use Rattle.std.proofs.Common.{◌∙◌}
use Rattle.std.specs.Prelude.{map, if◌then◌else◌}
use Rattle.std.specs.List.{list_any, list_all}
use Rattle.std.specs.FinMap as finmap
use Rattle.std.proofs.lemmas.Bool.{or_cases, or_left, or_right}
use Rattle.cnf_base.specs.declared.list.Group.{Group}
use Rattle.lrat_rules.specs.declared.outcome.Reason.{Reason}
use Rattle.lrat_rules.specs.declared.outcome.Reason.TheVariants.{NoConflict, CandidateOpen}
use Rattle.lrat_rules.specs.State.{Live, clause_at}
use Rattle.lrat_rules.specs.Chain.{FalseSet, literals_of, chain, Outcome, Open, Closed, Bad}
use Rattle.lrat_rules.specs.Addition.{first_of_faults, groups_fault, is_settled, resolvents_fault, fault_after_hints}
use Rattle.lrat_checker.specs.Cuts.{Cut, cut_group, cut_groups, cut_of}
use Rattle.proof_trim.specs.Trimmed.{group_names}
use Rattle.proof_trim.proofs.Chains.{has_id, Agree, chain_agrees, used_agrees, is_fine, taken, chain_taken, taken_again, taken_live}
use Rattle.proof_trim.proofs.Groups.{AgreeOn, groups_fault-cut, groups-cut_again, groups-live, settled-cut}

-- the cut has this number
abbrev pub cut_names : Cut → ℕ → Bool
cut_names cut id = list_any (nat_eq id) cut.pos || list_any (group_names id) cut.groups

-- the second map has what the first has, or nothing
abbrev pub IsLess : Live → Live → Type 0
IsLess live other = (id : ℕ) → (clause_at other id ≡ clause_at live id) ⊎ (clause_at other id ≡ None)

fine_of_none : (live : Live) (clause : List ℤ) (groups : List Group) (o : Outcome) → fault_after_hints live clause groups o ≡ None
    → is_fine o ≡ true
fine_of_none live clause groups (Bad reason) none = cc
fine_of_none live clause groups Closed none = refl
fine_of_none live clause groups (Open n) none = refl

both_none : (f g : Option Reason) → first_of_faults f g ≡ None → (f ≡ None) × (g ≡ None)
both_none (Some reason) g h = cc
both_none None g h = (refl, h)

not_none : {A : Type 0} (reason : Reason) → Some reason ≡ None → A
not_none reason e = cc

if_none : (b : Bool) (reason : Reason) → (if b then None else Some reason) ≡ None → b ≡ true
if_none true reason h = refl
if_none false reason h = cc

module _ (live other : Live) (less : IsLess live other) where
  -- behind hints without a conflict
  resolvents-cut : (n : FalseSet) (pivot : ℤ) (groups : List Group) → resolvents_fault live n pivot groups ≡ None
      → AgreeOn live other (λ id. list_any (group_names id) (map (cut_group live n pivot) groups))
      → resolvents_fault other n pivot (map (cut_group live n pivot) groups) ≡ None
  resolvents-cut n pivot groups none agree =
      let cut : List Group = map (cut_group live n pivot) groups in
      let both = both_none (groups_fault live n pivot groups)
      (if list_all (is_settled live n pivot groups) (finmap.keys live) then None else Some CandidateOpen) none in
      let good : groups_fault other n pivot cut ≡ None = groups_fault-cut live other n pivot groups both.0 agree in
      let settled : list_all (is_settled other n pivot cut) (finmap.keys other) ≡ true =
      settled-cut live other n pivot groups (if_none _ CandidateOpen both.1) less in
      λ i. first_of_faults (good i) (if settled i then None else Some CandidateOpen)

  module _ (clause : List ℤ) (hints : List ℕ) (groups : List Group) where
    abbrev n : FalseSet
    n = literals_of clause

    abbrev pos : List ℕ
    pos = taken live n hints

    abbrev cut : Cut
    cut = cut_of live clause hints groups

    positive_agree : AgreeOn live other (cut_names cut) → Agree live other pos
    positive_agree agree id h = agree id (or_left (has_id pos id) (list_any (group_names id) cut.groups) h)

    -- the positive hints lead where they led, and are cut no more
    leads-cut : is_fine (chain live n hints) ≡ true → AgreeOn live other (cut_names cut) → chain other n pos ≡ chain live n hints
    leads-cut fine agree = chain_agrees live other n pos (positive_agree agree) ∙ chain_taken live n hints fine

    positive-cut_again : is_fine (chain live n hints) ≡ true → AgreeOn live other (cut_names cut) → taken other n pos ≡ pos
    positive-cut_again fine agree = ap (λ (k : ℕ). take k pos) (used_agrees live other n pos (positive_agree agree))
        ∙ taken_again live n hints fine

  -- It is good.
  good_open : (clause : List ℤ) (hints : List ℕ) (groups : List Group) (end : FalseSet)
      → chain live (literals_of clause) hints ≡ Open end
      → fault_after_hints live clause groups (chain live (literals_of clause) hints) ≡ None
      → AgreeOn live other (cut_names (cut_of live clause hints groups))
      → fault_after_hints other clause (cut_of live clause hints groups).groups (Open end) ≡ None
  good_open [] hints groups end is none agree =
      not_none NoConflict (sym (ap (fault_after_hints live [] groups) is) ∙ none)
  good_open (pivot ∷ clause) hints groups end is none agree =
      let shorter : (cut_of live (pivot ∷ clause) hints groups).groups ≡ map (cut_group live end pivot) groups =
      ap (cut_groups live (pivot ∷ clause) groups) is in
      let open_none : resolvents_fault live end pivot groups ≡ None = sym (ap (fault_after_hints live (pivot ∷ clause) groups) is) ∙ none in
      ap (resolvents_fault other end pivot) shorter
      ∙ resolvents-cut end pivot groups open_none (λ id h. agree id
      (or_right (has_id (cut_of live (pivot ∷ clause) hints groups).pos id)
      (list_any (group_names id) (cut_of live (pivot ∷ clause) hints groups).groups)
      (ap (list_any (group_names id)) shorter ∙ h)))

  pub good-cut : (clause : List ℤ) (hints : List ℕ) (groups : List Group)
      → fault_after_hints live clause groups (chain live (literals_of clause) hints) ≡ None
      → AgreeOn live other (cut_names (cut_of live clause hints groups))
      → fault_after_hints other clause (cut_of live clause hints groups).groups
      (chain other (literals_of clause) (cut_of live clause hints groups).pos) ≡ None
  good-cut clause hints groups none agree =
      let fine : is_fine (chain live (literals_of clause) hints) ≡ true =
      fine_of_none live clause groups (chain live (literals_of clause) hints) none in
      let leads = leads-cut clause hints groups fine agree in
      let shorter : List Group = (cut_of live clause hints groups).groups in
      ap (fault_after_hints other clause shorter) leads
      ∙ (elim (chain live (literals_of clause) hints) as (λ o. chain live (literals_of clause) hints ≡ o → is_fine o ≡ true
      → fault_after_hints other clause shorter o ≡ None) [
        | Bad reason ↦ λ is f. cc
        | Closed ↦ λ is f. refl
        | Open end ↦ λ is f. good_open clause hints groups end is none agree
      ] refl fine)

  -- It is cut no more.
  groups_open : (clause : List ℤ) (hints : List ℕ) (groups : List Group) (end : FalseSet)
      → chain live (literals_of clause) hints ≡ Open end
      → fault_after_hints live clause groups (chain live (literals_of clause) hints) ≡ None
      → AgreeOn live other (cut_names (cut_of live clause hints groups))
      → cut_groups other clause (cut_of live clause hints groups).groups (Open end) ≡ (cut_of live clause hints groups).groups
  groups_open [] hints groups end is none agree =
      not_none NoConflict (sym (ap (fault_after_hints live [] groups) is) ∙ none)
  groups_open (pivot ∷ clause) hints groups end is none agree =
      let shorter : (cut_of live (pivot ∷ clause) hints groups).groups ≡ map (cut_group live end pivot) groups =
      ap (cut_groups live (pivot ∷ clause) groups) is in
      let open_none : resolvents_fault live end pivot groups ≡ None = sym (ap (fault_after_hints live (pivot ∷ clause) groups) is) ∙ none in
      let both = both_none (groups_fault live end pivot groups)
      (if list_all (is_settled live end pivot groups) (finmap.keys live) then None else Some CandidateOpen) open_none in
      ap (map (cut_group other end pivot)) shorter
      ∙ groups-cut_again live other end pivot groups both.0 (λ id h. agree id
      (or_right (has_id (cut_of live (pivot ∷ clause) hints groups).pos id)
      (list_any (group_names id) (cut_of live (pivot ∷ clause) hints groups).groups)
      (ap (list_any (group_names id)) shorter ∙ h)))
      ∙ sym shorter

  pub cut_again : (clause : List ℤ) (hints : List ℕ) (groups : List Group)
      → fault_after_hints live clause groups (chain live (literals_of clause) hints) ≡ None
      → AgreeOn live other (cut_names (cut_of live clause hints groups))
      → cut_of other clause (cut_of live clause hints groups).pos (cut_of live clause hints groups).groups ≡ cut_of live clause hints groups
  cut_again clause hints groups none agree =
      let fine : is_fine (chain live (literals_of clause) hints) ≡ true =
      fine_of_none live clause groups (chain live (literals_of clause) hints) none in
      let leads = leads-cut clause hints groups fine agree in
      let shorter : List Group = (cut_of live clause hints groups).groups in
      let behind : cut_groups other clause shorter (chain other (literals_of clause) (cut_of live clause hints groups).pos) ≡ shorter =
      ap (cut_groups other clause shorter) leads
      ∙ (elim (chain live (literals_of clause) hints) as (λ o. chain live (literals_of clause) hints ≡ o → is_fine o ≡ true
      → cut_groups other clause shorter o ≡ shorter) [
        | Bad reason ↦ λ is f. cc
        | Closed ↦ λ is f. sym (ap (cut_groups live clause groups) is)
        | Open end ↦ λ is f. groups_open clause hints groups end is none agree
      ] refl fine) in
      λ i. record { pos = positive-cut_again clause hints groups fine agree i; groups = behind i }

-- It names live clauses alone.
groups_live-open : (live : Live) (clause : List ℤ) (groups : List Group) (end : FalseSet) → fault_after_hints live clause groups (Open
    end) ≡ None
    → (id : ℕ) → list_any (group_names id) (cut_groups live clause groups (Open end)) ≡ true → is_some (clause_at live id) ≡ true
groups_live-open live [] groups end none id h = cc
groups_live-open live (pivot ∷ clause) groups end none id h =
    let both = both_none (groups_fault live end pivot groups)
    (if list_all (is_settled live end pivot groups) (finmap.keys live) then None else Some CandidateOpen) none in
    groups-live live live end pivot groups both.0 id h

groups_live : (live : Live) (clause : List ℤ) (groups : List Group) (o : Outcome) → fault_after_hints live clause groups o ≡ None
    → (id : ℕ) → list_any (group_names id) (cut_groups live clause groups o) ≡ true → is_some (clause_at live id) ≡ true
groups_live live clause groups (Bad reason) none id h = cc
groups_live live clause groups Closed none id h = cc
groups_live live clause groups (Open end) none id h = groups_live-open live clause groups end none id h

pub cut-live : (live : Live) (clause : List ℤ) (hints : List ℕ) (groups : List Group)
    → fault_after_hints live clause groups (chain live (literals_of clause) hints) ≡ None
    → (id : ℕ) → cut_names (cut_of live clause hints groups) id ≡ true → is_some (clause_at live id) ≡ true
cut-live live clause hints groups none id h =
    let cut : Cut = cut_of live clause hints groups in
    elim (or_cases (has_id cut.pos id) (list_any (group_names id) cut.groups) h) [
      | inl own ↦ taken_live live (literals_of clause) hints
          (fine_of_none live clause groups (chain live (literals_of clause) hints) none) id own
      | inr group ↦ groups_live live clause groups (chain live (literals_of clause) hints) none id group
    ]
