-- The groups of a good addition, cut, over another map that has the same clauses under the numbers that they name.
use Rattle.std.proofs.Common.{◌≡◌, ◌⊎◌, ◌==◌, ℕ, Bool, true, false, not, ◌||◌, ℤ, List, [], ◌∷◌, take, Option, Some, None, is_some, nat_eq}
use Rattle.std.proofs.Common.{refl, sym, ap, subst, ◌∙◌, inl, inr, eqb-true, eq-eqb, nat_cmp}
use Rattle.std.specs.Prelude.{map, if◌then◌else◌}
use Rattle.std.specs.List.{list_any, list_all}
use Rattle.std.specs.Ordering.{eq_by_cmp}
use Rattle.std.specs.Cmp.{unsigned_tied}
use Rattle.std.specs.FinMap as finmap
use Rattle.std.proofs.lemmas.Bool.{and_parts, or_cases, or_left, or_right}
use Rattle.cnf_base.specs.declared.list.Group.{Group}
use Rattle.lrat_rules.specs.declared.outcome.Reason.{Reason}
use Rattle.lrat_rules.specs.declared.outcome.Reason.TheVariants.{GroupStray}
use Rattle.lrat_rules.specs.State.{Live, clause_at}
use Rattle.lrat_rules.specs.Chain.{FalseSet, chain, Outcome, Open, Closed, Bad}
use Rattle.lrat_rules.specs.Addition.{holds_negated, is_blocked_by, with_candidate, if_live, outcome_fault, candidate_fault, group_fault_at}
use Rattle.lrat_rules.specs.Addition.{group_fault, first_of_faults, groups_fault, is_settled}
use Rattle.lrat_checker.specs.Cuts.{used, group_use_at, group_use, cut_group}
use Rattle.proof_trim.specs.Trimmed.{group_names}
use Rattle.proof_trim.proofs.Chains.{has_id, Agree, chain_agrees, used_agrees, is_fine, taken, chain_taken, taken_again, taken_live}

-- under the numbers that pass the test both maps have the same
abbrev pub AgreeOn : Live → Live → (ℕ → Bool) → Type 0
AgreeOn live other test = (id : ℕ) → test id ≡ true → clause_at other id ≡ clause_at live id

-- a good group is of a candidate, which is blocked or refuted
pub data GoodGroup (live : Live) (n : FalseSet) (pivot : ℤ) (group : Group) : Type 0 where
  is_blocked : (clause : List ℤ) → clause_at live group.id ≡ Some clause → holds_negated pivot clause ≡ true
      → is_blocked_by n pivot clause ≡ true → GoodGroup live n pivot group
  is_refuted : (clause : List ℤ) → clause_at live group.id ≡ Some clause → holds_negated pivot clause ≡ true
      → is_blocked_by n pivot clause ≡ false → chain live (with_candidate n pivot clause) group.hints ≡ Closed
      → GoodGroup live n pivot group

outcome_fault-none : (o : Outcome) → outcome_fault o ≡ None → o ≡ Closed
outcome_fault-none (Bad reason) h = cc
outcome_fault-none (Open n) h = cc
outcome_fault-none Closed h = refl

pub good_group : (live : Live) (n : FalseSet) (pivot : ℤ) (group : Group) → group_fault live n pivot group ≡ None
    → GoodGroup live n pivot group
good_group live n pivot group none =
    elim (clause_at live group.id) as (λ p. clause_at live group.id ≡ p → group_fault_at live n pivot group.hints p ≡ None
    → GoodGroup live n pivot group) [
      | None ↦ λ at h. cc
      | Some clause ↦ λ at h.
          elim (holds_negated pivot clause) as (λ b. holds_negated pivot clause ≡ b
          → (if b then candidate_fault live n pivot clause group.hints else Some GroupStray) ≡ None → GoodGroup live n pivot group) [
            | false ↦ λ free k. cc
            | true ↦ λ negated k.
                elim (is_blocked_by n pivot clause) as (λ b. is_blocked_by n pivot clause ≡ b
                → (if b then None else outcome_fault (chain live (with_candidate n pivot clause) group.hints)) ≡ None
                → GoodGroup live n pivot group) [
                  | true ↦ λ blocked m. is_blocked clause at negated blocked
                  | false ↦ λ unblocked m. is_refuted clause at negated unblocked (outcome_fault-none _ m)
                ] refl k
          ] refl h
    ] refl none

-- what the fault of a group over its clause is
module _ (live : Live) (n : FalseSet) (pivot : ℤ) (group : Group) (clause : List ℤ) (at : clause_at live group.id ≡ Some clause)
    (negated : holds_negated pivot clause ≡ true) where
  none_blocked : is_blocked_by n pivot clause ≡ true → group_fault live n pivot group ≡ None
  none_blocked b = ap (group_fault_at live n pivot group.hints) at
      ∙ ap (λ (t : Bool). if t then candidate_fault live n pivot clause group.hints else Some GroupStray) negated
      ∙ ap (λ (t : Bool). if t then None else outcome_fault (chain live (with_candidate n pivot clause) group.hints)) b

  none_refuted : is_blocked_by n pivot clause ≡ false → chain live (with_candidate n pivot clause) group.hints ≡ Closed
      → group_fault live n pivot group ≡ None
  none_refuted b closed = ap (group_fault_at live n pivot group.hints) at
      ∙ ap (λ (t : Bool). if t then candidate_fault live n pivot clause group.hints else Some GroupStray) negated
      ∙ ap (λ (t : Bool). if t then None else outcome_fault (chain live (with_candidate n pivot clause) group.hints)) b
      ∙ ap outcome_fault closed

  use_blocked : is_blocked_by n pivot clause ≡ true → group_use live n pivot group ≡ 0
  use_blocked b = ap (group_use_at live n pivot group.hints) at
      ∙ ap (λ (t : Bool). if t then 0 else used live (with_candidate n pivot clause) group.hints) b

  use_refuted : is_blocked_by n pivot clause ≡ false → group_use live n pivot group ≡ used live (with_candidate n pivot clause) group.hints
  use_refuted b = ap (group_use_at live n pivot group.hints) at
      ∙ ap (λ (t : Bool). if t then 0 else used live (with_candidate n pivot clause) group.hints) b

-- A good group, cut, is good over the other map, and is cut no more.
module _ (live other : Live) (n : FalseSet) (pivot : ℤ) where
  abbrev shorter : Group → Group
  shorter group = cut_group live n pivot group

  group_of : (group : Group) → AgreeOn live other (λ id. group_names id (shorter group)) → clause_at other group.id ≡ clause_at live
      group.id
  group_of group agree = agree group.id (or_left (nat_eq group.id group.id) (has_id (shorter group).hints group.id)
      (eq-eqb group.id group.id refl))

  hints_of : (group : Group) → AgreeOn live other (λ id. group_names id (shorter group)) → Agree live other (shorter group).hints
  hints_of group agree id h = agree id (or_right (nat_eq id group.id) (has_id (shorter group).hints id) h)

  refuted_hints : (group : Group) (clause : List ℤ) → clause_at live group.id ≡ Some clause → holds_negated pivot clause ≡ true
      → is_blocked_by n pivot clause ≡ false → (shorter group).hints ≡ taken live (with_candidate n pivot clause) group.hints
  refuted_hints group clause at negated b = ap (λ (k : ℕ). take k group.hints) (use_refuted live n pivot group clause at negated b)

  pub group_fault-cut : (group : Group) → group_fault live n pivot group ≡ None
      → AgreeOn live other (λ id. group_names id (shorter group)) → group_fault other n pivot (shorter group) ≡ None
  group_fault-cut group none agree =
      elim (good_group live n pivot group none) [
        | is_blocked clause at negated b ↦ none_blocked other n pivot (shorter group) clause (group_of group agree ∙ at) negated b
        | is_refuted clause at negated b closed ↦
            let m : FalseSet = with_candidate n pivot clause in
            none_refuted other n pivot (shorter group) clause (group_of group agree ∙ at) negated b
            (chain_agrees live other m (shorter group).hints (hints_of group agree)
            ∙ ap (chain live m) (refuted_hints group clause at negated b) ∙ chain_taken live m group.hints (ap is_fine closed) ∙ closed)
      ]

  pub group-cut_again : (group : Group) → group_fault live n pivot group ≡ None
      → AgreeOn live other (λ id. group_names id (shorter group)) → cut_group other n pivot (shorter group) ≡ shorter group
  group-cut_again group none agree =
      elim (good_group live n pivot group none) [
        | is_blocked clause at negated b ↦
            let short : (shorter group).hints ≡ [] = ap (λ (k : ℕ). take k group.hints) (use_blocked live n pivot group clause at negated
            b) in
            let again : (cut_group other n pivot (shorter group)).hints ≡ [] =
            ap (λ (k : ℕ). take k (shorter group).hints)
            (use_blocked other n pivot (shorter group) clause (group_of group agree ∙ at) negated b) in
            ap (λ (l : List ℕ). record { id = group.id; hints = l }) (again ∙ sym short)
        | is_refuted clause at negated b closed ↦
            let m : FalseSet = with_candidate n pivot clause in
            let short : (shorter group).hints ≡ taken live m group.hints = refuted_hints group clause at negated b in
            let again : (cut_group other n pivot (shorter group)).hints ≡ taken live m (shorter group).hints =
            ap (λ (k : ℕ). take k (shorter group).hints)
            (use_refuted other n pivot (shorter group) clause (group_of group agree ∙ at) negated b
            ∙ used_agrees live other m (shorter group).hints (hints_of group agree)) in
            ap (λ (l : List ℕ). record { id = group.id; hints = l })
            (again ∙ ap (taken live m) short ∙ taken_again live m group.hints (ap is_fine closed) ∙ sym short)
      ]

  none_has : {A : Type 0} (id : ℕ) → has_id [] id ≡ true → A
  none_has id h = cc

  -- it names live clauses alone
  pub group-live : (group : Group) → group_fault live n pivot group ≡ None → (id : ℕ) → group_names id (shorter group) ≡ true
      → is_some (clause_at live id) ≡ true
  group-live group none id h =
      elim (or_cases (nat_eq id group.id) (has_id (shorter group).hints id) h) [
        | inl own ↦
            let same : id ≡ group.id = eqb-true id group.id own in
            elim (good_group live n pivot group none) [
              | is_blocked clause at negated b ↦ ap is_some (ap (clause_at live) same ∙ at)
              | is_refuted clause at negated b closed ↦ ap is_some (ap (clause_at live) same ∙ at)
            ]
        | inr hint ↦
            elim (good_group live n pivot group none) [
              | is_blocked clause at negated b ↦
                  none_has id (sym (ap (λ (k : ℕ). has_id (take k group.hints) id) (use_blocked live n pivot group clause at negated b))
                  ∙ hint)
              | is_refuted clause at negated b closed ↦
                  taken_live live (with_candidate n pivot clause) group.hints (ap is_fine closed) id
                  (sym (ap (λ (l : List ℕ). has_id l id) (refuted_hints group clause at negated b)) ∙ hint)
            ]
      ]

  pub first_of_faults-none : (f g : Option Reason) → first_of_faults f g ≡ None → (f ≡ None) × (g ≡ None)
  first_of_faults-none (Some reason) g h = cc
  first_of_faults-none None g h = (refl, h)

  first_agrees : (group : Group) (groups : List Group) → AgreeOn live other (λ id. list_any (group_names id) (map shorter (group ∷ groups)))
      → AgreeOn live other (λ id. group_names id (shorter group))
  first_agrees group groups agree id h = agree id (or_left (group_names id (shorter group)) (list_any (group_names id) (map shorter
      groups)) h)

  later_agree : (group : Group) (groups : List Group) → AgreeOn live other (λ id. list_any (group_names id) (map shorter (group ∷ groups)))
      → AgreeOn live other (λ id. list_any (group_names id) (map shorter groups))
  later_agree group groups agree id h = agree id (or_right (group_names id (shorter group)) (list_any (group_names id) (map shorter
      groups)) h)

  -- all of them
  pub groups_fault-cut : (groups : List Group) → groups_fault live n pivot groups ≡ None
      → AgreeOn live other (λ id. list_any (group_names id) (map shorter groups)) → groups_fault other n pivot (map shorter groups) ≡ None
  groups_fault-cut [] none agree = refl
  groups_fault-cut (group ∷ groups) none agree =
      let both = first_of_faults-none (group_fault live n pivot group) (groups_fault live n pivot groups) none in
      ap (λ (f : Option Reason). first_of_faults f (groups_fault other n pivot (map shorter groups)))
      (group_fault-cut group both.0 (first_agrees group groups agree))
      ∙ groups_fault-cut groups both.1 (later_agree group groups agree)

  pub groups-cut_again : (groups : List Group) → groups_fault live n pivot groups ≡ None
      → AgreeOn live other (λ id. list_any (group_names id) (map shorter groups))
      → map (cut_group other n pivot) (map shorter groups) ≡ map shorter groups
  groups-cut_again [] none agree = refl
  groups-cut_again (group ∷ groups) none agree =
      let both = first_of_faults-none (group_fault live n pivot group) (groups_fault live n pivot groups) none in
      λ i. group-cut_again group both.0 (first_agrees group groups agree) i ∷ groups-cut_again groups both.1 (later_agree group groups
      agree) i

  pub groups-live : (groups : List Group) → groups_fault live n pivot groups ≡ None → (id : ℕ)
      → list_any (group_names id) (map shorter groups) ≡ true → is_some (clause_at live id) ≡ true
  groups-live [] none id h = cc
  groups-live (group ∷ groups) none id h =
      let both = first_of_faults-none (group_fault live n pivot group) (groups_fault live n pivot groups) none in
      elim (or_cases (group_names id (shorter group)) (list_any (group_names id) (map shorter groups)) h) [
        | inl here ↦ group-live group both.0 id here
        | inr later ↦ groups-live groups both.1 id later
      ]

  -- Candidates: each is blocked or has its group, cut too.
  same_candidates : (groups : List Group) (id : ℕ) → list_any (λ group. group.id == id) (map shorter groups)
      ≡ list_any (λ group. group.id == id) groups
  same_candidates [] id = refl
  same_candidates (group ∷ groups) id = ap (λ (b : Bool). (group.id == id) || b) (same_candidates groups id)

  list_all_key : (p : ℕ → Bool) (ids : List ℕ) (id : ℕ) → list_all p ids ≡ true → list_any (eq_by_cmp nat_cmp id) ids ≡ true → p id ≡ true
  list_all_key p [] id all any = cc
  list_all_key p (x ∷ xs) id all any =
      elim (or_cases (eq_by_cmp nat_cmp id x) (list_any (eq_by_cmp nat_cmp id) xs) any) [
        | inl here ↦ subst (λ (k : ℕ). p k ≡ true) (sym (eqb-true id x (sym (unsigned_tied id x) ∙ here))) (and_parts (p x) (list_all p
            xs) all).0
        | inr later ↦ list_all_key p xs id (and_parts (p x) (list_all p xs) all).1 later
      ]

  all_each : (p : ℕ → Bool) (ids : List ℕ) → ((id : ℕ) → p id ≡ true) → list_all p ids ≡ true
  all_each p [] each = refl
  all_each p (id ∷ ids) each = rw (each id) (all_each p ids each)

  abbrev settled_as : List Group → ℕ → Option (List ℤ) → Bool
  settled_as groups id place =
      not (if_live (holds_negated pivot) place) || if_live (is_blocked_by n pivot) place || list_any (λ group. group.id == id) groups

  each_settled : (groups : List Group) → list_all (is_settled live n pivot groups) (finmap.keys live) ≡ true → (id : ℕ)
      → settled_as groups id (clause_at live id) ≡ true
  each_settled groups all id =
      elim (clause_at live id) as (λ p. clause_at live id ≡ p → settled_as groups id p ≡ true) [
        | None ↦ λ at. refl
        | Some clause ↦ λ at. ap (settled_as groups id) (sym at)
            ∙ list_all_key (is_settled live n pivot groups) (finmap.keys live) id all (sym (finmap.contains_key-keys live id) ∙ ap is_some
            at)
      ] refl

  pub settled-cut : (groups : List Group) → list_all (is_settled live n pivot groups) (finmap.keys live) ≡ true
      → ((id : ℕ) → (clause_at other id ≡ clause_at live id) ⊎ (clause_at other id ≡ None))
      → list_all (is_settled other n pivot (map shorter groups)) (finmap.keys other) ≡ true
  settled-cut groups all less =
      all_each (is_settled other n pivot (map shorter groups)) (finmap.keys other) (λ id.
      elim (less id) [
        | inl same ↦ (λ i. not (if_live (holds_negated pivot) (same i)) || if_live (is_blocked_by n pivot) (same i) || same_candidates
            groups id i)
            ∙ each_settled groups all id
        | inr none ↦ ap (settled_as (map shorter groups) id) none
      ])
