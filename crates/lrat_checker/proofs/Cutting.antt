-- Hints and groups cut to the numbers that a check took are what the addition needs.
use Rattle.std.proofs.Common.{◌≡◌, ℕ, true, false, ℤ, List, [], ◌∷◌, take, Some, refl, ap}
use Rattle.std.specs.Prelude.{map}
use Rattle.cnf_base.specs.declared.list.Group.{Group}
use Rattle.lrat_rules.specs.State.{Live, clause_at}
use Rattle.lrat_rules.specs.Chain.{FalseSet, literals_of, chain, Outcome, Open, Closed, Bad}
use Rattle.lrat_rules.specs.Addition.{is_blocked_by, with_candidate}
use Rattle.lrat_checker.specs.Cuts.{used, group_use, cut_group, cut_groups, cut_of, group_uses, uses_of, groups_by, cut_by}

module _ (live : Live) where
  pub groups_by-uses : (n : FalseSet) (pivot : ℤ) (groups : List Group) → groups_by groups (map (group_use live n pivot) groups)
      ≡ map (cut_group live n pivot) groups
  groups_by-uses n pivot [] = refl
  groups_by-uses n pivot (group ∷ groups) = ap (λ (l : List Group). cut_group live n pivot group ∷ l) (groups_by-uses n pivot groups)

  groups-uses : (clause : List ℤ) (groups : List Group) (outcome : Outcome) → groups_by groups (group_uses live clause groups outcome)
      ≡ cut_groups live clause groups outcome
  groups-uses clause [] (Bad reason) = refl
  groups-uses clause (group ∷ groups) (Bad reason) = refl
  groups-uses clause [] Closed = refl
  groups-uses clause (group ∷ groups) Closed = refl
  groups-uses [] [] (Open n) = refl
  groups-uses [] (group ∷ groups) (Open n) = refl
  groups-uses (pivot ∷ clause) groups (Open n) = groups_by-uses n pivot groups

  pub cut_by-uses : (clause : List ℤ) (hints : List ℕ) (groups : List Group) → cut_by (uses_of live clause hints groups) hints groups
      ≡ cut_of live clause hints groups
  cut_by-uses clause hints groups =
      ap (λ (l : List Group). record { pos = take (used live (literals_of clause) hints) hints; groups = l })
      (groups-uses clause groups (chain live (literals_of clause) hints))

-- how many hints of a group are needed, where its candidate is blocked or not
module _ (live : Live) (n : FalseSet) (pivot : ℤ) (group : Group) (clause : List ℤ) (at : Some clause ≡ clause_at live group.id) where
  pub group_use-blocked : is_blocked_by n pivot clause ≡ true → group_use live n pivot group ≡ 0
  group_use-blocked b = rw (← at, b) refl

  pub group_use-candidate : is_blocked_by n pivot clause ≡ false → group_use live n pivot group
      ≡ used live (with_candidate n pivot clause) group.hints
  group_use-candidate b = rw (← at, b) refl
