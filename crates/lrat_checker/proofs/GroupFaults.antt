-- The cases of a group's fault, and what groups without a fault name.
use Rattle.std.proofs.Common.{◌≡◌, ℕ, true, false, ℤ, List, [], ◌∷◌, Option, Some, None, refl}
use Rattle.std.specs.Prelude.{if◌then◌else◌}
use Rattle.std.proofs.lemmas.Bool.{and_from}
use Rattle.cnf_base.specs.declared.list.Group.{Group}
use Rattle.lrat_rules.specs.declared.outcome.Reason.{Reason}
use Rattle.lrat_rules.specs.declared.outcome.Reason.TheVariants.{GroupStray}
use Rattle.lrat_rules.specs.State.{Live, clause_at}
use Rattle.lrat_rules.specs.Chain.{FalseSet, chain}
use Rattle.lrat_rules.specs.Addition.{holds_negated, is_blocked_by, with_candidate, outcome_fault, candidate_fault, group_fault}
use Rattle.lrat_rules.specs.Addition.{group_fault_at, groups_fault, first_of_faults, if_live, is_candidate}
use Rattle.lrat_checker.specs.Walk.{name_candidates}

module _ (live : Live) (n : FalseSet) (pivot : ℤ) (group : Group) (clause : List ℤ) (at : Some clause ≡ clause_at live group.id) where
  pub group_fault-stray : holds_negated pivot clause ≡ false → group_fault live n pivot group ≡ Some GroupStray
  group_fault-stray h = rw (← at, h) refl

  pub group_fault-blocked : holds_negated pivot clause ≡ true → is_blocked_by n pivot clause ≡ true → group_fault live n pivot group ≡ None
  group_fault-blocked h b = rw (← at, h, b) refl

  pub group_fault-candidate : holds_negated pivot clause ≡ true → is_blocked_by n pivot clause ≡ false
      → group_fault live n pivot group ≡ outcome_fault (chain live (with_candidate n pivot clause) group.hints)
  group_fault-candidate h b = rw (← at, h, b) refl

no_first : (first later : Option Reason) → first_of_faults first later ≡ None → (first ≡ None) × (later ≡ None)
no_first None later e = (refl, e)
no_first (Some reason) later e = cc

module _ (live : Live) (n : FalseSet) (pivot : ℤ) where
  not_stray : (hints : List ℕ) (place : Option (List ℤ)) → group_fault_at live n pivot hints place ≡ None
      → if_live (holds_negated pivot) place ≡ true
  not_stray hints None e = cc
  not_stray hints (Some clause) e =
      elim (holds_negated pivot clause) as (λ b. (if b then candidate_fault live n pivot clause hints else Some GroupStray) ≡ None
      → b ≡ true) [ true ↦ λ _. refl | false ↦ λ stray. cc ] e

  -- groups without a fault name candidates
  pub without_fault : (groups : List Group) → groups_fault live n pivot groups ≡ None → name_candidates live pivot groups ≡ true
  without_fault [] e = refl
  without_fault (group ∷ groups) e =
      let parts = no_first (group_fault live n pivot group) (groups_fault live n pivot groups) e in
      and_from (is_candidate live pivot group.id) (name_candidates live pivot groups)
      (not_stray group.hints (clause_at live group.id) parts.0) (without_fault groups parts.1)
