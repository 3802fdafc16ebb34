-- Two proofs that the rules accept.
use Rattle.std.proofs.Common.{◌≡◌, ℕ, true, false, ℤ, pos, negsuc, List, [], ◌∷◌, None, Some, codes, refl, sym, ap, ◌∙◌, arith, cond, not}
use Rattle.std.proofs.Common.{nat_cmp, eq-eqb, ne_eqb, inl, inr}
use Rattle.std.specs.Ordering.{eq_by_cmp}
use Rattle.std.specs.Cmp.{unsigned_tied}
use Rattle.std.specs.FinMap as finmap
use Rattle.std.proofs.lemmas.Bool.{cases_eq, or_left, or_right}
use Rattle.cnf_base.specs.declared.list.Group.{Group}
use Rattle.lrat_rules.specs.State.{start}
use Rattle.lrat_rules.specs.Chain.{Closed, literals_of, chain}
use Rattle.lrat_rules.specs.Addition.{holds_negated, if_live, is_candidate, groups_fault, is_settled, fault}
use Rattle.lrat_rules.specs.Run.{Refutes}
use Rattle.lrat_rules.proofs.Tests.{list_all_each}
use Rattle.lrat_rules.proofs.Starts.{clause_at-start, clause_at-start-within}
use Rattle.lrat_rules.proofs.Definitions.{resolvents_fault-none}
use Rattle.lrat_rules.proofs.Strictness.{fault-closes}

-- x1 or x2; not x1, or x2, or x3
abbrev two : List (List ℤ)
two = (pos 1 ∷ pos 2 ∷ []) ∷ (negsuc 0 ∷ pos 2 ∷ pos 3 ∷ []) ∷ []

-- the second clause is the candidate of x1, and the first refutes it
abbrev group : Group
group = record { id = 2; hints = 1 ∷ [] }

other_is_no_candidate : (id : ℕ) → (id ≡ 2 → ⊥) → is_candidate (start two).live (pos 1) id ≡ false
other_is_no_candidate id other =
    ap (if_live (holds_negated (pos 1))) (clause_at-start two id)
    ∙ (elim (eq_by_cmp nat_cmp id 1)
    as (λ b. if_live (holds_negated (pos 1)) (cond b (Some (pos 1 ∷ pos 2 ∷ []))
    (cond (eq_by_cmp nat_cmp id 2) (Some (negsuc 0 ∷ pos 2 ∷ pos 3 ∷ [])) None)) ≡ false) [
      | true ↦ refl
      | false ↦ rw (unsigned_tied id 2, ne_eqb id 2 other)
    ])

each_settled : (id : ℕ) → is_settled (start two).live (literals_of (pos 1 ∷ [])) (pos 1) (group ∷ []) id ≡ true
each_settled id =
    elim (cases_eq id 2) [
      | inl same ↦ or_right _ _ (or_left _ _ (eq-eqb 2 id (sym same)))
      | inr other ↦ or_left _ _ (or_left _ _ (ap not (other_is_no_candidate id other)))
    ]

group_good : groups_fault (start two).live (literals_of (pos 1 ∷ [])) (pos 1) (group ∷ []) ≡ None
group_good = rw (clause_at-start-within two 1 (omega arith), clause_at-start-within two 0 (omega arith))

pub resolvent_good : fault (start two) 3 (pos 1 ∷ []) [] (group ∷ []) ≡ None
resolvent_good =
    resolvents_fault-none (start two).live (literals_of (pos 1 ∷ [])) (pos 1) (group ∷ []) group_good
    (list_all_each (is_settled (start two).live (literals_of (pos 1 ∷ [])) (pos 1) (group ∷ []))
    (finmap.keys (start two).live) each_settled)

-- x1, and its negation
abbrev opposite : List (List ℤ)
opposite = (pos 1 ∷ []) ∷ (negsuc 0 ∷ []) ∷ []

opposite_closes : chain (start opposite).live (literals_of []) (1 ∷ 2 ∷ []) ≡ Closed
opposite_closes = rw (clause_at-start-within opposite 0 (omega arith), clause_at-start-within opposite 1 (omega arith))

pub opposite_refuted : Refutes opposite (codes "3 0 1 2 0\n")
opposite_refuted =
    let good : fault (start opposite) 3 [] (1 ∷ 2 ∷ []) [] ≡ None = fault-closes (start opposite) 3 [] (1 ∷ 2
    ∷ []) (omega arith) record { closed = opposite_closes } in
    record { verified = rw good }
