-- A unit that is retired unless it is kept.
use Rattle.std.proofs.Common.{◌≡◌, ◌⊎◌, ◌∙◌, ℕ, List, Contains, Option, None, Some, sym, ap, subst, inl, inr}
use Rattle.std.specs.Prelude.{MatchOption}
use Rattle.std.proofs.lemmas.List.Elements.{Contains-append_left}
use Rattle.node_table.specs.declared.node.Justification.{Justification}
use Rattle.node_table.specs.declared.node.Justification.TheVariants.{Clause}
use Rattle.node_table.specs.Table.{TableState}
use Rattle.operations.specs.Accounts.{RetiresOne}
use Rattle.bdd_terms.specs.Units.{RetiresBut}

-- the clause of a unit, unless it is that of the one that is kept
abbrev pub IsGivenUp : Justification → Justification → Option ℕ → Type 0
IsGivenUp unit kept given = MatchOption given ((id : ℕ) → unit ≡ Clause id → kept ≡ Clause id) (λ id. (unit ≡ Clause id)
    × (kept ≡ Clause id → ⊥))

same_some : (id other : ℕ) → ◌≡◌ {A = Option ℕ} (Some id) (Some other) → id ≡ other
same_some id other is = cc

no_some : (id : ℕ) → ◌≡◌ {A = Option ℕ} None (Some id) → ⊥
no_some id is = cc

pub given_clause : (unit kept : Justification) (given : Option ℕ) → IsGivenUp unit kept given → (id : ℕ) → given ≡ Some id → (unit ≡ Clause id)
    × (kept ≡ Clause id → ⊥)
given_clause unit kept None up id is = absurd (no_some id is)
given_clause unit kept (Some other) up id is = subst (λ (n : ℕ). (unit ≡ Clause n) × (kept ≡ Clause n → ⊥)) (same_some other id is) up

same_clause : (id other : ℕ) → Clause id ≡ Clause other → id ≡ other
same_clause id other is = cc

given_or_kept : (unit kept : Justification) (given : Option ℕ) → IsGivenUp unit kept given → (id : ℕ) → unit ≡ Clause id → (given ≡ Some id)
    ⊎ (kept ≡ Clause id)
given_or_kept unit kept None up id is = inr (up id is)
given_or_kept unit kept (Some other) up id is = inl (ap Some (same_clause other id (sym up.0 ∙ is)))

pub retired_but : {S : Type 0} (old new : TableState S) (unit kept : Justification) (given : Option ℕ)
    → IsGivenUp unit kept given → RetiresOne old new given
    → RetiresBut old new unit kept
retired_but old new unit kept given up one = record {
  same = one.same;
  still = λ id there. subst (λ (ids : List ℕ). Contains ids id) (sym one.steps.extends.retired)
      (Contains-append_left old.retired one.steps.extends.more id there);
  only = λ id there. elim (one.only id there) [
    | inl was ↦ inl was
    | inr is ↦ inr (given_clause unit kept given up id is)
  ];
  gone = λ id is. elim (given_or_kept unit kept given up id is) [
    | inl gave ↦ inl (one.retired id gave)
    | inr own ↦ inr own
  ];
}
