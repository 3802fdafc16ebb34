-- The list of retired clauses: none, one more, and as the table grows.
use Rattle.std.proofs.Common.{◌≡◌, ◌++◌, ℕ, zero, suc, List, [], ◌∷◌, Contains, true, false, refl, subst, sym, arith, inl, inr}
use Rattle.std.specs.Prelude.{nat_eq}
use Rattle.std.specs.Cmp.{nat_eq_equiv}
use Rattle.std.specs.List.{IsDistinct}
use Rattle.std.specs.Set.{is_member}
use Rattle.std.proofs.lemmas.Map.Keys.{IsDistinct-push}
use Rattle.std.proofs.lemmas.Map.Views.{Contains-from_any, exact_unsigned_eq}
use Rattle.std.proofs.lemmas.List.Elements.{Contains-append_cases}
use Rattle.lrat_rules.specs.State.{State, Live}
use Rattle.node_table.specs.Diagram.{Graph, KeepsNodes}
use Rattle.node_table.specs.Tied.{IsTied, IsAdded, AreRetired, KeepsClauses}
use Rattle.node_table.proofs.Added.{added_kept}

in_none : (id : ℕ) → Contains [] id → ⊥
in_none id among = absurd (omega (arith, among.1))

pub AreRetired-none : (graph : Graph) (live : Live) (inputs : ℕ) → AreRetired graph live inputs []
unfolding IsDistinct
AreRetired-none graph live inputs = record { each = λ id among. absurd (in_none id among); once = tt }

pub AreRetired-kept : (graph later : Graph) (old new : State) → IsTied graph old → IsTied later new → KeepsNodes graph later
    → KeepsClauses old.live new.live → (inputs : ℕ) (retired : List ℕ)
    → AreRetired graph old.live inputs retired → AreRetired later new.live inputs retired
AreRetired-kept graph later old new tied still nodes clauses inputs retired are = record {
  each = λ id among. added_kept graph later old new tied still nodes clauses inputs id (are.each id among);
  once = are.once;
}

-- what a list has not
pub not_member : (ids : List ℕ) (id : ℕ) → (Contains ids id → ⊥) → is_member nat_eq ids id ≡ false
not_member ids id none =
    elim (is_member nat_eq ids id) as (λ b. is_member nat_eq ids id ≡ b → b ≡ false) [
      | false ↦ λ _. refl
      | true ↦ λ is. absurd (none (Contains-from_any exact_unsigned_eq id ids is))
    ] refl

in_one : (id other : ℕ) → Contains (id ∷ []) other → other ≡ id
in_one id other (zero, small, is) = sym is
in_one id other (suc k, small, is) = absurd (omega (arith, small))

pub AreRetired-push : (graph : Graph) (live : Live) (inputs : ℕ) (retired : List ℕ) (id : ℕ) → AreRetired graph live inputs retired
    → IsAdded graph live inputs id → (Contains retired id → ⊥)
    → AreRetired graph live inputs (retired ++ id ∷ [])
AreRetired-push graph live inputs retired id are own unretired = record {
  each = λ other among. elim (Contains-append_cases retired (id ∷ []) other among) [
    | inl there ↦ are.each other there
    | inr here ↦ subst (IsAdded graph live inputs) (sym (in_one id other here)) own
  ];
  once = IsDistinct-push nat_eq_equiv retired id are.once (not_member retired id unretired);
}
