-- The stacked terms stay where the retired clauses are deleted.
use Rattle.std.proofs.Common.{◌≡◌, ℕ, zero, List, [], ◌∷◌, Contains, refl, sym, subst, arith, inl}
use Rattle.cnf_base.specs.Formula.{Formula}
use Rattle.lrat_rules.specs.State.{clause_at}
use Rattle.node_table.specs.declared.node.Justification.TheVariants.{Clause}
use Rattle.node_table.specs.Diagram.{Graph}
use Rattle.node_table.specs.Defined.{atom_of}
use Rattle.node_table.specs.Table.{TableState, IsSound}
use Rattle.operations.specs.Entries.{Entry, Fitting}
use Rattle.schedule_plan.specs.Plan.{Term}
use Rattle.bdd_terms.specs.declared.held.HeldTerm.{HeldTerm}
use Rattle.term_runner.specs.Held.{AreHeld, IsHeld, IsReady}
use Rattle.bdd_terms.specs.Units.{OwnUnits}
use Rattle.bdd_terms.proofs.OwnUnits.{unit_settled, later, over_settled}

-- The retired clauses were deleted.
module _ {S : Type 0} (formula : Formula) (old new : TableState S) (kept : List Entry) (nodes : new.graph ≡ old.graph) (none : new.retired
    ≡ [])
    (stay : (id : ℕ) → (Contains old.retired id → ⊥) → clause_at new.book.state.live id ≡ clause_at old.book.state.live id) where
  one_settled : (held : HeldTerm) (term : Term) → IsHeld formula old.graph old.book.state.live held term
      → ((id : ℕ) → held.unit ≡ Clause id → Contains old.retired id → ⊥)
      → IsHeld formula old.graph new.book.state.live held term
  one_settled held term is own = record {
    is = record {
      stands = is.is.stands;
      value = is.is.value;
      proved = unit_settled formula old new kept nodes none stay
          (atom_of old.graph held.node) held.unit is.is.proved own;
    };
    not_false = is.not_false;
  }

  all_settled : (stack : List HeldTerm) (terms : List Term) → AreHeld formula old.graph old.book.state.live stack terms
      → ((held : HeldTerm) → Contains stack held → (id : ℕ) → held.unit ≡ Clause id → Contains old.retired id → ⊥)
      → AreHeld formula old.graph new.book.state.live stack terms
  all_settled [] [] are own = tt
  all_settled [] (term ∷ terms) are own = absurd are
  all_settled (held ∷ stack) [] are own = absurd are
  all_settled (held ∷ stack) (term ∷ terms) are own = (
    one_settled held term are.0 (λ id is gone. own held (zero, omega arith, refl) id is gone),
    all_settled stack terms are.1 (λ other there. own other (later held stack other there)),
  )

  pub held_settled : (stack : List HeldTerm) (terms : List Term) → OwnUnits old kept stack
      → AreHeld formula old.graph old.book.state.live stack terms → AreHeld formula new.graph new.book.state.live stack terms
  held_settled stack terms own are =
      subst (λ (graph : Graph). AreHeld formula graph new.book.state.live stack terms) (sym nodes)
      (all_settled stack terms are (λ held there id is gone. own held there id is (inl gone)))

  pub ready_settled : Fitting S → new.inputs ≡ old.inputs → IsSound new → IsReady formula old kept → IsReady formula new kept
  ready_settled fitting inputs sound ready = record {
    over = over_settled formula old new kept nodes none stay fitting inputs sound ready.over;
    none_empty = ready.none_empty;
  }
