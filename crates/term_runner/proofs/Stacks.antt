-- The stacked terms, as nodes and clauses are added and moves are taken.
use Rattle.std.proofs.Common.{◌≡◌, ◌≢◌, ℕ, suc, ◌<◌, ◌≤◌, Bool, true, false, ◌&&◌, List, [], ◌∷◌, length, reverse, Some, refl, sym, ap, ◌∙◌}
use Rattle.std.proofs.Common.{subst, arith}
use Rattle.cnf_base.specs.Truth.{Assignment}
use Rattle.cnf_base.specs.Formula.{Formula}
use Rattle.lrat_rules.specs.State.{Live, clause_at}
use Rattle.node_table.specs.declared.node.Node.{Node}
use Rattle.node_table.specs.declared.node.Node.TheVariants.{False}
use Rattle.node_table.specs.declared.node.Justification.{Justification}
use Rattle.node_table.specs.declared.node.Justification.TheVariants.{Trivial, Clause}
use Rattle.node_table.specs.Diagram.{Graph, IsReduced, KeepsNodes, is_node}
use Rattle.node_table.specs.Value.{by_level, value_of}
use Rattle.node_table.specs.Defined.{atom_of}
use Rattle.node_table.specs.Tied.{KeepsClauses}
use Rattle.node_table.specs.Justification.{IsJustified}
use Rattle.node_table.specs.Table.{TableState, IsSound, Extends}
use Rattle.node_table.specs.Laws.{Growth}
use Rattle.operations.specs.Entries.{Entry, Fits}
use Rattle.schedule_plan.specs.Plan.{Term, term_holds}
use Rattle.bdd_terms.specs.declared.held.HeldTerm.{HeldTerm}
use Rattle.term_runner.specs.Held.{AreHeld, IsReady, top_node}
use Rattle.term_runner.specs.Recovered.{stack_holds}
use Rattle.bdd_terms.proofs.StayingTerms.{term_kept, over_after}

-- what stays as nodes and clauses are added
module _ (growth : Growth) (old new : Graph) (reduced : IsReduced old) (keeps : KeepsNodes old new) (live more : Live)
    (clauses : KeepsClauses live more) where
  pub held_kept : (formula : Formula) (stack : List HeldTerm) (terms : List Term) → AreHeld formula old live stack terms
      → AreHeld formula new more stack terms
  held_kept formula [] [] are = tt
  held_kept formula [] (term ∷ terms) are = absurd are
  held_kept formula (held ∷ stack) [] are = absurd are
  held_kept formula (held ∷ stack) (term ∷ terms) are = (
    record { is = term_kept growth old new reduced keeps live more clauses (λ a. term_holds formula a term) held.node held.unit are.0.is; not_false = are.0.not_false },
    held_kept formula stack terms are.1,
  )

-- the stack's last element is the plan's first
module _ (formula : Formula) (graph : Graph) (live : Live) where
  pub none_empty : (old : List HeldTerm) → old ≡ [] → (term : Term) (terms : List Term)
      → AreHeld formula graph live (reverse old) (term ∷ terms) → ⊥
  none_empty old is term terms are = subst (λ (s : List HeldTerm). AreHeld formula graph live s (term ∷ terms)) (ap reverse is) are

-- the unit of False is the empty clause
pub false_refutes : (graph : Graph) (live : Live) (node : Node) (unit : Justification) → node ≡ False
    → IsJustified live (atom_of graph node ∷ []) unit → (id : ℕ) × (clause_at live id ≡ Some [])
false_refutes graph live node unit is proved = go unit (subst (λ (n : Node). IsJustified live (atom_of graph n ∷ []) unit) is proved)
  where
    go : (unit : Justification) → IsJustified live (atom_of graph False ∷ []) unit → (id : ℕ) × (clause_at live id ≡ Some [])
    go Trivial e = absurd (let f : false ≡ true = e in cc)
    go (Clause id) e = (id, e.1)

-- and ready for a plan
pub ready_after : {S : Type 0} (formula : Formula) (old new : TableState S) (kept more : List Entry) → IsReady formula old kept
    → IsSound new → Extends old new → Fits new more → IsReady formula new more
ready_after formula old new kept more ready sound extends fits = record {
  over = over_after formula old new kept more ready.over sound extends fits;
  none_empty = ready.none_empty;
}

-- the last term's node says what the stack says, where one term is left at most
pub top_value : (formula : Formula) (graph : Graph) (live : Live) (stack : List HeldTerm) (terms : List Term)
    → AreHeld formula graph live stack terms → length terms ≤ 1
    → (a : Assignment) → value_of graph (by_level graph.order a) (top_node stack) ≡ stack_holds formula a terms
top_value formula graph live [] [] are few a = refl
top_value formula graph live [] (term ∷ terms) are few a = absurd are
top_value formula graph live (held ∷ stack) [] are few a = absurd are
top_value formula graph live (held ∷ stack) (term ∷ []) are few a = are.0.is.value a ∙ sym (and_true (term_holds formula a term))
  where
    and_true : (b : Bool) → (b && true) ≡ b
    and_true true = refl
    and_true false = refl
top_value formula graph live (held ∷ stack) (term ∷ next ∷ terms) are few a = absurd (omega (arith, few))

pub top_stands : (formula : Formula) (graph : Graph) (live : Live) (stack : List HeldTerm) (terms : List Term)
    → AreHeld formula graph live stack terms
    → (is_node graph (top_node stack) ≡ true) × (top_node stack ≢ False)
top_stands formula graph live [] [] are = (refl, λ e. cc)
top_stands formula graph live [] (term ∷ terms) are = absurd are
top_stands formula graph live (held ∷ stack) [] are = absurd are
top_stands formula graph live (held ∷ stack) (term ∷ terms) are = (are.0.is.stands, are.0.not_false)

-- terms on the stack, though it is empty
pub none_left : (formula : Formula) (graph : Graph) (live : Live) (old : List HeldTerm) → length old ≡ 0 → (term : Term) (terms : List Term)
    → AreHeld formula graph live (reverse old) (term ∷ terms) → ⊥
none_left formula graph live [] none term terms are = are
none_left formula graph live (held ∷ old) none term terms are = let e : suc (length old) ≡ 0 = none in cc

-- and two, though one is left at most
pub few_left : (formula : Formula) (graph : Graph) (live : Live) (old : List HeldTerm) → length old < 2
    → (one other : Term) (terms : List Term) → AreHeld formula graph live (reverse old) (other ∷ one ∷ terms) → ⊥
few_left formula graph live [] few one other terms are = are
few_left formula graph live (held ∷ []) few one other terms are = are.1
few_left formula graph live (held ∷ next ∷ old) few one other terms are = absurd (omega (arith, few))
