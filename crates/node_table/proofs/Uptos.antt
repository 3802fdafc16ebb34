-- The variables of what a proof adds: those of the formula and those of nodes, which are up to one.
use Rattle.std.proofs.Common.{◌≡◌, ◌≤◌, ◌++◌, ℕ, ℤ, List, [], ◌∷◌, Option, None, Some, refl, arith, inl, inr}
use Rattle.std.specs.Prelude.{nat_abs}
use Rattle.std.proofs.lemmas.Bool.{cases_lt}
use Rattle.cnf_base.specs.declared.step.Step.{Step}
use Rattle.lrat_rules.specs.State.{State}
use Rattle.clause_ledger.specs.Book.{deletion}
use Rattle.node_table.specs.Diagram.{Graph, levels}
use Rattle.node_table.specs.Defined.{Definition, definition_steps, step_of_some, with_some}
use Rattle.node_table.specs.Deleted.{deletion_steps}
use Rattle.node_table.specs.Tied.{AreUpTo, IsOverNodes, IsUpTo}
use Rattle.node_table.specs.Progress.{AreStepsUpTo}
use Rattle.node_table.proofs.Made.{AreDefinitionsOver}

pub up_to_append : (most : ℕ) (front back : List Step) → AreStepsUpTo most front → AreStepsUpTo most back → AreStepsUpTo most (front ++ back)
up_to_append most [] back first second = second
up_to_append most (step ∷ front) back first second = (first.0, up_to_append most front back first.1 second)

-- deletions add nothing
pub up_to_deletion : (most : ℕ) (state : State) (ids : List ℕ) → AreStepsUpTo most (deletion state ids)
up_to_deletion most state [] = tt
up_to_deletion most state (id ∷ ids) = (tt, tt)

pub up_to_deletions : (most : ℕ) (state : State) (lines : List (List ℕ)) → AreStepsUpTo most (deletion_steps state lines)
up_to_deletions most state [] = tt
up_to_deletions most state (ids ∷ lines) = up_to_append most (deletion state ids) (deletion_steps state lines)
    (up_to_deletion most state ids) (up_to_deletions most state lines)

module _ (graph : Graph) (most : ℕ) (few : levels graph ≤ most) (variables : AreUpTo most graph) where
  pub up_to_over : (clause : List ℤ) → IsOverNodes graph clause → IsUpTo most clause
  up_to_over clause over literal among = elim (cases_lt (levels graph) (nat_abs literal)) [
    | inl above ↦ let owned = over literal among above in
        omega (arith, variables owned.key owned.branch owned.stands, owned.own)
    | inr low ↦ omega (arith, low, few)
  ]

  up_to_some : (state : State) (o : Option (List ℤ)) (candidates : List ℕ) → ((clause : List ℤ) → o ≡ Some clause
      → IsOverNodes graph clause) → AreStepsUpTo most (step_of_some state o candidates)
  up_to_some state None candidates over = tt
  up_to_some state (Some clause) candidates over = (up_to_over clause (over clause refl), tt)

  pub up_to_definitions : (state : State) (all : List Definition) → AreDefinitionsOver graph all
      → AreStepsUpTo most (definition_steps state all)
  up_to_definitions state [] over = tt
  up_to_definitions state (d ∷ all) over = up_to_append most (step_of_some state d.clause d.candidates)
      (definition_steps (with_some state d.clause) all) (up_to_some state d.clause d.candidates over.0)
      (up_to_definitions (with_some state d.clause) all over.1)
