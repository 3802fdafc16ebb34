-- A run between two moves: the table is ready, and its stack holds the plan's terms.
use Rattle.std.specs.Prelude.{◌≡◌, ◌≢◌, ℕ, Bool, true, List, [], ◌∷◌, length, Result, Ok, Err, Contains, IsFalse, reverse, drop, None}
use Rattle.cnf_base.specs.Formula.{Formula}
use Rattle.lrat_rules.specs.State.{Live}
use Rattle.node_table.specs.declared.error.TableError.{TableError}
use Rattle.node_table.specs.declared.error.TableError.TheVariants.{WriteFault}
use Rattle.node_table.specs.declared.node.Node.{Node}
use Rattle.node_table.specs.declared.node.Node.TheVariants.{False, True}
use Rattle.node_table.specs.Diagram.{Graph}
use Rattle.node_table.specs.Table.{TableState, AddsNoEmpty, IsAddedTo}
use Rattle.node_table.specs.Progress.{Steps}
use Rattle.operations.specs.Entries.{Entry}
use Rattle.reconstruction.specs.Stack.{Stack}
use Rattle.clause_terms.specs.Term.{IsTerm}
use Rattle.schedule_plan.specs.Plan.{Stage, Term, term_holds}
use Rattle.bdd_terms.specs.declared.held.HeldTerm.{HeldTerm}
use Rattle.term_runner.specs.Clauses.{has_empty_clause}
use Rattle.term_runner.specs.Trail.{IsTrail}
use Rattle.bdd_terms.specs.Units.{IsUnitOf, UnitsApart, RetiresUnits}
use Rattle.bdd_terms.specs.OverFormula.{IsOver}

-- a stacked term's node and unit; its node isn't False
pub record IsHeld (formula : Formula) (graph : Graph) (live : Live) (held : HeldTerm) (term : Term) : Type 0 where
  pub is : IsTerm graph live (λ a. term_holds formula a term) held.node held.unit
  pub not_false : held.node ≢ False

-- those of all stacked terms, the last one first
abbrev pub AreHeld : Formula → Graph → Live → List HeldTerm → List Term → Type 0
AreHeld formula graph live [] [] = Unit {0}
AreHeld formula graph live [] (term ∷ terms) = ⊥
AreHeld formula graph live (held ∷ stack) [] = ⊥
AreHeld formula graph live (held ∷ stack) (term ∷ terms) = IsHeld formula graph live held term × AreHeld formula graph live stack terms

-- The stack and the trail of a run, whose last element is the plan's first, are those of this stage.
pub record IsAt (formula : Formula) (graph : Graph) (live : Live) (stack : List HeldTerm) (trail : Stack) (stage : Stage) : Type 0 where
  pub held : AreHeld formula graph live (reverse stack) stage.stack
  pub kept : IsTrail formula graph trail stage.trail

-- the last term's node; where there is no term, that of the empty conjunction
abbrev pub top_node : List HeldTerm → Node
top_node [] = True
top_node (held ∷ stack) = held.node

-- Unless a write failed, and where the move doesn't refute the formula, no empty clause came.
abbrev pub IsUnrefuted : {S : Type 0} → TableState S → TableState S → Result Bool TableError → Type 0
IsUnrefuted old new result = result ≢ Err WriteFault → result ≢ Ok true → AddsNoEmpty old new

-- The units of these terms were added, none of them is retired yet, and each is that of one term.
pub record MayGiveUp {S : Type 0} (table : TableState S) (operands : List HeldTerm) : Type 0 where
  pub added : (id : ℕ) → IsUnitOf operands id → IsAddedTo table id
  pub unretired : (id : ℕ) → IsUnitOf operands id → Contains table.retired id → ⊥
  pub apart : UnitsApart operands

-- A term whose node isn't False stands in the place of as many last ones as it has operands. The operands' units are retired, but
-- for one that is its own.
pub record IsPlaced {S : Type 0} (operands : List HeldTerm) (held : HeldTerm) (old new : TableState S) (before after : List HeldTerm) : Type 0 where
  pub some : held.node ≢ False
  pub out : reverse after ≡ held ∷ drop (length operands) (reverse before)
  pub retires : RetiresUnits old new operands held.unit
  pub steps : Steps old new 0 None

-- It is ready for a plan: none of the formula's clauses is empty.
pub record IsReady {S : Type 0} (formula : Formula) (table : TableState S) (kept : List Entry) : Type 0 where
  pub over : IsOver formula table kept
  pub none_empty : IsFalse (has_empty_clause formula.clauses)
