-- The trail of a run: the quantified variables, each with the term that it was quantified from. Of the recent ones that is a node of
-- the table; of those before them, which are stored, it is a copy outside of it. (Järvisalo, Biere: Reconstructing Solutions
-- after Blocked Clause Elimination, 2010.)
use Rattle.std.specs.Prelude.{◌≡◌, ◌<◌, ◌≤◌, ◌++◌, ℕ, Bool, List, [], ◌∷◌, length, map, reverse, Contains, IsTrue}
use Rattle.cnf_base.specs.Truth.{Assignment, assignment_of}
use Rattle.cnf_base.specs.Formula.{Formula}
use Rattle.node_table.specs.declared.node.Node.{Node}
use Rattle.node_table.specs.Diagram.{Graph, is_node, levels}
use Rattle.node_table.specs.Value.{by_level, value_of}
use Rattle.clause_terms.specs.Recovery.{IsLeast}
use Rattle.reconstruction.specs.declared.cells.Cell.{Cell}
use Rattle.reconstruction.specs.declared.entries.Entry.{Entry}
use Rattle.reconstruction.specs.declared.entries.Kept.{Kept}
use Rattle.reconstruction.specs.Cells.{cell_value}
use Rattle.reconstruction.specs.Copies.{AreCopies}
use Rattle.reconstruction.specs.Entries.{later_kept, later_stored}
use Rattle.reconstruction.specs.SetsBack.{holds_by}
use Rattle.reconstruction.specs.Stack.{Stack}
use Rattle.schedule_plan.specs.Plan.{Term, term_holds}
use Rattle.term_runner.specs.Recovered.{set_all_back}

-- A quantified variable, where these entries and these pairs stand before it, the last one first: its node has the function of the
-- term that it was quantified from, alone or as one of a set, and its own term is true where some values of the set's later variables
-- make that one true.
pub record IsKept (formula : Formula) (graph : Graph) (older : List Kept) (trail : List (ℕ × Term)) (kept : Kept)
    (quantified : ℕ × Term) : Type 0 where
  pub variable : kept.variable ≡ quantified.0
  pub within : kept.later ≤ length older
  pub stands : IsTrue (is_node graph kept.node)
  pub whole : Term
  pub there : Contains (map (λ pair. pair.1) (quantified ∷ trail)) whole
  pub value : (a : Assignment) → value_of graph (by_level graph.order a) kept.node ≡ term_holds formula a whole
  pub by : (a : Assignment) → holds_by (λ b. term_holds formula b whole) (later_kept older kept) a ≡ term_holds formula a quantified.1

-- those of a trail, the last quantified variable first
abbrev pub AreKept : Formula → Graph → List Kept → List (ℕ × Term) → Type 0
AreKept formula graph [] [] = Unit {0}
AreKept formula graph [] (quantified ∷ trail) = ⊥
AreKept formula graph (kept ∷ older) [] = ⊥
AreKept formula graph (kept ∷ older) (quantified ∷ trail) =
    IsKept formula graph older trail kept quantified × AreKept formula graph older trail

-- a quantified variable, with a cell from which its term comes in the same way
pub record IsCopied (formula : Formula) (cells : List Cell) (older : List Entry) (entry : Entry) (quantified : ℕ × Term) : Type 0 where
  pub variable : entry.variable ≡ quantified.0
  pub within : entry.later ≤ length older
  pub value : (a : Assignment)
      → holds_by (λ b. cell_value cells b entry.key) (later_stored older entry) a ≡ term_holds formula a quantified.1

-- those of stored entries, the last quantified variable first
abbrev pub AreCopied : Formula → List Cell → List Entry → List (ℕ × Term) → Type 0
AreCopied formula cells [] [] = Unit {0}
AreCopied formula cells [] (quantified ∷ trail) = ⊥
AreCopied formula cells (entry ∷ older) [] = ⊥
AreCopied formula cells (entry ∷ older) (quantified ∷ trail) =
    IsCopied formula cells older entry quantified × AreCopied formula cells older trail

-- The quantified variables, the last one first: the recent ones are kept with nodes, those before them with cells.
pub record IsTrail (formula : Formula) (graph : Graph) (trail : Stack) (quantified : List (ℕ × Term)) : Type 0 where
  pub recent : List (ℕ × Term)
  pub stored : List (ℕ × Term)
  pub all : quantified ≡ recent ++ stored
  pub kept : AreKept formula graph (reverse trail.recent) recent
  pub copied : AreCopied formula trail.cells (reverse trail.stored) stored
  pub copies : AreCopies graph trail.cells trail.copies

-- the quantified variables are some of the formula's
abbrev pub AreVariables : Formula → List (ℕ × Term) → Type 0
AreVariables formula [] = Unit {0}
AreVariables formula (quantified ∷ trail) = (0 < quantified.0) × (quantified.0 ≤ formula.vars) × AreVariables formula trail

-- One value for each variable: those of the least assignment that makes a node true, and behind it the quantified variables, set
-- back one after another.
pub record IsRecoveredBy (formula : Formula) (graph : Graph) (node : Node) (trail : List (ℕ × Term)) (values : List Bool) : Type 0 where
  pub one_each : length values ≡ levels graph
  pub first : Assignment
  pub least : IsLeast (levels graph) (λ a. value_of graph a node) (by_level graph.order first)
  pub recovered : (variable : ℕ) → 0 < variable → assignment_of values variable ≡ set_all_back formula first trail variable
