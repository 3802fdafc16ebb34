-- A node as a term: its function, and the live clause that proves it. (Bryant, Heule: Generating Extended Resolution
-- Proofs with a BDD-Based SAT Solver, 2021, section 5.)
use Rattle.std.specs.Prelude.{◌≡◌, ◌==◌, Bool, true, ℤ, pos, ℕ, List, [], ◌∷◌, Some, IsTrue}
use Rattle.std.specs.List.{position_or_len}
use Rattle.cnf_base.specs.Truth.{Assignment, clause_holds}
use Rattle.lrat_rules.specs.State.{Live, clause_at}
use Rattle.clause_ledger.specs.Book.{AreTold, addition}
use Rattle.hint_chain.specs.declared.unit.UnitPart.{UnitPart}
use Rattle.hint_chain.specs.Atoms.{clause_from_atoms}
use Rattle.hint_chain.specs.Units.{IsUnitPath}
use Rattle.node_table.specs.declared.node.Node.{Node}
use Rattle.node_table.specs.declared.node.Justification.{Justification}
use Rattle.node_table.specs.declared.node.Branch.{Branch}
use Rattle.node_table.specs.Diagram.{Graph, branch_of, is_node}
use Rattle.node_table.specs.Defined.{atom_of}
use Rattle.node_table.specs.Justification.{IsJustified}
use Rattle.node_table.specs.Table.{TableState}
use Rattle.node_table.specs.Value.{Levels, by_level, value_of}

-- A node that holds exactly where a function of the assignment does, and the live clause of its literal: none where the
-- node is True, the empty clause where it is False.
pub record IsTerm (graph : Graph) (live : Live) (holds : Assignment → Bool) (node : Node) (unit : Justification) : Type 0 where
  pub stands : IsTrue (is_node graph node)
  pub value : (a : Assignment) → value_of graph (by_level graph.order a) node ≡ holds a
  pub proved : IsJustified live (atom_of graph node ∷ []) unit

-- the assignment with these values by levels
abbrev pub by_variable : List ℕ → Levels → Assignment
by_variable order a variable = a (position_or_len (λ x. x == variable) order)

-- The function of a clause, by levels. What a refused call has made is stated by it: there is no node then whose function could be named.
abbrev pub clause_function : List ℕ → List ℤ → Levels → Bool
clause_function order clause a = clause_holds (by_variable order a) clause

-- the clause holds under each assignment
abbrev pub IsTautology : List ℤ → Type 0
IsTautology clause = (a : Assignment) → clause_holds a clause ≡ true

-- The unit of the node's literal follows, along this path, from the live clause of this number.
pub record HasUnitPath (graph : Graph) (live : Live) (node : Node) (path : List UnitPart) (input : ℕ) : Type 0 where
  pub branch : Branch
  pub nodes : List ℤ
  pub clause : List ℤ
  pub stands : branch_of graph node ≡ Some branch
  pub live_clause : clause_at live input ≡ Some clause
  pub unit : IsUnitPath live path (pos branch.variable ∷ nodes) clause

-- Exactly one step is told: it adds the clause of a node alone, with these hints.
pub record AddsUnit {S : Type 0} (old new : TableState S) (node : Node) (hints : List ℕ) : Type 0 where
  pub clause : List ℤ
  pub is : clause_from_atoms (atom_of old.graph node ∷ []) ≡ Some clause
  pub told : AreTold true old.book new.book (addition old.book.state clause hints ∷ [])
