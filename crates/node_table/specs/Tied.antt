-- What nodes and live clauses have to do with each other. (Bryant, Heule: Generating Extended Resolution Proofs with a
-- BDD-Based SAT Solver, 2021, section 4.)
use Rattle.std.specs.Prelude.{◌≡◌, ◌⊎◌, ℕ, ◌<◌, ◌≤◌, ℤ, nat_abs, nat_eq, List, Some, Contains, IsTrue, IsFalse, is_some}
use Rattle.std.specs.List.{list_any, IsDistinct}
use Rattle.std.specs.Ordering.{int_eq}
use Rattle.lrat_rules.specs.State.{State, Live, clause_at}
use Rattle.node_table.specs.declared.node.Branch.{Branch}
use Rattle.node_table.specs.Diagram.{Graph, IsReduced, IsOrder, branch_at, levels}
use Rattle.node_table.specs.Defined.{IsDefined, defs_of, is_defined_by}

-- an extension variable is that of a node
pub record IsOwned (graph : Graph) (variable : ℕ) : Type 0 where
  pub key : ℕ
  pub branch : Branch
  pub stands : branch_at graph key ≡ Some branch
  pub own : branch.variable ≡ variable

-- each extension variable of a clause is that of a node
abbrev pub IsOverNodes : Graph → List ℤ → Type 0
IsOverNodes graph clause = (literal : ℤ) → IsTrue (list_any (int_eq literal) clause) → levels graph < nat_abs literal
    → IsOwned graph (nat_abs literal)

-- The nodes are reduced and ordered, the clauses that define each are live, and no live clause holds an extension
-- variable that isn't a node's. Live clauses are numbered from 1 to the greatest number.
pub record IsTied (graph : Graph) (state : State) : Type 0 where
  pub reduced : IsReduced graph
  pub ordered : IsOrder graph.order
  pub defined : (key : ℕ) (branch : Branch) → branch_at graph key ≡ Some branch → IsDefined state.live graph branch
  pub over_nodes : (id : ℕ) (clause : List ℤ) → clause_at state.live id ≡ Some clause → IsOverNodes graph clause
  pub numbers : (id : ℕ) (clause : List ℤ) → clause_at state.live id ≡ Some clause → (0 < id) × (id ≤ state.top)

-- live clauses stay as they are
abbrev pub KeepsClauses : Live → Live → Type 0
KeepsClauses old new = (id : ℕ) (clause : List ℤ) → clause_at old id ≡ Some clause → clause_at new id ≡ Some clause

-- the numbers from the greatest before on are those of new clauses, each once
pub record GivesNumbers (old new : State) : Type 0 where
  pub no_less : old.top ≤ new.top
  pub next : (id : ℕ) → IsTrue (is_some (clause_at new.live id)) → IsTrue (is_some (clause_at old.live id)) ⊎ (old.top < id)
  pub each : (id : ℕ) → old.top < id → id ≤ new.top → IsTrue (is_some (clause_at new.live id))

-- no variable of the clause is above this one
abbrev pub IsUpTo : ℕ → List ℤ → Type 0
IsUpTo most clause = (literal : ℤ) → IsTrue (list_any (int_eq literal) clause) → nat_abs literal ≤ most

-- the clauses of a formula that has so many hold its variables alone
abbrev pub HoldFormula : Graph → Live → ℕ → Type 0
HoldFormula graph live inputs = (id : ℕ) (clause : List ℤ) → clause_at live id ≡ Some clause → id ≤ inputs → IsUpTo (levels graph) clause

-- no extension variable is above this one
abbrev pub AreUpTo : ℕ → Graph → Type 0
AreUpTo most graph = (key : ℕ) (branch : Branch) → branch_at graph key ≡ Some branch → branch.variable ≤ most

-- A clause that was added beside the definitions of nodes, over a formula of so many clauses: it is live, its number is
-- above those of the formula, and it defines no node. Such a clause may be retired.
pub record IsAdded (graph : Graph) (live : Live) (inputs id : ℕ) : Type 0 where
  pub stands : IsTrue (is_some (clause_at live id))
  pub above : inputs < id
  pub defines_none : (key : ℕ) (branch : Branch) → branch_at graph key ≡ Some branch → IsFalse (is_defined_by (defs_of branch) id)

-- Retired clauses were added, each once.
pub record AreRetired (graph : Graph) (live : Live) (inputs : ℕ) (retired : List ℕ) : Type 0 where
  pub each : (id : ℕ) → Contains retired id → IsAdded graph live inputs id
  pub once : IsDistinct nat_eq retired
