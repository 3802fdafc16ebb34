-- What may be given back, and what is left once it was.
use Rattle.std.specs.Prelude.{◌≡◌, ◌⊎◌, ◌≤◌, ℕ, ℤ, List, [], Some, Contains, IsTrue, nat_abs}
use Rattle.std.specs.List.{list_any}
use Rattle.std.specs.Ordering.{int_eq}
use Rattle.lrat_rules.specs.State.{clause_at}
use Rattle.node_table.specs.declared.node.Node.{Node}
use Rattle.node_table.specs.declared.node.Branch.{Branch}
use Rattle.node_table.specs.Diagram.{Graph, branch_at}
use Rattle.node_table.specs.Made.{inner}
use Rattle.node_table.specs.Marks.{IsReached}
use Rattle.node_table.specs.Table.{TableState, IsAddedTo}
use Rattle.operations.specs.Entries.{Entry, Fits, IsAccounted, IsNamed}

-- the extension variables of a clause are those of nodes that the roots reach
abbrev pub IsOverReached : Graph → List Node → List ℤ → Type 0
IsOverReached graph roots clause = (literal : ℤ) → IsTrue (list_any (int_eq literal) clause) → (key : ℕ) (branch : Branch)
    → branch_at graph key ≡ Some branch
    → nat_abs literal ≡ branch.variable → IsReached graph roots (inner key)

-- Each clause that was added beside the definitions of nodes is retired or named by an entry, or its extension variables are
-- those of nodes that the roots reach.
abbrev pub MayReclaim : {S : Type 0} → TableState S → List Entry → List Node → Type 0
MayReclaim table entries roots = (id : ℕ) (clause : List ℤ) → clause_at table.book.state.live id ≡ Some clause → IsAddedTo table id
    → IsAccounted table entries id ⊎ IsOverReached table.graph roots clause

-- Exactly the nodes are left that the roots reach, as they were, and of the entries some, which fit them. No clause was
-- added. The formula's are left, and of those that were added all that weren't retired, nor named by an entry that went.
-- None is retired.
pub record Reclaims {S : Type 0} (old new : TableState S) (roots : List Node) (before after : List Entry) : Type 0 where
  pub order : new.graph.order ≡ old.graph.order
  pub nodes : (key : ℕ) (branch : Branch) → IsReached old.graph roots (inner key) → branch_at old.graph key ≡ Some branch
      → branch_at new.graph key ≡ Some branch
  pub only : (key : ℕ) (branch : Branch) → branch_at new.graph key ≡ Some branch → (branch_at old.graph key ≡ Some branch)
      × IsReached old.graph roots (inner key)
  pub fits : Fits new after
  pub fewer : (entry : Entry) → Contains after entry → Contains before entry
  pub clauses : (id : ℕ) (clause : List ℤ) → clause_at new.book.state.live id ≡ Some clause → clause_at old.book.state.live id ≡ Some clause
  pub formula : (id : ℕ) → id ≤ old.inputs → clause_at new.book.state.live id ≡ clause_at old.book.state.live id
  pub kept : (id : ℕ) → IsAddedTo old id → (IsAccounted old before id → ⊥) → clause_at new.book.state.live id
      ≡ clause_at old.book.state.live id
  pub added : (id : ℕ) → IsAddedTo new id → IsAddedTo old id × (IsAccounted old before id → IsNamed after id)
  pub retired : new.retired ≡ []
  pub inputs : new.inputs ≡ old.inputs
  pub top : new.book.state.top ≡ old.book.state.top
