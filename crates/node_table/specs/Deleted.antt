-- The clauses that define nodes which aren't marked, and what deleting clauses leaves of a ledger.
use Rattle.std.specs.Prelude.{◌≡◌, ◌≢◌, ℕ, zero, suc, Bool, true, false, ℤ, nat_abs, List, [], ◌∷◌, ◌++◌, Option, None, Some, IsTrue}
use Rattle.std.specs.Prelude.{Contains}
use Rattle.std.specs.List.{concat, list_any}
use Rattle.std.specs.Option.{option_to_list}
use Rattle.std.specs.Ordering.{int_eq}
use Rattle.cnf_base.specs.declared.step.Step.{Step}
use Rattle.lrat_rules.specs.State.{State, Live, clause_at, without_clauses}
use Rattle.clause_ledger.specs.Book.{AreTold, Book, deletion}
use Rattle.node_table.specs.declared.node.Branch.{Branch}
use Rattle.node_table.specs.declared.node.Defs.{Defs}
use Rattle.node_table.specs.Diagram.{Graph, branch_at}
use Rattle.node_table.specs.Defined.{defs_of, is_defined_by}
use Rattle.node_table.specs.Made.{inner}
use Rattle.node_table.specs.Marks.{is_marked}
use Rattle.node_table.specs.Tied.{IsAdded}

-- the clause defines a node
pub record Defines (graph : Graph) (id : ℕ) : Type 0 where
  pub key : ℕ
  pub branch : Branch
  pub stands : branch_at graph key ≡ Some branch
  pub defines : IsTrue (is_defined_by (defs_of branch) id)

-- the clause defines a node that isn't marked
pub record DefinesUnmarked (graph : Graph) (marks : List Bool) (id : ℕ) : Type 0 where
  pub key : ℕ
  pub branch : Branch
  pub stands : branch_at graph key ≡ Some branch
  pub unmarked : is_marked marks (inner key) ≡ false
  pub defines : IsTrue (is_defined_by (defs_of branch) id)

-- no literal is of an unmarked node's extension variable
abbrev pub IsClear : Graph → List Bool → List ℤ → Type 0
IsClear graph marks clause =
    (literal : ℤ) → IsTrue (list_any (int_eq literal) clause) → (key : ℕ) (branch : Branch) → branch_at graph key ≡ Some branch
    → is_marked marks (inner key) ≡ false → nat_abs literal ≢ branch.variable

-- All clauses that were added beside the definitions of nodes, over a formula of so many clauses, are clear of these. A sweep asks this
-- of its caller: that the other clauses are clear is the table's own matter.
abbrev pub AreClear : Graph → List Bool → Live → ℕ → Type 0
AreClear graph marks live inputs = (id : ℕ) (clause : List ℤ) → clause_at live id ≡ Some clause → IsAdded graph live inputs id
    → IsClear graph marks clause

-- the numbers of a node's clauses, unless it is marked or there is none
abbrev pub unmarked_defs : Bool → Option Branch → Option Defs
unmarked_defs true _ = None
unmarked_defs false None = None
unmarked_defs false (Some branch) = Some (defs_of branch)

-- the numbers of a node's clauses behind others
abbrev pub with_given : List ℕ → Option ℕ → List ℕ
with_given ids given = ids ++ option_to_list given

abbrev pub with_defs : List ℕ → Defs → List ℕ
with_defs ids defs = with_given (with_given (with_given (with_given ids defs.hu) defs.lu) defs.hd) defs.ld

abbrev pub with_some_defs : List ℕ → Option Defs → List ℕ
with_some_defs ids None = ids
with_some_defs ids (Some defs) = with_defs ids defs

-- those of the nodes below a key that aren't marked
unfoldable pub unmarked_below : Graph → List Bool → ℕ → List ℕ
unmarked_below graph marks zero = []
unmarked_below graph marks (suc key) = with_some_defs (unmarked_below graph marks key)
    (unmarked_defs (is_marked marks (inner key)) (branch_at graph key))

-- the steps of deletions, one after another
abbrev pub deletion_steps : State → List (List ℕ) → List Step
deletion_steps state [] = []
deletion_steps state (ids ∷ more) = deletion state ids ++ deletion_steps state more

-- these numbers are those of clauses that define unmarked nodes
abbrev pub AreOfUnmarked : Graph → List Bool → List ℕ → Type 0
AreOfUnmarked graph marks ids = (id : ℕ) → Contains ids id → DefinesUnmarked graph marks id

-- Clauses of these numbers were deleted, by one line or several.
pub record Deletes {S : Type 0} (in_step : Bool) (old new : Book S) (ids : List ℕ) : Type 0 where
  pub state : new.state ≡ record { live = without_clauses old.state.live ids; top = old.state.top }
  pub spare : new.spare ≡ old.spare
  pub lines : List (List ℕ)
  pub all : concat lines ≡ ids
  pub told : AreTold in_step old new (deletion_steps old.state lines)

-- The same, but the write of the last line failed, which deletes some.
pub record DeletesTorn {S : Type 0} (old new : Book S) (ids : List ℕ) : Type 0 where
  pub deletes : Deletes false old new ids
  pub earlier : List (List ℕ)
  pub last : List ℕ
  pub parts : deletes.lines ≡ earlier ++ last ∷ []
  pub some : last ≢ []

-- Clauses that define unmarked nodes were deleted,
pub record DeletesUnmarked {S : Type 0} (old new : Book S) (graph : Graph) (marks : List Bool) : Type 0 where
  pub ids : List ℕ
  pub are : AreOfUnmarked graph marks ids
  pub deletes : Deletes true old new ids

-- or the write of the last line of this failed.
pub record TearsUnmarked {S : Type 0} (old new : Book S) (graph : Graph) (marks : List Bool) : Type 0 where
  pub ids : List ℕ
  pub are : AreOfUnmarked graph marks ids
  pub torn : DeletesTorn old new ids
