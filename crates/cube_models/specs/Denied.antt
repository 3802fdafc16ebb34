-- Why no assignment makes a node true under a cube, as hints: nodes one behind the other, each of which is false since its open children
-- are. A node both of whose children are open needs its sum, the clause that one of its children is true where it is. (Hints as in
-- Cruz-Filipe, Heule, Hunt, Kaufmann, Schneider-Kamp: Efficient Certified RAT Verification, CADE 2017.)
use Rattle.std.specs.Prelude.{◌≡◌, ◌++◌, ℕ, Bool, true, false, ℤ, pos, neg_ℤ, List, [], ◌∷◌, Option, None, Some, Contains, ⊤}
use Rattle.std.specs.Prelude.{slice_index_or, if◌then◌else◌}
use Rattle.lrat_rules.specs.State.{Live, clause_at}
use Rattle.hint_chain.specs.declared.atom.Atom.{Atom}
use Rattle.hint_chain.specs.declared.atom.Atom.TheVariants.{Of}
use Rattle.hint_chain.specs.Atoms.{clause_from_atoms}
use Rattle.node_table.specs.declared.node.Node.{Node}
use Rattle.node_table.specs.declared.node.Node.TheVariants.{False, True, Inner}
use Rattle.node_table.specs.declared.node.Branch.{Branch}
use Rattle.node_table.specs.Defined.{atom_of, defs_of}
use Rattle.node_table.specs.Diagram.{Graph, branch_at}
use Rattle.cube_models.specs.Way.{allows, sign_at}

-- False, or the node of one of these keys
abbrev pub IsShutBy : List ℕ → Node → Type 0
IsShutBy keys False = ⊤
IsShutBy keys True = ⊥
IsShutBy keys (Inner key) = Contains keys key.index

-- The node of another key, whose children are shut by these keys where what is assumed leaves them open.
pub record IsDenied (graph : Graph) (signs : List (Option Bool)) (before : List ℕ) (key : ℕ) : Type 0 where
  pub branch : Branch
  pub stands : branch_at graph key ≡ Some branch
  pub high : allows (sign_at graph signs branch.level) true ≡ true → IsShutBy before branch.high
  pub low : allows (sign_at graph signs branch.level) false ≡ true → IsShutBy before branch.low
  pub new : Contains before key → ⊥

-- each of these keys in turn
abbrev pub AreDenied : Graph → List (Option Bool) → List ℕ → List ℕ → Type 0
AreDenied graph signs before [] = ⊤
AreDenied graph signs before (key ∷ keys) = IsDenied graph signs before key × AreDenied graph signs (before ++ key ∷ []) keys

-- the sum of a node, as atoms
abbrev pub sum_atoms : Graph → Branch → List Atom
sum_atoms graph branch = Of (neg_ℤ (pos branch.variable)) ∷ atom_of graph branch.high ∷ atom_of graph branch.low ∷ []

-- these are the numbers of sums, at the keys of their nodes
abbrev pub AreSums : Graph → Live → List ℕ → Type 0
AreSums graph live sums = (key : ℕ) (branch : Branch) (clause : List ℤ) → branch_at graph key ≡ Some branch
    → clause_from_atoms (sum_atoms graph branch) ≡ Some clause → clause_at live (slice_index_or sums key 0) ≡ Some clause

-- The hint that makes a node false: the clause from it down to the child that is left open, or its sum.
abbrev pub number_of : Option ℕ → ℕ
number_of None = 0
number_of (Some id) = id

abbrev pub hint_by : Option Bool → ℕ → Branch → ℕ
hint_by None sum branch = sum
hint_by (Some assumed) sum branch = if assumed then number_of (defs_of branch).hd else number_of (defs_of branch).ld

abbrev pub hint_in : Graph → List (Option Bool) → ℕ → Option Branch → ℕ
hint_in graph signs sum None = 0
hint_in graph signs sum (Some branch) = hint_by (sign_at graph signs branch.level) sum branch

abbrev pub hint_at : Graph → List (Option Bool) → List ℕ → ℕ → ℕ
hint_at graph signs sums key = hint_in graph signs (slice_index_or sums key 0) (branch_at graph key)
