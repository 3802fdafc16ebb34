-- The diagram of a clause: a node for each of its variables, from the top down. The literal's child is True, the other
-- one the next node, at last False. (Bryant, Heule: Generating Extended Resolution Proofs with a BDD-Based SAT Solver,
-- 2021, section 5.)
use Rattle.std.specs.Prelude.{◌≡◌, ◌⊎◌, ◌<◌, ◌≤◌, ℕ, ℤ, pos, nat_abs, List, [], ◌∷◌, map, Option, None, Some, IsTrue, if◌then◌else◌}
use Rattle.std.specs.List.{list_any}
use Rattle.std.specs.Ordering.{int_eq}
use Rattle.lrat_rules.specs.State.{Live}
use Rattle.hint_chain.specs.declared.unit.UnitPart.{UnitPart}
use Rattle.hint_chain.specs.Units.{IsUnitPath, path_literals}
use Rattle.node_table.specs.declared.node.Node.{Node}
use Rattle.node_table.specs.declared.node.Node.TheVariants.{False, True, Inner}
use Rattle.node_table.specs.declared.node.NodeKey.{NodeKey}
use Rattle.node_table.specs.declared.node.Branch.{Branch}
use Rattle.node_table.specs.Diagram.{Graph, branch_at, levels, variable_at}
use Rattle.node_table.specs.Defined.{defs_of}
use Rattle.node_table.specs.Value.{Levels, value_of}
use Rattle.clause_terms.specs.declared.placed.Placed.{Placed}
use Rattle.clause_terms.specs.Placed.{literal_at, placed_holds}

-- the children of a literal's node
abbrev pub high_of : Placed → Node → Node
high_of placed next = if placed.negative then next else True

abbrev pub low_of : Placed → Node → Node
low_of placed next = if placed.negative then True else next

-- the literal is of a variable of this level or a later one, or of a node's extension variable there
abbrev pub LiesFrom : Graph → ℕ → ℤ → Type 0
LiesFrom graph level literal =
    ((place : ℕ) × (level ≤ place) × (place < levels graph) × (variable_at graph place ≡ nat_abs literal))
    ⊎ ((key : ℕ) × (branch : Branch) × (branch_at graph key ≡ Some branch) × (level ≤ branch.level) × (branch.variable ≡ nat_abs literal))

-- the top node with its path: the unit of its literal follows from the clause of these literals
pub record IsTopNode (graph : Graph) (live : Live) (level : ℕ) (literals : List ℤ) (node : Node) (path : List UnitPart) : Type 0 where
  pub key : NodeKey
  pub branch : Branch
  pub nodes : List ℤ
  pub named : node ≡ Inner key
  pub stands : branch_at graph key.index ≡ Some branch
  pub of_level : branch.level ≡ level
  pub unit : IsUnitPath live path (pos branch.variable ∷ nodes) literals
  pub lies : (literal : ℤ) → IsTrue (list_any (int_eq literal) (path_literals path (pos branch.variable ∷ nodes)))
      → LiesFrom graph level literal

abbrev pub IsTop : Graph → Live → List Placed → Node → List UnitPart → Type 0
IsTop graph live [] node path = (node ≡ False) × (path ≡ [])
IsTop graph live (first ∷ more) node path = IsTopNode graph live first.level (map (literal_at graph) (first ∷ more)) node path

-- the literals are of later levels
abbrev pub IsBefore : ℕ → List Placed → Type 0
IsBefore level [] = Unit {0}
IsBefore level (first ∷ placed) = level < first.level

-- a literal with the numbers of the clauses up to its node
abbrev pub part_of : Graph → Placed → Option Branch → UnitPart
part_of graph placed None = record { lit = literal_at graph placed; hu = None; lu = None }
part_of graph placed (Some branch) = record { lit = literal_at graph placed; hu = (defs_of branch).hu; lu = (defs_of branch).lu }

-- the node holds where one of the literals does
pub record IsDiagramOf (graph : Graph) (live : Live) (placed : List Placed) (node : Node) (path : List UnitPart) : Type 0 where
  pub value : (a : Levels) → value_of graph a node ≡ list_any (placed_holds a) placed
  pub top : IsTop graph live placed node path
