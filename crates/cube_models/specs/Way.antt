-- The way down from a node to True under a cube: low first. A child is closed where the cube says otherwise of the variable, and where it
-- is known that nothing makes it true under the cube.
use Rattle.std.specs.Prelude.{◌≡◌, ◌<◌, ◌≤◌, ◌-◌, ◌==◌, ◌&&◌, ℕ, Bool, true, false, not, ℤ, pos, neg_ℤ, List, [], ◌∷◌, ◌++◌, Option, None}
use Rattle.std.specs.Prelude.{Some}
use Rattle.std.specs.Prelude.{length, nat_abs, slice_index_or, if◌then◌else◌}
use Rattle.std.specs.Bool.{beq}
use Rattle.std.specs.Int.{is_negative}
use Rattle.std.specs.List.{list_any}
use Rattle.std.specs.Ordering.{int_eq}
use Rattle.cnf_base.specs.Cube.{cube_holds}
use Rattle.cnf_base.specs.Truth.{Assignment, assignment_of}
use Rattle.node_table.specs.declared.node.Node.{Node}
use Rattle.node_table.specs.declared.node.Node.TheVariants.{False, True, Inner}
use Rattle.node_table.specs.declared.node.Branch.{Branch}
use Rattle.node_table.specs.Diagram.{Graph, branch_at, is_node, levels, level_of, variable_at}
use Rattle.node_table.specs.Made.{inner}
use Rattle.node_table.specs.Value.{Levels, by_level, value_of}

-- what is assumed of a variable: a value, or nothing
abbrev pub sign_of : List (Option Bool) → ℕ → Option Bool
sign_of signs variable = slice_index_or signs (variable - 1) None

abbrev pub allows : Option Bool → Bool → Bool
allows None value = true
allows (Some assumed) value = beq assumed value

abbrev pub is_on : Option Bool → Bool
is_on None = false
is_on (Some assumed) = assumed

-- of the variable of a level
abbrev pub sign_at : Graph → List (Option Bool) → ℕ → Option Bool
sign_at graph signs level = sign_of signs (variable_at graph level)

-- values that are as assumed
abbrev pub Agrees : Graph → List (Option Bool) → Levels → Type 0
Agrees graph signs a = (level : ℕ) → level < levels graph → allows (sign_at graph signs level) (a level) ≡ true

-- the literal of a variable that has this value
abbrev pub literal_with : ℕ → Bool → ℤ
literal_with variable true = pos variable
literal_with variable false = neg_ℤ (pos variable)

-- Exactly what a cube says is assumed, of which this many first literals were read.
pub record Assumes (vars : ℕ) (cube : List ℤ) (count : ℕ) (signs : List (Option Bool)) : Type 0 where
  pub one_each : length signs ≡ vars
  pub given : (a : Assignment) → cube_holds a cube ≡ true → (variable : ℕ) → 0 < variable → allows (sign_of signs variable) (a variable)
      ≡ true
  pub said : (i : ℕ) (d : ℤ) → i < count
      → sign_of signs (nat_abs (slice_index_or cube i d)) ≡ Some (not (is_negative (slice_index_or cube i d)))
  pub only : (variable : ℕ) (value : Bool) → 0 < variable → sign_of signs variable ≡ Some value
      → list_any (int_eq (literal_with variable value)) cube ≡ true

-- nothing makes the node true under what is assumed
abbrev pub IsDead : Graph → List (Option Bool) → Node → Type 0
IsDead graph signs node = (a : Levels) → Agrees graph signs a → value_of graph a node ≡ false

-- whether that is known: of False, and of nodes that are marked with this round
abbrev pub is_marked : List ℕ → ℕ → Node → Bool
is_marked marks round False = true
is_marked marks round True = false
is_marked marks round (Inner key) = slice_index_or marks key.index 0 == round

-- which child is next: the low one, unless it is closed, then the high one
abbrev pub is_open : (Node → Bool) → Option Bool → Bool → Node → Bool
is_open marked sign value child = allows sign value && not (marked child)

abbrev pub next_of : (Node → Bool) → (ℕ → Option Bool) → Branch → Option Node
next_of marked sign branch = if is_open marked (sign branch.level) false branch.low then Some branch.low
    else (if is_open marked (sign branch.level) true branch.high then Some branch.high else None)

abbrev pub next_in : Graph → List (Option Bool) → List ℕ → ℕ → Branch → Option Node
next_in graph signs marks round = next_of (is_marked marks round) (sign_at graph signs)

-- one step down from the node of this key
pub record IsStep (graph : Graph) (next : Branch → Option Node) (node : Node) (key : ℕ) (child : Node) : Type 0 where
  pub branch : Branch
  pub named : node ≡ inner key
  pub stands : branch_at graph key ≡ Some branch
  pub goes : next branch ≡ Some child

-- the way from a node by the nodes of these keys to another one
abbrev pub Leads : Graph → (Branch → Option Node) → Node → List ℕ → Node → Type 0
Leads graph next node [] end = node ≡ end
Leads graph next node (key ∷ keys) end = (child : Node) × (IsStep graph next node key child × Leads graph next child keys end)

-- Each node has a mark, and those that are marked with this round are dead.
pub record AreMarks (graph : Graph) (signs : List (Option Bool)) (round : ℕ) (marks : List ℕ) : Type 0 where
  pub room : (key : ℕ) (branch : Branch) → branch_at graph key ≡ Some branch → key < length marks
  pub dead : (node : Node) → is_node graph node ≡ true → is_marked marks round node ≡ true → IsDead graph signs node

-- In a search from a node the way leads to the node of the last key. Without a key there is none.
pub record IsSearch (graph : Graph) (signs : List (Option Bool)) (round : ℕ) (first : Node) (marks path : List ℕ) : Type 0 where
  pub known : AreMarks graph signs round marks
  pub way : (front : List ℕ) (key : ℕ) → path ≡ front ++ key ∷ [] → Leads graph (next_in graph signs marks round) first front (inner key)
  pub unmarked : (front : List ℕ) (key : ℕ) → path ≡ front ++ key ∷ [] → is_marked marks round first ≡ false
  pub failed : path ≡ [] → IsDead graph signs first

-- On the way down, with the values so far: those above the current node lead to it, none that makes the first node true has false where
-- they are true, and those below are as assumed, else false.
pub record IsDown (graph : Graph) (signs : List (Option Bool)) (a : Levels) (first node : Node) : Type 0 where
  pub stands : is_node graph node ≡ true
  pub agrees : Agrees graph signs a
  pub leads : (b : Levels) → ((i : ℕ) → i < level_of graph node → b i ≡ a i) → value_of graph b first ≡ value_of graph b node
  pub least : (other : Levels) → Agrees graph signs other → value_of graph other first ≡ true → (level : ℕ) → level < level_of graph node
      → ((i : ℕ) → i < level → other i ≡ a i) → a level ≡ true → other level ≡ true
  pub rest : (i : ℕ) → level_of graph node ≤ i → i < levels graph → a i ≡ is_on (sign_at graph signs i)

-- the values by levels
abbrev pub levels_of : Graph → List Bool → Levels
levels_of graph values = by_level graph.order (assignment_of values)
