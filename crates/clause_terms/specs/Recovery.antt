-- The assignment that is recovered from a diagram: of those that make it true the least, the variables compared in the
-- order and false before true. Then each quantified variable is set back, from the last one to the first. (Bryant:
-- Graph-Based Algorithms for Boolean Function Manipulation, 1986, section 4.6; Bryant, Heule: Generating Extended Resolution
-- Proofs with a BDD-Based SAT Solver, 2021, section 5.)
use Rattle.std.specs.Prelude.{◌≡◌, ℕ, ◌<◌, Bool, true, false, not, List, [], ◌∷◌, length}
use Rattle.cnf_base.specs.Truth.{Assignment, assignment_of, with_value}
use Rattle.node_table.specs.declared.node.Node.{Node}
use Rattle.node_table.specs.Diagram.{Graph, levels}
use Rattle.node_table.specs.Value.{Levels, by_level, value_of}

-- It makes the function true. Each other one that does has true where it has, at the first place where they differ.
pub record IsLeast (levels : ℕ) (function : Levels → Bool) (a : Levels) : Type 0 where
  pub satisfies : function a ≡ true
  pub least : (other : Levels) → function other ≡ true → (level : ℕ) → level < levels → ((i : ℕ) → i < level → other i ≡ a i) → a level
      ≡ true → other level ≡ true

-- The value of a quantified variable, set back: false where the node that it was quantified from is true with it false.
abbrev pub set_node_back : Graph → Assignment → ℕ × Node → Assignment
set_node_back graph a (x, node) = with_value a x (not (value_of graph (by_level graph.order (with_value a x false)) node))

-- those of a trail, the last quantified variable first
abbrev pub set_nodes_back : Graph → Assignment → List (ℕ × Node) → Assignment
set_nodes_back graph a [] = a
set_nodes_back graph a (kept ∷ trail) = set_nodes_back graph (set_node_back graph a kept) trail

-- One value for each variable: those of the least assignment that makes the node true, and behind it the quantified
-- variables of a trail, the last one first, set back one after another.
pub record IsRecoveredFrom (graph : Graph) (node : Node) (trail : List (ℕ × Node)) (values : List Bool) : Type 0 where
  pub one_each : length values ≡ levels graph
  pub first : Assignment
  pub least : IsLeast (levels graph) (λ a. value_of graph a node) (by_level graph.order first)
  pub recovered : (variable : ℕ) → 0 < variable → assignment_of values variable ≡ set_nodes_back graph first trail variable
