-- What operations find: a node with the function asked for, and where a clause says so on the proof, why it holds.
-- (Bryant, Heule: Generating Extended Resolution Proofs with a BDD-Based SAT Solver, 2021, sections 4.2 and 4.3.)
use Rattle.std.specs.Prelude.{◌≡◌, ◌≤◌, ◌&&◌, ◌||◌, ◌==◌, ℕ, Bool, true, false, List, IsTrue, if◌then◌else◌}
use Rattle.lrat_rules.specs.State.{Live}
use Rattle.hint_chain.specs.declared.atom.Atom.{Atom}
use Rattle.hint_chain.specs.Additions.{conjunction, implication}
use Rattle.node_table.specs.declared.node.Node.{Node}
use Rattle.node_table.specs.declared.node.Justification.{Justification}
use Rattle.node_table.specs.Diagram.{Graph, is_node, level_of}
use Rattle.node_table.specs.Value.{Levels, value_of}
use Rattle.node_table.specs.Defined.{atom_of}
use Rattle.node_table.specs.Justification.{IsJustified}

-- w holds where u and v do: the clause -u, -v, w
abbrev pub conjunction_atoms : Graph → Node → Node → Node → List Atom
conjunction_atoms graph u v w = conjunction (atom_of graph u) (atom_of graph v) (atom_of graph w)

-- The node w is the conjunction of u and v, and stands before neither; their clause is justified.
pub record Conjoined (graph : Graph) (live : Live) (u v w : Node) (just : Justification) : Type 0 where
  pub stands : IsTrue (is_node graph w)
  pub not_above : (level : ℕ) → level ≤ level_of graph u → level ≤ level_of graph v → level ≤ level_of graph w
  pub value : (a : Levels) → value_of graph a w ≡ (value_of graph a u && value_of graph a v)
  pub justified : IsJustified live (conjunction_atoms graph u v w) just

-- v holds where u does: the clause -u, v
abbrev pub implication_atoms : Graph → Node → Node → List Atom
implication_atoms graph u v = implication (atom_of graph u) (atom_of graph v)

-- The node v holds where u does; their clause is justified.
pub record Implied (graph : Graph) (live : Live) (u v : Node) (just : Justification) : Type 0 where
  pub value : (a : Levels) → value_of graph a u ≡ true → value_of graph a v ≡ true
  pub justified : IsJustified live (implication_atoms graph u v) just

-- The node w is the disjunction of u and v, and stands before neither.
pub record Disjoined (graph : Graph) (u v w : Node) : Type 0 where
  pub stands : IsTrue (is_node graph w)
  pub not_above : (level : ℕ) → level ≤ level_of graph u → level ≤ level_of graph v → level ≤ level_of graph w
  pub value : (a : Levels) → value_of graph a w ≡ (value_of graph a u || value_of graph a v)

-- the values with that of one level set
abbrev pub with_level : Levels → ℕ → Bool → Levels
with_level a level value i = if i == level then value else a i

-- The node w holds where some value of this level's variable makes u hold, and doesn't stand before u.
pub record Quantified (graph : Graph) (u : Node) (level : ℕ) (w : Node) : Type 0 where
  pub stands : IsTrue (is_node graph w)
  pub not_above : level_of graph u ≤ level_of graph w
  pub value : (a : Levels) → value_of graph a w ≡ (value_of graph (with_level a level true) u
      || value_of graph (with_level a level false) u)
