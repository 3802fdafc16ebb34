-- What is asked of a conjunction, and what it may cost. (Bryant, Heule: Generating Extended Resolution Proofs with a
-- BDD-Based SAT Solver, 2021, section 4.2.)
use Rattle.std.specs.Prelude.{◌≡◌, ◌⊎◌, ◌&&◌, Bool}
use Rattle.node_table.specs.declared.node.Node.{Node}
use Rattle.node_table.specs.declared.node.Node.TheVariants.{False, True}
use Rattle.node_table.specs.Diagram.{Graph}
use Rattle.node_table.specs.Value.{Levels, value_of}
pub use Rattle.operations.specs.Budget.{most_additions}

-- the function of both
abbrev pub conjunction_of : Graph → Node → Node → Levels → Bool
conjunction_of graph u v a = value_of graph a u && value_of graph a v

-- The conjunction w of a constant with a node, or of a node with itself.
abbrev pub IsPlain : Node → Node → Node → Type 0
IsPlain u v w = (((u ≡ False) ⊎ (v ≡ False)) × (w ≡ False)) ⊎ (((u ≡ True) × (w ≡ v)) ⊎ (((v ≡ True) × (w ≡ u)) ⊎ ((u ≡ v) × (w ≡ u))))
