-- What is asked of an implication: that a node holds wherever another does. (Bryant, Heule: Generating Extended Resolution
-- Proofs with a BDD-Based SAT Solver, 2021, section 4.3.)
use Rattle.std.specs.Prelude.{◌≡◌, ◌≢◌, ◌⊎◌, true, false, Option, None, Some, MatchOption}
use Rattle.lrat_rules.specs.State.{Live}
use Rattle.node_table.specs.declared.node.Node.{Node}
use Rattle.node_table.specs.declared.node.Node.TheVariants.{False, True}
use Rattle.node_table.specs.declared.node.Justification.{Justification}
use Rattle.node_table.specs.declared.node.Justification.TheVariants.{Trivial}
use Rattle.node_table.specs.Diagram.{Graph}
use Rattle.node_table.specs.Value.{Levels, value_of}
use Rattle.operations.specs.Results.{Implied}

-- some values make u true and v false
pub record IsRefuted (graph : Graph) (u v : Node) : Type 0 where
  pub values : Levels
  pub holds : value_of graph values u ≡ true
  pub fails : value_of graph values v ≡ false

-- u implies v, for this reason, or where none is given, it doesn't
abbrev pub IsDecided : Graph → Live → Node → Node → Option Justification → Type 0
IsDecided graph live u v answer = MatchOption answer (IsRefuted graph u v) (λ just. Implied graph live u v just)

-- Implications that hold, and others that don't, by a constant or by one node alone.
abbrev pub HoldsPlainly : Node → Node → Type 0
HoldsPlainly u v = (u ≡ False) ⊎ ((v ≡ True) ⊎ (u ≡ v))

abbrev pub FailsPlainly : Node → Node → Type 0
FailsPlainly u v = (u ≢ v) × (((u ≡ True) × (v ≢ True)) ⊎ ((v ≡ False) × (u ≢ False)))

abbrev pub IsPlain : Node → Node → Option Justification → Type 0
IsPlain u v answer = (HoldsPlainly u v × (answer ≡ Some Trivial)) ⊎ (FailsPlainly u v × (answer ≡ None))
