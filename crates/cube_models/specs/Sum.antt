-- The sum of a node with its two hints, as the table takes it.
use Rattle.std.specs.Prelude.{◌≡◌, ◌≢◌, ℕ, ℤ, List, [], ◌∷◌, Some}
use Rattle.lrat_rules.specs.State.{Live}
use Rattle.lrat_rules.specs.Strict.{RefutesStrictly}
use Rattle.hint_chain.specs.Atoms.{clause_from_atoms}
use Rattle.node_table.specs.declared.node.Branch.{Branch}
use Rattle.node_table.specs.Diagram.{Graph, branch_at}
use Rattle.node_table.specs.Tied.{IsOverNodes}
use Rattle.cube_models.specs.Denied.{sum_atoms}

-- it is that of the node of this key, follows by the hints, and isn't empty
pub record IsSum (graph : Graph) (live : Live) (key : ℕ) (clause : List ℤ) (high low : ℕ) : Type 0 where
  pub branch : Branch
  pub stands : branch_at graph key ≡ Some branch
  pub is : clause_from_atoms (sum_atoms graph branch) ≡ Some clause
  pub strict : RefutesStrictly live clause (high ∷ low ∷ [])
  pub over_nodes : IsOverNodes graph clause
  pub some : clause ≢ []
