-- The two additions of a conjunction: their clauses are of different variables, and their hints close.
use Rattle.std.proofs.Common.{◌≡◌, ℤ, pos, neg_ℤ, true, false, List, ◌∷◌, Some, ap}
use Rattle.std.specs.Option.{option_map}
use Rattle.lrat_rules.specs.State.{Live}
use Rattle.hint_chain.specs.Atoms.{clause_from_atoms, is_trivial}
use Rattle.hint_chain.specs.Closing.{are_apart, are_among}
use Rattle.hint_chain.specs.Additions.{where_true}
use Rattle.node_table.specs.declared.node.Node.{Node}
use Rattle.node_table.specs.declared.node.Justification.{Justification}
use Rattle.node_table.specs.Diagram.{Graph, IsReduced, IsOrder, variable_at}
use Rattle.node_table.specs.Tied.{IsOverNodes}
use Rattle.operations.specs.Additions.{Literals}
use Rattle.operations.specs.declared.operands.Operands.{Operands}
use Rattle.operations.specs.Sides.{Side}
use Rattle.operations.specs.Results.{conjunction_atoms}
use Rattle.operations.specs.Operands.{AreSplit, Splitting}
use Rattle.apply_and.specs.Additions.{IsSide}
use Rattle.apply_and.proofs.ConjunctionClauses.{conjunction_apart, conjunction_open, conjunction_owned}

module _ (literals : Literals) (splits : Splitting) (graph : Graph) (reduced : IsReduced graph) (ordered : IsOrder graph.order)
    (live : Live) (o : Operands) (split : AreSplit graph o) (w : Node) (side : Side) (found : Node × Justification)
    (finished : IsSide graph live o w side found) (clause : List ℤ) (is : clause_from_atoms (conjunction_atoms graph o.u o.v w)
    ≡ Some clause) (among : are_among (conjunction_atoms graph o.u o.v w) clause ≡ true) where
  pub low_apart : are_apart clause ≡ true
  low_apart = conjunction_apart literals graph reduced o.u o.v w split.first split.second split.differ finished.first_differs
      finished.second_differs clause is

  pub is_open : is_trivial (conjunction_atoms graph o.u o.v w) ≡ false
  is_open = conjunction_open literals graph reduced o.u o.v w split.first split.second split.differ finished.first_differs
      finished.second_differs clause is

  high_both : (are_apart (neg_ℤ (pos (variable_at graph o.level)) ∷ clause) ≡ true)
      × IsOverNodes graph (neg_ℤ (pos (variable_at graph o.level)) ∷ clause)
  high_both = literals.behind graph reduced ordered o.level (splits.level graph reduced o split) clause
      (conjunction_owned literals graph o.u o.v w clause among) low_apart

  pub high_apart : are_apart (neg_ℤ (pos (variable_at graph o.level)) ∷ clause) ≡ true
  high_apart = high_both.0

  pub high_clause : clause_from_atoms (where_true (pos (variable_at graph o.level)) (conjunction_atoms graph o.u o.v w))
      ≡ Some (neg_ℤ (pos (variable_at graph o.level)) ∷ clause)
  high_clause = ap (λ c. option_map (λ literals. neg_ℤ (pos (variable_at graph o.level)) ∷ literals) c) is
