-- What the two additions of a conjunction stand on: the result's cofactors, and the finished sides.
use Rattle.std.specs.Prelude.{◌≡◌, ◌≢◌, IsTrue, ℤ, List, Some}
use Rattle.lrat_rules.specs.State.{Live}
use Rattle.hint_chain.specs.Additions.{IsDownPart, IsUpPart, Justifies}
use Rattle.hint_chain.specs.Atoms.{clause_from_atoms}
use Rattle.hint_chain.specs.Greedy.{AreLiveParts}
use Rattle.hint_chain.specs.Step.{IsConjunctionSide, SideParts, parts_in}
use Rattle.hint_chain.specs.declared.step.StepParts.{StepParts}
use Rattle.node_table.specs.declared.node.Node.{Node}
use Rattle.node_table.specs.declared.node.Justification.{Justification}
use Rattle.node_table.specs.Diagram.{Graph, is_node}
use Rattle.node_table.specs.Defined.{atom_of}
use Rattle.node_table.specs.Justification.{IsJustified}
use Rattle.node_table.specs.Table.{TableState}
use Rattle.operations.specs.Additions.{AddsBoth, high_of}
use Rattle.operations.specs.declared.operands.Operands.{Operands}
use Rattle.operations.specs.Results.{conjunction_atoms}
use Rattle.operations.specs.Sides.{High, Low, Side, cofactor_at, false_literal}

-- The result of one side is w's cofactor there, and its clause is justified.
pub record IsSide (graph : Graph) (live : Live) (o : Operands) (w : Node) (side : Side) (found : Node × Justification) : Type 0 where
  pub stands : IsTrue (is_node graph w)
  pub first_differs : w ≢ o.u
  pub second_differs : w ≢ o.v
  pub cofactor : cofactor_at side graph o.level w ≡ found.0
  pub justified : IsJustified live (conjunction_atoms graph (cofactor_at side graph o.level o.u)
      (cofactor_at side graph o.level o.v) found.0) found.1

pub record AreSides (graph : Graph) (live : Live) (o : Operands) (w : Node) (high low : Node × Justification) : Type 0 where
  pub on_high : IsSide graph live o w High high
  pub on_low : IsSide graph live o w Low low

-- The parts of one side: clauses from w's child up to it and from the operands down to theirs, and of the children.
pub record AreSideParts (graph : Graph) (o : Operands) (w : Node) (side : Side) (parts : SideParts) : Type 0 where
  pub up : IsUpPart (false_literal side graph o.level) (atom_of graph w) (atom_of graph (cofactor_at side graph o.level w)) parts.result
  pub first : IsDownPart (false_literal side graph o.level) (atom_of graph o.u) (atom_of graph (cofactor_at side graph o.level o.u))
      parts.first
  pub second : IsDownPart (false_literal side graph o.level) (atom_of graph o.v) (atom_of graph (cofactor_at side graph o.level o.v))
      parts.second
  pub children : Justifies (conjunction_atoms graph (cofactor_at side graph o.level o.u) (cofactor_at side graph o.level o.v)
      (cofactor_at side graph o.level w)) parts.children

-- The parts of one side, each of them a live clause.
pub record AreLiveOf (graph : Graph) (live : Live) (o : Operands) (w : Node) (side : Side) (parts : SideParts) : Type 0 where
  pub are : AreSideParts graph o w side parts
  pub stand : AreLiveParts live (parts_in parts)

-- The parts of one side are live clauses, and this is kept of them.
pub record HasSide (graph : Graph) (live : Live) (o : Operands) (w : Node) (side : Side) (own : StepParts) : Type 0 where
  pub sides : SideParts
  pub are : AreLiveOf graph live o w side sides
  pub kept : IsConjunctionSide (false_literal side graph o.level) (atom_of graph o.u) (atom_of graph o.v) (atom_of graph w)
      (atom_of graph (cofactor_at side graph o.level o.u)) (atom_of graph (cofactor_at side graph o.level o.v))
      (atom_of graph (cofactor_at side graph o.level w)) own sides

-- Exactly two steps are told, which add the clause of the conjunction. Their hints are those that the greedy choice takes from the
-- parts of the high side, and from the high clause and the parts of the low side.
pub record AddsConjunction {S : Type 0} (old new : TableState S) (o : Operands) (w : Node) : Type 0 where
  pub clause : List ℤ
  pub high : SideParts
  pub low : SideParts
  pub is : clause_from_atoms (conjunction_atoms old.graph o.u o.v w) ≡ Some clause
  pub on_high : AreLiveOf old.graph old.book.state.live o w High high
  pub on_low : AreLiveOf old.graph old.book.state.live o w Low low
  pub adds : AddsBoth old.book new.book (high_of old.graph o.level clause) clause high low
