-- What the two additions of an implication stand on: the cofactors' implications on both sides are justified.
use Rattle.std.specs.Prelude.{◌≡◌, ℤ, List, None, Some}
use Rattle.lrat_rules.specs.State.{Live}
use Rattle.hint_chain.specs.Additions.{IsDownPart, IsUpPart, Justifies}
use Rattle.hint_chain.specs.Atoms.{clause_from_atoms}
use Rattle.hint_chain.specs.Greedy.{AreLiveParts}
use Rattle.hint_chain.specs.Step.{IsImplicationSide, SideParts, parts_in}
use Rattle.hint_chain.specs.declared.step.StepParts.{StepParts}
use Rattle.node_table.specs.declared.node.Justification.{Justification}
use Rattle.node_table.specs.Diagram.{Graph}
use Rattle.node_table.specs.Defined.{atom_of}
use Rattle.node_table.specs.Justification.{IsJustified}
use Rattle.node_table.specs.Table.{TableState}
use Rattle.operations.specs.Additions.{AddsBoth, high_of}
use Rattle.operations.specs.declared.operands.Operands.{Operands}
use Rattle.operations.specs.Results.{implication_atoms}
use Rattle.operations.specs.Sides.{High, Low, Side, cofactor_at, false_literal}

-- On this side u's cofactor implies that of v, and the clause is justified.
pub record IsSide (graph : Graph) (live : Live) (o : Operands) (side : Side) (just : Justification) : Type 0 where
  pub justified : IsJustified live (implication_atoms graph (cofactor_at side graph o.level o.u) (cofactor_at side graph o.level o.v)) just

pub record AreSides (graph : Graph) (live : Live) (o : Operands) (high low : Justification) : Type 0 where
  pub on_high : IsSide graph live o High high
  pub on_low : IsSide graph live o Low low

-- The parts of one side: clauses from the operands down and up to their children's, and of the children.
pub record AreSideParts (graph : Graph) (o : Operands) (side : Side) (parts : SideParts) : Type 0 where
  pub result : parts.result ≡ None
  pub first : IsDownPart (false_literal side graph o.level) (atom_of graph o.u) (atom_of graph (cofactor_at side graph o.level o.u))
      parts.first
  pub second : IsUpPart (false_literal side graph o.level) (atom_of graph o.v) (atom_of graph (cofactor_at side graph o.level o.v))
      parts.second
  pub children : Justifies (implication_atoms graph (cofactor_at side graph o.level o.u) (cofactor_at side graph o.level o.v))
      parts.children

-- The parts of one side, each of them a live clause.
pub record AreLiveOf (graph : Graph) (live : Live) (o : Operands) (side : Side) (parts : SideParts) : Type 0 where
  pub are : AreSideParts graph o side parts
  pub stand : AreLiveParts live (parts_in parts)

-- The parts of one side are live clauses, and this is kept of them.
pub record HasSide (graph : Graph) (live : Live) (o : Operands) (side : Side) (own : StepParts) : Type 0 where
  pub sides : SideParts
  pub are : AreLiveOf graph live o side sides
  pub kept : IsImplicationSide (false_literal side graph o.level) (atom_of graph o.u) (atom_of graph o.v)
      (atom_of graph (cofactor_at side graph o.level o.u)) (atom_of graph (cofactor_at side graph o.level o.v)) own sides

-- Exactly two steps are told, which add the clause of the implication. Their hints are those that the greedy choice takes from the
-- parts of the high side, and from the high clause and the parts of the low side.
pub record AddsImplication {S : Type 0} (old new : TableState S) (o : Operands) : Type 0 where
  pub clause : List ℤ
  pub high : SideParts
  pub low : SideParts
  pub is : clause_from_atoms (implication_atoms old.graph o.u o.v) ≡ Some clause
  pub on_high : AreLiveOf old.graph old.book.state.live o High high
  pub on_low : AreLiveOf old.graph old.book.state.live o Low low
  pub adds : AddsBoth old.book new.book (high_of old.graph o.level clause) clause high low
