-- Parts of one function as functions of a kind.
use Rattle.node_table.specs.Diagram.{Graph}
use Rattle.node_table.specs.Made.{LacksPart, MakesOnly}
use Rattle.node_table.specs.Value.{IsSubfunction, Levels}
use Rattle.quantify.specs.RunsFor.{LacksOneOf, MakesOnlyOf}
use Rattle.std.proofs.Common.{Bool}

pub only_of : (old new : Graph) (function : Levels → Bool) → MakesOnly old new function → MakesOnlyOf old new (IsSubfunction function)
only_of old new function made = record { each = made.each }

pub of_only : (old new : Graph) (function : Levels → Bool) → MakesOnlyOf old new (IsSubfunction function) → MakesOnly old new function
of_only old new function made = record { each = made.each }

pub lacks_one : (graph : Graph) (function : Levels → Bool) → LacksPart graph function → LacksOneOf graph (IsSubfunction function)
lacks_one graph function lacks = record { part = lacks.part; is_one = lacks.is_part; nowhere = lacks.nowhere }

pub lacks_part : (graph : Graph) (function : Levels → Bool) → LacksOneOf graph (IsSubfunction function) → LacksPart graph function
lacks_part graph function lacks = record { part = lacks.part; is_part = lacks.is_one; nowhere = lacks.nowhere }
