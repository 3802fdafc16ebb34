-- How many clauses a call adds over its levels, whatever the cache holds: two for each pair of nodes that it may come to.
-- (Bryant, Heule: Generating Extended Resolution Proofs with a BDD-Based SAT Solver, 2021, section 4.2.)
use Rattle.std.specs.Prelude.{◌+◌, ℕ, zero, suc, Option, None}
use Rattle.node_table.specs.declared.error.TableError.{TableError}
use Rattle.node_table.specs.Progress.{Steps}
use Rattle.node_table.specs.Table.{TableState, IsSound}
use Rattle.operations.specs.declared.operands.Operands.{Operands}
use Rattle.operations.specs.Operands.{AreSplit, levels_from}

-- The most clauses over so many levels.
abbrev pub most_additions : ℕ → ℕ
most_additions zero = 0
most_additions (suc levels) = most_additions levels + most_additions levels + 2

-- The additions over the levels: those of the high side, of the low one behind it, and the two of the step from both.
pub record Budget (S : Type 0) : Type 0 where
  pub high : (old new : TableState S) (o : Operands) (error : Option TableError) → IsSound old → AreSplit old.graph o
      → Steps old new (most_additions (levels_from old.graph o.u_high o.v_high)) error
      → Steps old new (most_additions (levels_from old.graph o.u o.v)) error
  pub low : (old one new : TableState S) (o : Operands) (error : Option TableError) → IsSound old → AreSplit old.graph o
      → Steps old one (most_additions (levels_from old.graph o.u_high o.v_high)) None
      → Steps one new (most_additions (levels_from one.graph o.u_low o.v_low)) error
      → Steps old new (most_additions (levels_from old.graph o.u o.v)) error
  pub both : (old one two new : TableState S) (o : Operands) (error : Option TableError) → IsSound old → AreSplit old.graph o
      → Steps old one (most_additions (levels_from old.graph o.u_high o.v_high)) None
      → Steps one two (most_additions (levels_from one.graph o.u_low o.v_low)) None
      → Steps two new 2 error
      → Steps old new (most_additions (levels_from old.graph o.u o.v)) error
