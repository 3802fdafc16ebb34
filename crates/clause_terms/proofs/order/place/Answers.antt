-- What is left to show of `place`.
use Rattle.std.proofs.Common.{◌∙◌, sym, nat_abs}
use Rattle.std.specs.Prelude.{nat_lt, nat_le}
use Rattle.std.proofs.lemmas.Bool.{and_parts, ltb-true, leb-true}
use Rattle.node_table.specs.Diagram.{levels}
use Rattle.clause_terms.proofs.order.place.Goals as goal

pub returns-in-None-clause-literal : goal.returns-in-None-clause-literal
returns-in-None-clause-literal g c =
    let x = nat_abs c.args.literal in
    let n = levels c.args.table.now.graph in
    let parts = and_parts (nat_lt 0 x) (nat_le x n) c.requires.variable in
    let there = c.table_law.ensures.ordered.each x (ltb-true 0 x parts.0) (leb-true x n parts.1) in
    absurd (c.in-None.ensures there.0 there.1 (there.2 ∙ sym c.var.ensures.value))
