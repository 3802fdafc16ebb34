-- What is left to show of `has_opposites`.
use Rattle.std.proofs.Common.{false, sym, ◌∙◌}
use Rattle.clause_terms.specs.declared.placed.Placed.{Placed}
use Rattle.clause_terms.proofs.Ordered.{opposites_hold, one_more}
use Rattle.clause_terms.proofs.order.has_opposites.Goals as goal

abbrev no_placed : Placed
no_placed = record { level = 0; negative = false }

pub returns-then-are_opposites-clause-holds : goal.returns-then-are_opposites-clause-holds
returns-then-are_opposites-clause-holds c _ =
    opposites_hold c.args.placed.now c.neighbours.i no_placed c.neighbours.auto.i c.neighbours-test.true (sym c.are_opposites.ensures
    ∙ c.if-are_opposites.true)

pub neighbours-preserved : goal.neighbours-preserved
neighbours-preserved c =
    one_more c.args.placed.now c.neighbours.i no_placed c.neighbours.auto.i c.neighbours-test.true (sym c.are_opposites.ensures
    ∙ c.if-are_opposites.false) c.neighbours.invariant
