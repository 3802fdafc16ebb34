-- A table that was just opened is sound.
use Rattle.std.proofs.Common.{ap, subst, sym}
use Rattle.clause_ledger.specs.Book.{Book}
use Rattle.node_table.specs.Table.{TableState, IsSound}
use Rattle.diagram_tests.proofs.tables.opened.Goals as goal

pub returns-in-Ok-open-clause-sound : goal.returns-in-Ok-open-clause-sound
returns-in-Ok-open-clause-sound c =
    subst {A = TableState _} (λ t. IsSound t) (sym c.in-Ok-open.ensures.opened)
    (c.opening_law.ensures c.args.order.now c.args.formula.now.clauses c.in-Ok.ledger _ c.requires.order c.requires.clauses
    (ap (λ (b : Book _). b.state) c.in-Ok.ensures.opened) (ap (λ (b : Book _). b.in_step) c.in-Ok.ensures.opened))
