-- No clause stands under the number, or one does.
use Rattle.std.proofs.Common.{sym}
use Rattle.drat_checker.proofs.Lined.{fits-none}
use Rattle.drat_checker.proofs.addition.passes_number.Goals as goal

pub returns-in-None-clause-fits : goal.returns-in-None-clause-fits
returns-in-None-clause-fits c = λ is wanted plain.
    fits-none c.args.db.now c.args.clause.now c.args.pivot c.args.number c.args.line.now.groups (sym c.in-None.ensures)

pub passes-requires-clause-stands : goal.passes-requires-clause-stands
passes-requires-clause-stands c = sym c.in-Some.ensures
