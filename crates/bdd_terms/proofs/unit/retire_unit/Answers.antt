-- What is left to show of `retire_unit`.
use Rattle.bdd_terms.proofs.Retired.{given_clause, retired_but}
use Rattle.bdd_terms.proofs.unit.retire_unit.Goals as goal

pub retire-requires-clause-own : goal.retire-requires-clause-own
retire-requires-clause-own g c id is = c.requires.added id
    (given_clause c.args.unit.now c.args.kept.now c.given_up.result c.given_up.ensures id is).0

pub retire-requires-clause-unretired : goal.retire-requires-clause-unretired
retire-requires-clause-unretired g c id is = c.requires.unretired id
    (given_clause c.args.unit.now c.args.kept.now c.given_up.result c.given_up.ensures id is).0

pub returns-clause-retired : goal.returns-clause-retired
returns-clause-retired g c =
    retired_but c.args.table.now c.retire.new.table c.args.unit.now c.args.kept.now c.given_up.result
    c.given_up.ensures c.retire.ensures
