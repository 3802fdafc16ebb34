-- A clause whose other watched literal is true stays.
use Rattle.std.proofs.Common.{sym, ◌∙◌, ap}
use Rattle.lrat_rules.specs.Chain.{literals_of}
use Rattle.drat_checker.proofs.Looks.{beside-held}
use Rattle.drat_checker.proofs.Visited.{true-by}
use Rattle.drat_checker.proofs.watches.look.Goals as goal

pub returns-in-None : goal.returns-in-None
returns-in-None c = λ clause stands. c.in-None.ensures

pub returns-then-contains : goal.returns-then-contains
returns-then-contains c = λ clause stands.
    true-by c.args.trail.now.literals clause c.in-Some.other
    (beside-held c.args.pairs.now c.args.db.now c.requires.pairs c.args.literal c.args.number c.in-Some.other c.in-Some.ensures clause
    stands)
    (ap (literals_of c.args.trail.now.literals) (sym c.negated.ensures) ∙ sym c.contains.ensures ∙ c.if-contains.true)
