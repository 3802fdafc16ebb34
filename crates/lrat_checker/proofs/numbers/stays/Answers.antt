-- What is left to show of `stays`.
use Rattle.std.proofs.Common.{not, ◌∙◌, sym, ap, eq-eqb}
use Rattle.std.specs.FinMap as map
use Rattle.lrat_checker.specs.Holders.{is_live}
use Rattle.lrat_checker.proofs.Kept.{gone_dead, others_live}
use Rattle.lrat_checker.proofs.numbers.stays.Goals as goal

pub returns-then-number-gone : goal.returns-then-number-gone
returns-then-number-gone c = c.is_live.ensures ∙ sym (others_live c.args.clauses.now c.args.gone c.args.number c.if-number-gone.true)

pub returns-else-number-gone : goal.returns-else-number-gone
returns-else-number-gone c = ap not (eq-eqb c.args.number c.args.gone c.if-number-gone.false)
    ∙ sym (ap (is_live (map.remove c.args.clauses.now c.args.gone)) c.if-number-gone.false ∙ gone_dead c.args.clauses.now c.args.gone)
