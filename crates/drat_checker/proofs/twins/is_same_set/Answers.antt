-- The same list has the same set.
use Rattle.std.proofs.Common.{sym, ◌∙◌}
use Rattle.drat_checker.proofs.Hashes.{list-set}
use Rattle.drat_checker.proofs.twins.is_same_set.Goals as goal

pub returns-then-eq : goal.returns-then-eq
returns-then-eq c = c.if-eq.true ∙ sym (list-set c.args.clause.now c.args.own.now (sym c.eq.ensures ∙ c.if-eq.true))
