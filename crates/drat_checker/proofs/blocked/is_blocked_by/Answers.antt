-- A clause that is no candidate, and one that clashes.
use Rattle.std.proofs.Common.{◌++◌, sym, ◌∙◌}
use Rattle.drat_rules.specs.Addition.{others_of}
use Rattle.drat_checker.proofs.Propagated.{clashed, passes-free, passes-refuted}
use Rattle.drat_checker.proofs.blocked.is_blocked_by.Goals as goal

pub returns-then-not-holds : goal.returns-then-not-holds
returns-then-not-holds c = λ _ clauses.
    sym (passes-free clauses c.args.pivot c.args.clause.now c.args.other.now (sym c.holds_negated-holds.ensures ∙ c.if-not-holds.true))

pub returns : goal.returns
returns c = λ is clauses.
    sym (passes-refuted clauses c.args.pivot c.args.clause.now c.args.other.now (sym c.holds_negated-holds.ensures ∙ c.if-not-holds.false))
    ∙ sym (clashed c.quiet_law.ensures.none c.quiet_law.ensures.fails clauses
    (c.args.clause.now ++ others_of c.args.pivot c.args.other.now) (c.clashes.ensures.clash is))
