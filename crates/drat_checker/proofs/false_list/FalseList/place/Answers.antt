-- A literal that is flagged has its place at hand.
use Rattle.std.proofs.Common.{◌≡◌, true, sym, ◌∙◌, subst}
use Rattle.lrat_rules.specs.Chain.{literals_of}
use Rattle.drat_checker.specs.Trail.{IsAt, Trail}
use Rattle.drat_checker.proofs.FalseLists.{placed-at, placed-there}
use Rattle.drat_checker.proofs.false_list.FalseList.place.Goals as goal

pub returns-in-None-clause-none : goal.returns-in-None-clause-none
returns-in-None-clause-none c = λ is.
    let there : literals_of c.self.inside.literals.items c.args.literal ≡ true =
    sym (c.self.invariant.flagged c.args.literal) ∙ sym c.is_set.ensures ∙ c.if-not-is_set.false in
    absurd (placed-there c.self.inside.at c.self.inside.literals.items c.self.invariant.placed c.args.literal there
    (sym c.get.ensures ∙ c.in-None.is))

pub returns-in-Some-clause-found : goal.returns-in-Some-clause-found
returns-in-Some-clause-found c =
    let there : literals_of c.self.inside.literals.items c.args.literal ≡ true =
    sym (c.self.invariant.flagged c.args.literal) ∙ sym c.is_set.ensures ∙ c.if-not-is_set.false in
    subst (λ (t : Trail). IsAt t.literals c.args.literal c.in-Some.place) c.self.view_is
    (placed-at c.self.inside.at c.self.inside.literals.items c.self.invariant.placed c.args.literal there c.in-Some.place
    (sym c.get.ensures ∙ c.in-Some.is))
