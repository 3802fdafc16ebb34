-- What is chosen for the clause of the place.
use Rattle.std.proofs.Common.{ℤ, List, sym, ap, ◌∙◌, subst}
use Rattle.std.specs.Option.{option_copied}
use Rattle.drat_checker.specs.Watches.{IsPair}
use Rattle.drat_checker.proofs.Lifts.{if-some-at}
use Rattle.drat_checker.proofs.Standing.{same_inside}
use Rattle.drat_checker.proofs.watches.pair_of.Goals as goal

pub returns-in-Some-clause-own : goal.returns-in-Some-clause-own
returns-in-Some-clause-own c = λ clause pair at is.
    subst (λ (d : List ℤ). IsPair pair d) (same_inside c.in-Some.clause.now clause (ap option_copied (sym c.in-Some.is) ∙ at))
    (if-some-at (λ p. IsPair p c.in-Some.clause.now) c.choose.result pair is c.choose.ensures.own)
