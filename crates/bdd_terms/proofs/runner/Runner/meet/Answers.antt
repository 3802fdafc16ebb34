-- The term that was found, and a reclamation behind it.
use Rattle.node_table.specs.HandedOn.{no_answer, no_error}
use Rattle.bdd_terms.proofs.CallCosts.{costs_handed}
use Rattle.bdd_terms.proofs.Rests.{takes_handed}
use Rattle.bdd_terms.proofs.StayingTerms.{if_ok}
use Rattle.bdd_terms.proofs.runner.Runner.meet.Goals as goal

pub returns-in_err-term-clause-takes : goal.returns-in_err-term-clause-takes
returns-in_err-term-clause-takes g c =
    takes_handed _ c.args.self.now c.meet_twice.new.self c.in_err-term.field-0.0 _ c.from_residual.ensures.1 c.in_err-term.ensures.takes

pub returns-in_err-term-clause-costs : goal.returns-in_err-term-clause-costs
returns-in_err-term-clause-costs g c =
    costs_handed _ c.args.self.now c.meet_twice.new.self c.in_err-term.field-0.0 _ c.from_residual.ensures.1 c.in_err-term.ensures.costs

pub returns-in_err-term-clause-tidied : goal.returns-in_err-term-clause-tidied
returns-in_err-term-clause-tidied g c = no_answer _ c.in_err-term.field-0.0 _ c.from_residual.ensures.1

pub tidy-requires-clause-runner : goal.tidy-requires-clause-runner
tidy-requires-clause-runner g c = c.in_ok-term.ensures.takes.goes_on no_error

pub tidy-requires-clause-last : goal.tidy-requires-clause-last
tidy-requires-clause-last g c = (c.args.self.now.terms.out.items, c.in_ok-term.ensures.takes.listed)

pub returns-clause-takes : goal.returns-clause-takes
returns-clause-takes g c = c.tidy.ensures.takes _ c.args.self.now c.in_ok-term.ensures.takes

pub returns-clause-costs : goal.returns-clause-costs
returns-clause-costs g c =
    c.tidy.ensures.costs _ c.args.self.now c.requires.runner c.in_ok-term.ensures.takes c.in_ok-term.ensures.costs

pub returns-clause-tidied : goal.returns-clause-tidied
returns-clause-tidied g c = if_ok c.tidy.result _ _ (λ given is. is.1) c.tidy.ensures.given
