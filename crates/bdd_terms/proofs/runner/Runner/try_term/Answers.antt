-- The term that was found, behind the deletion of retired clauses.
use Rattle.bdd_terms.proofs.runner.Runner.try_term.Goals as goal

pub returns-clause-gives : goal.returns-clause-gives
returns-clause-gives g c = c.settle.ensures.gives _ _ _ _ c.find_input-found.ensures.gives

pub returns-clause-one : goal.returns-clause-one
returns-clause-one g c = c.settle.ensures.adds 1 c.args.self.now c.find_input-found.ensures.one
