-- The conjunction that was found, behind the deletion of retired clauses.
use Rattle.bdd_terms.proofs.runner.Runner.try_meet.Goals as goal

pub returns-clause-gives : goal.returns-clause-gives
returns-clause-gives g c = c.settle.ensures.gives _ _ _ _ c.find_conjunction-found.ensures.gives
