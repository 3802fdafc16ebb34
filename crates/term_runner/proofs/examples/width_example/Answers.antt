-- What is left to show of `width_example`.
use Rattle.term_runner.proofs.WidthExamples.{one_at_least, one_at_most}
use Rattle.term_runner.proofs.examples.width_example.Goals as goal

pub returns-clause-at_most : goal.returns-clause-at_most
returns-clause-at_most c = one_at_most

pub returns-clause-at_least : goal.returns-clause-at_least
returns-clause-at_least c = one_at_least c.subfunction_law.ensures.same
