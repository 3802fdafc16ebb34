-- What is left to show of `counting_law`.
use Rattle.bdd_terms.proofs.Counted.{counting}
use Rattle.bdd_terms.proofs.counting.counting_law.Goals as goal

pub returns : goal.returns
returns g c = counting c.canonical_law.ensures c.growth_law.ensures c.subfunction_law.ensures
