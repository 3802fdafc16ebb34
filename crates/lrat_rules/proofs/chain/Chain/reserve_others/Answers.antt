-- A reservation changes no stamp.
use Rattle.std.proofs.Common.{refl}
use Rattle.lrat_rules.proofs.FalseStamps.{same_sets}
use Rattle.lrat_rules.proofs.chain.Chain.reserve_others.Goals as goal

pub returns-clause-same : goal.returns-clause-same
returns-clause-same c = same_sets c.args.self.now _ c.reserve_others.ensures.same refl refl
