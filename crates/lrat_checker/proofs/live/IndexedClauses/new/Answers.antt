-- What is left to show of `IndexedClauses::new`.
use Rattle.lrat_checker.proofs.Counted.{counted_none}
use Rattle.lrat_checker.proofs.live.IndexedClauses.new.Goals as goal

pub invariant_of-result : goal.invariant_of-result
invariant_of-result c = record { counted = counted_none c.new-2.result c.new.result c.new.ensures; index = λ is. absurd (cc) }
