-- What the loops of `IndexedClauses::remove_all` keep.
use Rattle.std.proofs.Common.{◌≡◌, drop}
use Rattle.lrat_rules.specs.State.{without_clauses}
use Rattle.lrat_checker.proofs.live.IndexedClauses.remove_all.Given as goal

-- what the rest leaves is what the whole leaves
abbrev pub invariant-loop-id : goal.invariant-loop-id
invariant-loop-id l = without_clauses l.self (drop l.id-index l.ids) ≡ without_clauses l.fn.self l.ids
