-- What the loops of `far_settled` keep.
use Rattle.std.proofs.Common.{◌≡◌, true, map}
use Rattle.std.specs.List.{list_all}
use Rattle.std.specs.Map.Iter.{deref_pair}
use Rattle.lrat_rules.specs.FalseLiterals.{set_of}
use Rattle.lrat_checker.specs.Walk.{settles}
use Rattle.lrat_checker.proofs.clauses.far_settled.Given as goal

-- the entries so far settle
abbrev pub invariant-loop-number : goal.invariant-loop-number
invariant-loop-number l = list_all (λ entry. settles (set_of l.chain) l.pivot l.groups entry.0 entry.1) (map deref_pair l.yielded) ≡ true
