-- What the loops of `enter_far` keep.
use Rattle.std.proofs.Common.{◌≡◌, true, map}
use Rattle.std.specs.List.{list_all}
use Rattle.std.specs.Map.Iter.{deref_pair}
use Rattle.lrat_checker.specs.Holders.{KeepsAll, is_entered}
use Rattle.lrat_checker.proofs.clauses.enter_far.Given as goal

-- nothing is lost so far, and the entries so far are entered
abbrev pub invariant-loop-number : goal.invariant-loop-number
invariant-loop-number l = record {
  kept : KeepsAll l.fn.holders l.holders;
  entered : list_all (λ entry. is_entered l.holders entry.0 entry.1) (map deref_pair l.yielded) ≡ true;
}
