-- The identifiers so far, and those that follow are all.
use Rattle.std.proofs.Common.{◌≡◌, ◌++◌, map, nat_abs, drop}
use Rattle.lrat_text.proofs.build.put_ids.Given as goal

abbrev pub invariant-loop-number : goal.invariant-loop-number
invariant-loop-number l = l.ids ++ map nat_abs (drop l.number-index l.numbers) ≡ map nat_abs l.numbers
