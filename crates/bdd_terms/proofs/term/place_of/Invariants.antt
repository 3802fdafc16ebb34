-- What the loops of `place_of` keep: none of the last ones is the term.
use Rattle.std.proofs.Common.{◌≡◌, ◌<◌, ◌≤◌, ◌+◌, ℕ, length}
use Rattle.std.specs.Prelude.{get_or}
use Rattle.bdd_terms.proofs.term.place_of.Given as goal

abbrev pub invariant-loop-i : goal.invariant-loop-i
invariant-loop-i l = (place : ℕ) → place < length l.out → length l.out ≤ place + l.i → get_or l.out place l.held ≡ l.held → ⊥
