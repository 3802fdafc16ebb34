-- What the loop of `of` keeps.
use Rattle.std.proofs.Common.{◌≡◌, ℤ, List, take}
use Rattle.parity_equations.specs.Index.{first_under, number_of}
use Rattle.parity_equations.proofs.index.Index.of.Given as goal

abbrev pub invariant-clauses : goal.invariant-clauses
invariant-clauses l = (key : List ℤ) → number_of l.index key ≡ first_under 1 (take l.place l.formula.clauses) key
