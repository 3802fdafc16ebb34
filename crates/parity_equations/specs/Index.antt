-- The first clauses of a formula by their sets of literals. A set is looked up by its literals with zeros behind them.
use Rattle.std.specs.Prelude.{◌&&◌, ◌+◌, ◌-◌, ◌++◌, ℕ, ℤ, pos, List, [], ◌∷◌, length, Option, None, Some, if◌then◌else◌}
use Rattle.std.specs.Cmp.Lexicographic.{pointwise}
use Rattle.std.specs.HashMap as hash
use Rattle.std.proofs.Common.{replicate}
use Rattle.std.specs.Ordering.{int_eq}
use Rattle.parity_equations.specs.LiteralSet.{is_candidate, literal_set}
use Rattle.parity_equations.specs.declared.index.Index.{Index}

-- eight places for a set
abbrev pub padded : List ℤ → List ℤ
padded literals = literals ++ replicate (8 - length literals) (pos 0)

-- the number that an index has under a key
abbrev pub number_of : Index → List ℤ → Option ℕ
number_of index key = hash.get (pointwise int_eq) index.numbers key

-- the number of the first clause whose set has this key
abbrev pub first_under : ℕ → List (List ℤ) → List ℤ → Option ℕ
first_under number [] key = None
first_under number (clause ∷ more) key =
    if is_candidate clause && pointwise int_eq (padded (literal_set clause)) key then Some number else first_under (number + 1) more key
