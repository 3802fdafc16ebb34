-- How kept clauses are stored: their literals stand one behind another, and each place tells where its own are.
use Rattle.std.specs.Prelude.{◌≤◌, ◌+◌, ℤ, List, length, take, drop, None, Some, ⊤}
use Rattle.clause_ledger.specs.Kept.{Place}
use Rattle.clause_ledger.specs.declared.kept.Span.{Span}
use Rattle.clause_ledger.specs.declared.kept.Span.TheVariants.{Free, Within}

-- what a place holds whose span is this: nothing, or so many literals from a start on
abbrev pub clause_of : List ℤ → Span → Place
clause_of literals Free = None
clause_of literals (Within len start) = Some (take len (drop start literals))

-- what a span names is there
abbrev pub Fits : List ℤ → Span → Type 0
Fits literals Free = ⊤
Fits literals (Within len start) = start + len ≤ length literals
