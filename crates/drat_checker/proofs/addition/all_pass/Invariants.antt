-- The clauses of the numbers so far pass, and the false literals are as before.
use Rattle.std.proofs.Common.{◌≡◌, false, ℕ, ℤ, List, Some, take}
use Rattle.std.specs.Prelude.{IsTrue}
use Rattle.drat_rules.specs.Addition.{passes_candidate}
use Rattle.drat_checker.specs.Places.{place_at, standing}
use Rattle.drat_checker.specs.Numbers.{has_number}
use Rattle.drat_checker.specs.Hints.{is_tautology}
use Rattle.drat_checker.specs.Lines.{FitGroups}
use Rattle.drat_checker.specs.Watches.{AreWatched, MovesWatches}
use Rattle.drat_checker.proofs.addition.all_pass.Given as goal

abbrev pub invariant-loop-number : goal.invariant-loop-number
invariant-loop-number l = record {
  same : l.trail ≡ l.fn.trail;
  wanted : l.line.is_wanted ≡ l.fn.line.is_wanted;
  hints : l.line.hints ≡ l.fn.line.hints;
  fits : IsTrue l.fn.line.is_wanted → is_tautology l.fn.clause ≡ false
      → FitGroups l.fn.db l.fn.clause l.fn.pivot (take l.number-index l.numbers) l.line.groups;
  watched : AreWatched l.kept l.fn.db;
  moves : MovesWatches l.fn.kept.pairs.items l.kept.pairs.items l.fn.trail.literals;
  pass : (number : ℕ) (other : List ℤ) → IsTrue (has_number number (take l.number-index l.numbers)) → place_at l.fn.db number ≡ Some other
      → IsTrue (passes_candidate (standing l.fn.db) l.fn.pivot l.fn.trail.literals other);
}
