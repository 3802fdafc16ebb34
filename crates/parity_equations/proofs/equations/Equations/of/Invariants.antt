-- What the loop of `of` keeps.
use Rattle.std.proofs.Common.{◌≡◌, ◌++◌, All, drop, map}
use Rattle.std.specs.List.{flat_map}
use Rattle.parity_equations.specs.Equations.{equations, equations_over, sets_but}
use Rattle.parity_equations.specs.Walk.{IsEquationOf, listed, sets_of}
use Rattle.parity_equations.proofs.equations.Equations.of.Given as goal

abbrev pub invariant-clauses : goal.invariant-clauses
invariant-clauses l = record {
  listed : map listed l.list.items ++ flat_map (equations_over l.formula.clauses)
      (sets_but (sets_of l.seen) (drop l.place l.formula.clauses))
      ≡ equations l.formula.clauses;
  each : All (IsEquationOf l.formula.vars l.formula.clauses) l.list.items;
}
