-- What the loop of `term_of_clauses` keeps.
use Rattle.std.proofs.Common.{◌≤◌, ◌-◌, ◌*◌, ℕ, List, length, take}
use Rattle.bdd_terms.specs.declared.held.HeldTerm.{HeldTerm}
use Rattle.parity_terms.specs.Limit.{AreClausesAmong, CostsMoves}
use Rattle.parity_terms.specs.Owned.{Owns}
use Rattle.parity_terms.proofs.Joined.{HaveTerm}
use Rattle.parity_terms.proofs.equation_term.term_of_clauses.Given as goal

abbrev pub invariant-clauses : goal.invariant-clauses
invariant-clauses g l = record {
  from : 1 ≤ l.place;
  within : l.place ≤ length l.numbers;
  so_far : (terms : List HeldTerm) → Owns terms l.fn.runner.terms.out.items
      → HaveTerm terms (take l.place l.numbers) l.fn.runner l.runner l.term;
  costs : (terms : List HeldTerm) (few : List ℕ) → Owns terms l.fn.runner.terms.out.items → length few ≤ 8
      → AreClausesAmong l.fn.runner.terms.table.graph.order few l.fn.runner.formula.now.clauses l.numbers
      → CostsMoves (2 * l.place) 255 terms l.fn.runner l.runner;
}

abbrev pub decreases-clauses : goal.decreases-clauses
decreases-clauses g l = length l.numbers - l.place
