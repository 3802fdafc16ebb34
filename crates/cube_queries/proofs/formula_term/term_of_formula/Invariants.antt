-- What the loop of `term_of_formula` keeps.
use Rattle.std.proofs.Common.{◌≡◌, ◌≢◌, ◌≤◌, [], None, take, false}
use Rattle.node_table.specs.declared.node.Node.TheVariants.{False}
use Rattle.std.specs.List.{list_all}
use Rattle.cnf_base.specs.Truth.{Assignment, clause_holds}
use Rattle.bdd_terms.specs.Runner.{IsListed, IsRunner, holds_in}
use Rattle.cube_queries.specs.Steps.{Goes}
use Rattle.cube_queries.proofs.Totals.{PaidTo}
use Rattle.cube_queries.proofs.formula_term.term_of_formula.Given as goal

abbrev pub invariant-clauses : goal.invariant-clauses
invariant-clauses g l = record {
  some : 1 ≤ l.place;
  runner : IsRunner l.runner;
  alone : IsListed [] l.runner.terms.out.items l.term.held;
  value : (a : Assignment) → holds_in l.runner l.term.held a ≡ list_all (clause_holds a) (take l.place l.formula.clauses);
  unrefuted : l.fn.runner.refuted ≡ false → l.term.held.node ≢ False → l.runner.refuted ≡ false;
  goes : Goes l.fn.runner l.runner None;
  paid : PaidTo l.place l.fn.runner l.runner;
}
