-- The variables of all vertices so far were kept; where all were kept before, nothing was added.
use Rattle.std.proofs.Common.{◌≡◌, ℕ, suc, ◌<◌, length}
use Rattle.variable_order.specs.Completion.{Stands}
use Rattle.variable_order.proofs.completed.Kept.keep_missing.Given as goal

abbrev pub invariant-loop-vertex : goal.invariant-loop-vertex
invariant-loop-vertex l = record {
  vars : l.self.vars ≡ l.fn.self.vars;
  all : (vertex : ℕ) → vertex < l.vertex → Stands (suc vertex) l.self.variables;
  full : length l.fn.self.variables ≡ l.fn.self.vars → l.self.variables ≡ l.fn.self.variables;
}
