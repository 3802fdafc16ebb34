-- Of a sequence that is an order, the vertices so far were kept as they stand.
use Rattle.std.proofs.Common.{◌≡◌, suc, length, map, take}
use Rattle.cnf_base.specs.Order.{IsOrder}
use Rattle.variable_order.proofs.completed.Kept.keep_all.Given as goal

abbrev pub invariant-loop-vertex : goal.invariant-loop-vertex
invariant-loop-vertex l = record {
  vars : l.self.vars ≡ l.fn.self.vars;
  order : IsOrder (map suc l.sequence) → length l.sequence ≡ l.fn.self.vars → l.self.variables ≡ map suc (take l.vertex-index l.sequence);
}
