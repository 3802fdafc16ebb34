-- What the loops of `places` keep.
use Rattle.std.proofs.Common.{◌≡◌, map, take}
use Rattle.std.specs.Prelude.{IsTrue}
use Rattle.clause_terms.specs.Placed.{literal_at, are_of_levels}
use Rattle.clause_terms.proofs.order.places.Given as goal

abbrev pub invariant-literals : goal.invariant-literals
invariant-literals g l = record {
  literals : map (literal_at l.table.graph) l.placed.items ≡ take l.literal-index l.clause;
  levels : IsTrue (are_of_levels l.table.graph l.placed.items);
}
