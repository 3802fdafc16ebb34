-- What the loops of `take_moves` keep.
use Rattle.std.proofs.Common.{◌≡◌, ℕ, ◌+◌, ◌*◌, ◌≤◌, false, [], length, reverse}
use Rattle.node_table.specs.Diagram.{levels}
use Rattle.node_table.specs.Progress.{Continues}
use Rattle.node_table.specs.Table.{AddsNoEmpty, live_nodes}
use Rattle.schedule_plan.specs.SetMove.{in_order}
use Rattle.bdd_terms.specs.Caches.{HaveSize, all_entries}
use Rattle.term_runner.specs.Held.{IsReady}
use Rattle.bdd_terms.specs.Units.{HasUnits}
use Rattle.bdd_terms.specs.Price.{IsMovePrice}
use Rattle.bdd_terms.specs.Tidy.{IsTidy}
use Rattle.term_runner.specs.Width.{HasWidth, keeps_trail}
use Rattle.term_runner.proofs.Between.{IsBetween}
use Rattle.term_runner.proofs.stacked.StackedTerms.take_moves.Given as goal

abbrev pub invariant-moves : goal.invariant-moves
invariant-moves g l = record {
  few : l.i ≤ length l.plan;
  counted : l.watch.moves ≡ l.i;
  tidy : IsTidy (live_nodes l.self.table.graph) l.self.left;
  left : keeps_trail l.fn.self.table.max_nodes ≡ false → (width : ℕ) → HasWidth l.formula l.fn.self.table.graph.order l.plan width
      → l.self.left ≤ width;
  price : (width price : ℕ) → HasWidth l.formula l.fn.self.table.graph.order l.plan width
      → IsMovePrice (levels l.fn.self.table.graph) l.capacity width price → l.self.table.book.state.top ≤ l.fn.self.table.book.state.top +
      l.i * price;
  size : HaveSize l.self.caches l.capacity;
  between : IsBetween l.formula (in_order l.fn.self.table.graph.order l.plan) l.i l.self.table.graph l.self.table.book.state.live
      l.self.out.items l.self.trail;
  ready : IsReady l.formula l.self.table (all_entries l.self.caches);
  settled : l.self.table.retired ≡ [];
  own : HasUnits l.self.table (all_entries l.self.caches) (reverse l.self.out.items);
  continues : Continues l.fn.self.table l.self.table;
  no_empty : AddsNoEmpty l.fn.self.table l.self.table;
}
