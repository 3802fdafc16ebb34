-- What the loop of `add_sums` keeps: the sums of the nodes of the first keys.
use Rattle.std.proofs.Common.{◌≡◌, ◌<◌, ℕ, Ok, length}
use Rattle.std.specs.Prelude.{slice_index_or}
use Rattle.cube_queries.specs.Sums.{Adds, IsSumAt}
use Rattle.cube_queries.proofs.Added.{standing}
use Rattle.cube_queries.proofs.refusal.add_sums.Given as goal

abbrev pub invariant-keys : goal.invariant-keys
invariant-keys g l = record {
  adds : Adds {T = ℕ} (standing l.fn.runner.terms.table.graph.nodes l.key) l.fn.runner l.runner (Ok 0);
  long : length l.sums.items ≡ l.key;
  sums : (key : ℕ) → key < l.key → IsSumAt l.runner.terms.table.graph l.runner.terms.table.book.state.live key
      (slice_index_or l.sums.items key 0);
}
