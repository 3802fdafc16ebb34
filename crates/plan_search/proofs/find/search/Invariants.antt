-- What the loop of `search` keeps.
use Rattle.std.proofs.Common.{◌≡◌}
use Rattle.plan_search.specs.Orders.{MakesMore}
use Rattle.plan_search.proofs.find.search.Given as goal

abbrev pub invariant-trials : goal.invariant-trials
invariant-trials g l = record {
  more : MakesMore l.fn.orders l.orders;
  beside : g.O.Observer.beside l.observer ≡ g.O.Observer.beside l.fn.observer;
}
