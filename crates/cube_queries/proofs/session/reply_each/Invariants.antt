-- What the loop of `reply_each` keeps.
use Rattle.std.proofs.Common.{take}
use Rattle.cube_models.specs.Finder.{IsFinder}
use Rattle.cube_queries.specs.Sums.{AreAllReached, AreReady}
use Rattle.cube_queries.proofs.Added.{AreFewYet}
use Rattle.cube_queries.proofs.Asked.{AnswersIn}
use Rattle.cube_queries.proofs.Stays.{Stays}
use Rattle.cube_queries.proofs.session.reply_each.Given as goal

abbrev pub invariant-cubes : goal.invariant-cubes
invariant-cubes g l = record {
  stays : Stays l.fn.runner l.runner;
  finder : IsFinder l.finder;
  reached : AreAllReached l.runner;
  sums : AreReady l.runner.terms.table.graph l.runner.terms.table.book.state.live l.sums.items;
  few : AreFewYet l.place l.sums.items l.fn.runner l.runner;
  answers : AnswersIn l.runner (take l.place l.cubes) l.answers;
}
