-- The late lists stay.
use Rattle.drat_checker.specs.Watches.{watchers}
use Rattle.drat_checker.proofs.Lifts.{on-ok}
use Rattle.drat_checker.proofs.watches.Watches.visit.Goals as goal

pub visit_in-requires : goal.visit_in-requires
visit_in-requires c = record {
  many = c.requires.watched.many;
  pairs = c.requires.watched.watched.are;
  falsified = c.requires.falsified;
}

pub returns-clause-watched : goal.returns-clause-watched
returns-clause-watched c =
    on-ok c.visit_in.result (λ f. record {
      many = c.visit_in.ensures.many;
      watched = f (watchers c.args.self.now.late) c.requires.watched.watched;
    }) c.visit_in.ensures.watched
