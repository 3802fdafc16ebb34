-- The other lists stay. Where the literal has no late clauses none is visited.
use Rattle.drat_checker.specs.Watches.{all_watchers, beside, watchers}
use Rattle.drat_checker.proofs.Lifts.{on-ok}
use Rattle.drat_checker.proofs.Visited.{visited-none, watched-same}
use Rattle.drat_checker.proofs.Watched.{swapped}
use Rattle.drat_checker.proofs.watches.Watches.visit_late.Goals as goal

pub visit_in-requires : goal.visit_in-requires
visit_in-requires c = record {
  many = c.requires.watched.many;
  pairs = c.requires.watched.watched.are;
  falsified = c.requires.falsified;
}

pub returns-then-is_empty_at-clause-visited : goal.returns-then-is_empty_at-clause-visited
returns-then-is_empty_at-clause-visited c = λ is.
    visited-none c.args.db.now c.args.self.now.pairs.items c.args.literal c.args.trail.now.literals
    (watchers c.args.self.now.late c.args.literal) (c.is_empty_at.ensures c.if-is_empty_at.true)

pub returns-clause-watched : goal.returns-clause-watched
returns-clause-watched c =
    let kept = c.args.self.now in
    let late' = c.visit_in.new.lists in
    on-ok c.visit_in.result (λ f. record {
      many = c.visit_in.ensures.many;
      watched = watched-same c.visit_in.new.pairs.items (beside (watchers late') (watchers kept.lists))
          (beside (watchers kept.lists) (watchers late')) c.args.db.now
          (f (watchers kept.lists)
          (watched-same kept.pairs.items (all_watchers kept) (beside (watchers kept.late) (watchers kept.lists)) c.args.db.now
          c.requires.watched.watched (swapped (watchers kept.lists) (watchers kept.late))))
          (swapped (watchers late') (watchers kept.lists));
    }) c.visit_in.ensures.watched
