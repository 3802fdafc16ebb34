-- Both numbers are moved, and the pairs stay.
use Rattle.drat_checker.specs.Watches.{all_watchers, beside, watchers}
use Rattle.drat_checker.proofs.Lifts.{on-ok}
use Rattle.drat_checker.proofs.Visited.{watched-same}
use Rattle.drat_checker.proofs.Watched.{both-then}
use Rattle.drat_checker.proofs.watches.Watches.postpone.Goals as goal

pub returns-in-None-clause-watched : goal.returns-in-None-clause-watched
returns-in-None-clause-watched c = λ places w. w

pub returns-in_ok-move_number-in-Some-clause-watched : goal.returns-in_ok-move_number-in-Some-clause-watched
returns-in_ok-move_number-in-Some-clause-watched c =
    let kept = c.args.self.now in
    let lists' = c.move_number-in-Some.new.lists in
    let late' = c.move_number-in-Some.new.others in
    on-ok c.move_number-in-Some.result (λ second places w. record {
      many = w.many;
      watched = watched-same kept.pairs.items (all_watchers kept) (beside (watchers lists') (watchers late')) places w.watched
          (both-then c.in_ok-move_number-in-Some.ensures second).kept;
    }) c.move_number-in-Some.ensures
