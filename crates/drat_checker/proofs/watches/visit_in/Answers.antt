-- The list of the literal is taken out, walked, and given back.
use Rattle.std.proofs.Common.{ℕ, List, [], subst}
use Rattle.drat_checker.specs.Watches.{AreVisited, beside, watchers, watchers_with}
use Rattle.drat_checker.proofs.Visited.{given-back, others-kept, taken-out, watched-same}
use Rattle.drat_checker.proofs.Watched.{each-beside}
use Rattle.drat_checker.proofs.watches.visit_in.Goals as goal

pub returns-clause-watched : goal.returns-clause-watched
returns-clause-watched c = λ rest w.
    let literal = c.args.literal in
    let lists = c.args.lists.now in
    let taken = c.take-out.new.self in
    let walked = c.walk.new.lists in
    let given = c.give.new.self in
    watched-same c.walk.new.pairs.items (beside (watchers_with walked literal c.walk.new.out) rest) (beside (watchers given) rest)
    c.args.db.now
    (c.in_ok-conflict.ensures.watched rest
    (watched-same c.args.pairs.now.items (beside (watchers lists) rest) (beside (watchers_with taken literal c.take-out.result) rest)
    c.args.db.now w (λ n x. each-beside (watchers lists) (watchers_with taken literal c.take-out.result) rest n x
    (taken-out lists taken literal c.take-out.result c.take-out.ensures.list c.take-out.ensures.others n x))))
    (λ n x. each-beside (watchers_with walked literal c.walk.new.out) (watchers given) rest n x
    (given-back walked given literal c.walk.new.out c.in_ok-give.ensures.list c.in_ok-give.ensures.others n x))

pub returns-clause-visited : goal.returns-clause-visited
returns-clause-visited c = λ is.
    subst (λ (l : List ℕ). AreVisited c.args.db.now c.walk.new.pairs.items c.args.literal c.walk.new.trail.literals l [])
    c.take-out.ensures.list (c.in_ok-conflict.ensures.visited is)

pub returns-clause-kept : goal.returns-clause-kept
returns-clause-kept c =
    others-kept c.args.lists.now c.take-out.new.self c.walk.new.lists c.give.new.self c.args.literal c.take-out.ensures.others
    c.walk.ensures.kept c.in_ok-give.ensures.others
