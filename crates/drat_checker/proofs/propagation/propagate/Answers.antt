-- One literal more, a false clause, and the end.
use Rattle.std.proofs.Common.{◌<◌, ◌≤◌, length, ap, is_some, arith}
use Rattle.drat_checker.specs.Places.{standing}
use Rattle.drat_checker.specs.Reasons.{IsFalsified}
use Rattle.drat_checker.specs.Watches.{IsSettled}
use Rattle.drat_checker.proofs.Lifts.{if-some-at}
use Rattle.drat_checker.proofs.Propagated.{none-before}
use Rattle.drat_checker.proofs.Derived.{derives-none, derives-then, derives-extends, derives-same}
use Rattle.drat_checker.proofs.Reasoned.{keeps-none, keeps-then}
use Rattle.drat_checker.proofs.Settled.{guard-end, heads-start, holds-more, settled-closed}
use Rattle.drat_checker.proofs.Visited.{more-false}
use Rattle.drat_checker.proofs.Watched.{moves-none, moves-then}
use Rattle.drat_checker.proofs.propagation.propagate.Goals as goal

pub literals-init : goal.literals-init
literals-init c = record {
  watched = c.requires.watched;
  moves = moves-none c.args.kept.now.pairs.items c.args.trail.now.literals;
  derives = derives-none (standing c.args.db.now) c.args.trail.now.literals;
  reasons = keeps-none c.args.db.now c.args.trail.now;
  heads = heads-start c.args.db.now c.args.kept.now c.args.trail.now.literals c.args.from c.requires.guarded;
  within = λ lt. omega (arith, lt);
  holds = c.requires.holds;
}

pub advance-requires : goal.advance-requires
advance-requires c =
    let late : c.literals.heads.late < length c.literals.trail.literals = omega (arith, c.literals-test.true, c.len.ensures.literals) in
    record {
      watched = c.literals.invariant.watched;
      heads = c.literals.invariant.heads;
      within = c.literals.invariant.within late;
      late = late;
    }

pub literals-preserved : goal.literals-preserved
literals-preserved c =
    let so_far = c.literals.invariant in
    let step = c.in_ok-conflict.ensures in
    let e = derives-extends step.derives in
    record {
      watched = step.watched;
      moves = moves-then c.args.trail.now.literals c.literals.trail.literals (more-false (derives-extends so_far.derives)) so_far.moves
          step.moves;
      derives = derives-then so_far.derives step.derives;
      reasons = keeps-then so_far.reasons step.reasons;
      heads = step.heads c.in-None.is;
      within = λ _. step.within c.in-None.is;
      holds = holds-more c.args.db.now e so_far.holds;
    }

pub returns-in-Some-clause-conflict : goal.returns-in-Some-clause-conflict
returns-in-Some-clause-conflict c = λ is.
    none-before c.quiet_law.ensures.none c.quiet_law.ensures.fails (standing c.args.db.now) c.args.trail.now.literals
    c.literals.trail.literals
    (derives-same c.propagation_law.ensures.forced c.literals.invariant.derives)
    (c.in_ok-conflict.ensures.conflict (ap is_some c.in-Some.is))

pub returns-in-Some-clause-derives : goal.returns-in-Some-clause-derives
returns-in-Some-clause-derives c = derives-then c.literals.invariant.derives c.in_ok-conflict.ensures.derives

pub returns-in-Some-clause-reasons : goal.returns-in-Some-clause-reasons
returns-in-Some-clause-reasons c = keeps-then c.literals.invariant.reasons c.in_ok-conflict.ensures.reasons

pub returns-in-Some-clause-falsified : goal.returns-in-Some-clause-falsified
returns-in-Some-clause-falsified c =
    if-some-at (IsFalsified c.args.db.now c.advance.new.trail.literals) c.in_ok-conflict.conflict c.in-Some.number c.in-Some.is
    c.in_ok-conflict.ensures.falsified

pub returns-in-Some-clause-moves : goal.returns-in-Some-clause-moves
returns-in-Some-clause-moves c =
    moves-then c.args.trail.now.literals c.literals.trail.literals (more-false (derives-extends c.literals.invariant.derives))
    c.literals.invariant.moves
    c.in_ok-conflict.ensures.moves

pub returns-clause-settled : goal.returns-clause-settled
returns-clause-settled c = λ is.
    let past : length c.literals.trail.literals ≤ c.literals.heads.late = omega (arith, c.literals-test.false, c.len.ensures.literals) in
    record {
      guarded = guard-end c.args.db.now c.literals.kept.pairs.items c.literals.heads.late c.literals.trail.literals past
          c.literals.invariant.heads.late;
      holds = c.literals.invariant.holds;
    }

pub returns-clause-closed : goal.returns-clause-closed
returns-clause-closed c = λ is.
    let past : length c.literals.trail.literals ≤ c.literals.heads.late = omega (arith, c.literals-test.false, c.len.ensures.literals) in
    let settled : IsSettled c.literals.kept c.args.db.now c.literals.trail.literals = record {
      guarded = guard-end c.args.db.now c.literals.kept.pairs.items c.literals.heads.late c.literals.trail.literals past
          c.literals.invariant.heads.late;
      holds = c.literals.invariant.holds;
    } in
    settled-closed c.literals.kept c.args.db.now c.literals.trail.literals c.literals.invariant.watched.watched.are c.apart_law.ensures
    settled
