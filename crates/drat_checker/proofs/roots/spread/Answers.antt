-- Propagation from roots: a conflict, or more roots.
use Rattle.std.proofs.Common.{[], refl, is_some, ap}
use Rattle.drat_checker.specs.Places.{standing}
use Rattle.drat_checker.specs.Reasons.{IsFalsified}
use Rattle.drat_checker.proofs.Lifts.{if-some-at}
use Rattle.drat_checker.proofs.Rooted.{clash-from}
use Rattle.drat_checker.proofs.Derived.{derives-extends, derives-then}
use Rattle.drat_checker.proofs.Units.{units-extended}
use Rattle.drat_checker.proofs.roots.spread.Goals as goal

pub returns-in-Some : goal.returns-in-Some
returns-in-Some c = (
  c.in_ok-conflict.ensures.watched,
  record {
    none = clash-from c.quiet_law.ensures.none c.quiet_law.ensures.fails c.propagation_law.ensures.forced (standing c.args.db.now)
        c.args.trail.now.literals c.requires.derives (c.in_ok-conflict.ensures.conflict (ap is_some c.in-Some.is));
    reasons = c.in_ok-conflict.ensures.reasons.kept [] refl c.requires.reasons;
    units = units-extended c.args.db.now c.args.db.now c.args.trail.now c.propagate.new.trail c.once_law.ensures c.requires.reasons.many
        (derives-extends c.in_ok-conflict.ensures.derives) c.in_ok-conflict.ensures.reasons.rest c.in_ok-conflict.ensures.reasons.parts
        c.requires.holds c.requires.units;
    falsified = if-some-at (IsFalsified c.args.db.now c.propagate.new.trail.literals) c.in_ok-conflict.conflict c.in-Some.number
        c.in-Some.is
        c.in_ok-conflict.ensures.falsified;
  },
)

pub returns-in-None : goal.returns-in-None
returns-in-None c = (
  c.in_ok-conflict.ensures.watched,
  record {
    derives = derives-then c.requires.derives c.in_ok-conflict.ensures.derives;
    closed = c.in_ok-conflict.ensures.closed c.in-None.is;
    settled = c.in_ok-conflict.ensures.settled c.in-None.is;
    reasons = c.in_ok-conflict.ensures.reasons.kept [] refl c.requires.reasons;
    units = units-extended c.args.db.now c.args.db.now c.args.trail.now c.propagate.new.trail c.once_law.ensures c.requires.reasons.many
        (derives-extends c.in_ok-conflict.ensures.derives) c.in_ok-conflict.ensures.reasons.rest c.in_ok-conflict.ensures.reasons.parts
        c.requires.holds c.requires.units;
  },
)
