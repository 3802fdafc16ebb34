-- Propagation from the first literal on: a conflict, or the roots.
use Rattle.std.proofs.Common.{[], refl, is_some, ap}
use Rattle.drat_checker.specs.Places.{standing}
use Rattle.drat_checker.specs.Reasons.{IsFalsified}
use Rattle.drat_checker.proofs.Lifts.{if-some-at}
use Rattle.drat_checker.proofs.Rooted.{clash-from}
use Rattle.drat_checker.proofs.Derived.{derives-extends, derives-then}
use Rattle.drat_checker.proofs.Settled.{guard-none}
use Rattle.drat_checker.proofs.Units.{units-extended}
use Rattle.drat_checker.proofs.roots.find_rest.Goals as goal

pub propagate-requires : goal.propagate-requires
propagate-requires c = record {
  watched = c.requires.watched;
  guarded = guard-none c.args.db.now c.args.kept.now.pairs.items c.args.trail.now.literals;
  holds = c.requires.holds;
}

pub returns-in-Some-clause-clash : goal.returns-in-Some-clause-clash
returns-in-Some-clause-clash c = record {
  none = clash-from c.quiet_law.ensures.none c.quiet_law.ensures.fails c.propagation_law.ensures.forced (standing c.args.db.now)
      c.args.trail.now.literals c.requires.derives (c.in_ok-late.ensures.conflict (ap is_some c.in-Some.is));
  reasons = c.in_ok-late.ensures.reasons.kept [] refl c.requires.reasons;
  units = units-extended c.args.db.now c.args.db.now c.args.trail.now c.propagate.new.trail c.once_law.ensures c.requires.reasons.many
      (derives-extends c.in_ok-late.ensures.derives) c.in_ok-late.ensures.reasons.rest c.in_ok-late.ensures.reasons.parts
      c.requires.holds c.requires.units;
  falsified = if-some-at (IsFalsified c.args.db.now c.propagate.new.trail.literals) c.in_ok-late.late c.in-Some.number c.in-Some.is
      c.in_ok-late.ensures.falsified;
}

pub returns-in-None-clause-settled : goal.returns-in-None-clause-settled
returns-in-None-clause-settled c = λ is. record {
  derives = derives-then c.requires.derives c.in_ok-late.ensures.derives;
  closed = c.in_ok-late.ensures.closed c.in-None.is;
  settled = c.in_ok-late.ensures.settled c.in-None.is;
  reasons = c.in_ok-late.ensures.reasons.kept [] refl c.requires.reasons;
  units = units-extended c.args.db.now c.args.db.now c.args.trail.now c.propagate.new.trail c.once_law.ensures c.requires.reasons.many
      (derives-extends c.in_ok-late.ensures.derives) c.in_ok-late.ensures.reasons.rest c.in_ok-late.ensures.reasons.parts
      c.requires.holds c.requires.units;
}
