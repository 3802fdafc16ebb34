-- Propagation from nothing: the short clauses first, then the others.
use Rattle.std.proofs.Common.{◌≡◌, [], refl, is_some, sym, ap, ◌∙◌, subst}
use Rattle.drat_rules.specs.Quiet.{has_quiet}
use Rattle.drat_checker.specs.Places.{Places, standing}
use Rattle.drat_checker.specs.Propagation.{Derives}
use Rattle.drat_checker.specs.Trail.{Trail, no_literals}
use Rattle.drat_checker.specs.Reasons.{AllByUnits, AreByUnits, AreReasons, IsFalsified, KeepsReasons}
use Rattle.drat_checker.proofs.Lifts.{if-some-at}
use Rattle.drat_checker.proofs.Reasoned.{no-reasons}
use Rattle.drat_checker.proofs.Units.{units-all}
use Rattle.drat_checker.proofs.roots.find.Goals as goal

-- what is kept from nothing
from-nothing : (places : Places) (none new : Trail) → none ≡ no_literals → KeepsReasons places [] none new → AreReasons places [] new
from-nothing places none new is keeps =
    keeps.kept [] refl (subst (λ (t : Trail). AreReasons places [] t) (sym is) (no-reasons places))

-- all reasons are short clauses so far
units-so-far : (places : Places) (none new : Trail) → none ≡ no_literals → KeepsReasons places [] none new
    → (AllByUnits places none → AllByUnits places new) → AreByUnits places places new
units-so-far places none new is keeps units =
    units-all places places new (from-nothing places none new is keeps).many
    (units (subst (λ (t : Trail). AllByUnits places t) (sym is) (record { all = refl })))

pub returns-in-Some-clause-clash : goal.returns-in-Some-clause-clash
returns-in-Some-clause-clash c = record {
  none = ap (λ (t : Trail). has_quiet (standing c.args.db.now) t.literals) (sym c.truncate.ensures)
      ∙ c.in_ok-short.ensures.conflict (ap is_some c.in-Some.is);
  reasons = from-nothing c.args.db.now c.truncate.new.self c.take_short.new.trail c.truncate.ensures c.in_ok-short.ensures.reasons;
  units = units-so-far c.args.db.now c.truncate.new.self c.take_short.new.trail c.truncate.ensures c.in_ok-short.ensures.reasons
      c.in_ok-short.ensures.units;
  falsified = if-some-at (IsFalsified c.args.db.now c.take_short.new.trail.literals) c.in_ok-short.short c.in-Some.number c.in-Some.is
      c.in_ok-short.ensures.falsified;
}

pub find_rest-requires : goal.find_rest-requires
find_rest-requires c = record {
  watched = c.requires;
  holds = c.in_ok-short.ensures.holds c.in-None.is;
  derives = subst (λ (t : Trail). Derives (standing c.args.db.now) t.literals c.take_short.new.trail.literals) c.truncate.ensures
      c.in_ok-short.ensures.derives;
  reasons = from-nothing c.args.db.now c.truncate.new.self c.take_short.new.trail c.truncate.ensures c.in_ok-short.ensures.reasons;
  units = units-so-far c.args.db.now c.truncate.new.self c.take_short.new.trail c.truncate.ensures c.in_ok-short.ensures.reasons
      c.in_ok-short.ensures.units;
}
