-- What was known stays, with what the new clause forces.
use Rattle.std.proofs.Common.{ℤ, List, [], ◌∷◌, ◌++◌, Some, sym, ap, ◌∙◌, subst}
use Rattle.drat_rules.specs.Quiet.{has_quiet}
use Rattle.drat_checker.specs.declared.roots.Roots.{Roots}
use Rattle.drat_checker.specs.declared.roots.Roots.TheVariants.{Clash}
use Rattle.drat_checker.specs.Places.{Places, standing}
use Rattle.drat_checker.specs.Reasons.{AreReasons, IsFalsified}
use Rattle.drat_checker.specs.Roots.{IsClash, WereKept}
use Rattle.drat_checker.specs.Watches.{AreWatched}
use Rattle.drat_checker.proofs.Growing.{last-stands}
use Rattle.drat_checker.proofs.Reasoned.{falsified-more, reasons-more}
use Rattle.drat_checker.proofs.Rooted.{clash-more}
use Rattle.drat_checker.proofs.Standing.{standing-push}
use Rattle.drat_checker.proofs.Units.{units-more}
use Rattle.drat_checker.proofs.roots.raised.Goals as goal

-- a conflict before is one with the clause too, which may be the reason of a root
pub returns-in-Ok-enter : goal.returns-in-Ok-enter
returns-in-Ok-enter c =
    let number = c.args.number in
    let clause = c.args.clause.now in
    let trail = c.args.trail.now in
    let first = c.in-Clash.first in
    let was : WereKept (Clash first) c.args.db.now number clause c.args.kept.now trail =
    subst (λ (r : Roots). WereKept r c.args.db.now number clause c.args.kept.now trail) c.in-Clash.is c.requires in
    let all : Places = was.before ++ Some clause ∷ [] in
    let reasons : AreReasons all [] trail = reasons-more was.before (Some clause) [] trail was.kept.1.reasons in (
      subst (λ (ps : Places). AreWatched c.enter-in-Clash.new.self ps) (sym was.is) (c.in-Ok-enter.ensures.watched was.before was.kept.0),
      subst (λ (ps : Places). IsClash ps c.cite_unit.new.trail first) (sym was.is) (record {
        none = ap (λ (cs : List (List ℤ)). has_quiet cs []) (standing-push was.before clause)
            ∙ clash-more c.quiet_law.ensures.none c.quiet_law.ensures.fails (standing was.before) clause was.kept.1.none;
        reasons = c.cite_unit.ensures.reasons all [] (last-stands was.before number clause was.last) reasons;
        units = c.cite_unit.ensures.units was.before was.last reasons.many
            (units-more was.before was.before (Some clause) trail was.kept.1.units);
        falsified = subst (λ (l : List ℤ). IsFalsified all l first) (sym c.cite_unit.ensures.literals)
            (falsified-more was.before (Some clause) trail.literals first was.kept.1.falsified);
      }),
    )
