-- What the new clause forces, and what that forces in turn.
use Rattle.std.proofs.Common.{◌≡◌, ℤ, List, [], Some, take, refl, is_some, sym, ap, ◌∙◌, subst}
use Rattle.drat_checker.specs.Places.{Places, place_at, standing}
use Rattle.drat_checker.specs.Reasons.{AreReasons, IsFalsified}
use Rattle.drat_checker.specs.Watches.{AreTrue, IsGuarded}
use Rattle.drat_checker.proofs.Lifts.{if-some-at}
use Rattle.drat_checker.proofs.Rooted.{clash-from}
use Rattle.drat_checker.proofs.Derived.{derives-extends, derives-is, derives-then}
use Rattle.drat_checker.proofs.Growing.{growing-among, growing-cited, growing-derived, growing-guarded, growing-holds, growing-reasons}
use Rattle.drat_checker.proofs.Growing.{growing-stands}
use Rattle.drat_checker.proofs.Propagated.{extends-front}
use Rattle.drat_checker.proofs.roots.grow.Goals as goal

pub returns-in-Some : goal.returns-in-Some
returns-in-Some c =
    let g = c.requires.growing in
    let places = c.args.db.now in
    let number = c.args.number in
    let clause = c.args.clause.now in
    let kept = c.args.kept.now in
    let trail = c.args.trail.now in
    let stands = growing-stands places number clause kept trail g in
    let derives = c.in_ok-own.ensures.derives (standing places) (growing-among places number clause kept trail g) in
    let keeps = c.in_ok-own.ensures.reasons places stands in
    let reasons : AreReasons places [] c.take_clause.new.trail = keeps.kept [] refl (growing-reasons places number clause kept trail g) in (
      c.requires.watched,
      record {
        none = clash-from c.quiet_law.ensures.none c.quiet_law.ensures.fails c.propagation_law.ensures.forced
            (standing places) trail.literals (growing-derived places number clause kept trail g)
            (c.in_ok-own.ensures.conflict (ap is_some c.in-Some.is) (standing places) (growing-among places number clause kept trail g));
        reasons = c.cite_unit.ensures.reasons places [] stands reasons;
        units = growing-cited places number clause kept trail g c.take_clause.new.trail c.cite_unit.new.trail c.once_law.ensures
            (derives-extends derives) keeps.rest keeps.parts reasons.many c.cite_unit.ensures.units;
        falsified = subst (λ (l : List ℤ). IsFalsified places l c.in-Some.first) (sym c.cite_unit.ensures.literals)
            (if-some-at (λ found. (ps : Places) → place_at ps number ≡ Some clause
            → IsFalsified ps c.take_clause.new.trail.literals found) c.in_ok-own.own c.in-Some.first c.in-Some.is
            c.in_ok-own.ensures.falsified places stands);
      },
    )

pub spread-requires : goal.spread-requires
spread-requires c =
    let g = c.requires.growing in
    let places = c.args.db.now in
    let number = c.args.number in
    let clause = c.args.clause.now in
    let kept = c.args.kept.now in
    let trail = c.args.trail.now in
    let stands = growing-stands places number clause kept trail g in
    let derives = c.in_ok-own.ensures.derives (standing places) (growing-among places number clause kept trail g) in
    let keeps = c.in_ok-own.ensures.reasons places stands in
    let reasons : AreReasons places [] c.take_clause.new.trail = keeps.kept [] refl (growing-reasons places number clause kept trail g) in
    let e = derives-extends derives in
    let same = c.cite_unit.ensures.literals in
    let front : take c.len-count.result c.cite_unit.new.trail.literals ≡ trail.literals =
    ap (take c.len-count.result) same ∙ ap (λ n. take n c.take_clause.new.trail.literals) c.len-count.ensures.literals ∙ extends-front e in
    record {
      watched = c.requires.watched;
      guarded = subst (λ (l : List ℤ). IsGuarded places kept.pairs.items l c.cite_unit.new.trail.literals) (sym front)
          (subst (λ (l : List ℤ). IsGuarded places kept.pairs.items trail.literals l) (sym same)
          (growing-guarded places number clause kept trail g c.take_clause.new.trail.literals e (c.in_ok-own.ensures.taken c.in-None.is)));
      holds = subst (λ (l : List ℤ). AreTrue places l) (sym same)
          (growing-holds places number clause kept trail g c.take_clause.new.trail.literals e (c.in_ok-own.ensures.taken c.in-None.is));
      derives = derives-is same (derives-then (growing-derived places number clause kept trail g) derives);
      reasons = c.cite_unit.ensures.reasons places [] stands reasons;
      units = growing-cited places number clause kept trail g c.take_clause.new.trail c.cite_unit.new.trail c.once_law.ensures e
          keeps.rest keeps.parts reasons.many c.cite_unit.ensures.units;
    }
