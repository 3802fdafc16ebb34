-- What is plain, kept or of the level is answered; a node above the level is left.
use Rattle.std.proofs.Common.{◌≡◌, Option, Result, Ok, None, Some, Err, Contains, ap, refl, arith, sym, subst}
use Rattle.std.proofs.lemmas.List.Elements.{Contains-append_left}
use Rattle.node_table.specs.declared.error.TableError.{TableError}
use Rattle.node_table.specs.declared.node.Node.{Node}
use Rattle.node_table.specs.HandedOn.{handed_on}
use Rattle.operations.specs.Entries.{Quantification}
use Rattle.quantify.specs.ExistsCache.{ExistsCache, both_caches, quantification, quantifications}
use Rattle.quantify.specs.OrCache.{disjunction, disjunctions}
use Rattle.quantify.specs.Quantification.{IsAnswered, Quantifies, quantification_of}
use Rattle.quantify.proofs.BothCaches.{looked_part}
use Rattle.quantify.proofs.Lists.{have_same, remembers_all, remembers_looked}
use Rattle.quantify.proofs.Quantifications.{only_quantification, quantified_below}
use Rattle.quantify.proofs.Running.{runs_none}
use Rattle.quantify.proofs.quantify.answer.Goals as goal

same_some : (x y : Node) → Some x ≡ Some y → x ≡ y
same_some x y is = cc

no_found : (x : Node) → None ≡ Some x → ⊥
no_found x is = cc

pub returns-then-level-own : goal.returns-then-level-own
returns-then-level-own g c =
    let table = c.args.table.now in
    let cache = c.args.cache.now in
    let ors = c.args.ors.now in
    let u = c.args.u in
    let level = c.args.level in
    let can = c.requires.can in
    let found = quantified_below c.cofactor_law.ensures table.graph can.sound.tied.reduced level u
    (record { stands = can.stands; below = omega (arith, c.if-level-own.true, c.level_of-own.ensures) }) in record {
      runs = runs_none c.steps_law.ensures c.subfunction_law.ensures table (both_caches cache ors)
          (quantification_of table.graph u level) can.sound (both_caches cache ors) can.fits u;
      remembers = remembers_all quantification cache.results;
      remembers_ors = remembers_all disjunction ors.results;
      quantified = found;
      reachable = c.reach_law.ensures.none_made table.graph u;
      kept = λ at. absurd (omega (arith, at, c.if-level-own.true, c.level_of-own.ensures));
      known = λ other there. (
        ap Ok (only_quantification c.canonical_law.ensures table.graph can.sound.tied.reduced u level u other found
            (can.fits.each (Quantification u level other) (Contains-append_left (quantifications cache) (disjunctions ors) _ there)).1),
        refl,
        have_same (quantifications cache),
        refl,
      );
      plain = λ below. (refl, refl, refl, refl);
    }

pub returns-in-Some : goal.returns-in-Some
returns-in-Some g c =
    let table = c.args.table.now in
    let cache = c.args.cache.now in
    let after = c.look.new.self in
    let ors = c.args.ors.now in
    let u = c.args.u in
    let level = c.args.level in
    let can = c.requires.can in
    let looked = c.in-Some.ensures.looked in
    let same = looked.leaves.same in
    let w = c.in-Some.w in
    let there = same.back (Quantification u level w) looked.found in record {
      runs = runs_none c.steps_law.ensures c.subfunction_law.ensures table (both_caches cache ors)
          (quantification_of table.graph u level) can.sound (both_caches after ors)
          (looked_part c.entry_law.ensures table cache ors can.fits after same) w;
      remembers = remembers_looked quantification cache.results after.results looked.leaves;
      remembers_ors = remembers_all disjunction ors.results;
      quantified = (can.fits.each (Quantification u level w) (Contains-append_left (quantifications cache) (disjunctions ors) _ there)).1;
      reachable = c.reach_law.ensures.none_made table.graph w;
      kept = λ at. looked.found;
      known = λ other had. (ap Ok (same_some w other (looked.exact other had)), refl, same, refl);
      plain = λ below. absurd (omega (arith, below, c.if-level-own.false, c.level_of-own.ensures));
    }

pub returns-then-own-level : goal.returns-then-own-level
returns-then-own-level g c = (
  refl,
  c.in_default.ensures.missed refl,
  refl,
  omega (arith, c.if-own-level.true, c.level_of-own.ensures),
  λ w there. no_found w (c.in_default.ensures.looked.exact w there),
)

pub disjoin_children-requires-clause-missed : goal.disjoin_children-requires-clause-missed
disjoin_children-requires-clause-missed g c w there = no_found w
    (c.in_default.ensures.looked.exact w (subst (λ (cache : ExistsCache). Contains (quantifications cache)
    (Quantification c.args.u c.args.level w)) (c.in_default.ensures.missed refl) there))

pub returns-in_err-w : goal.returns-in_err-w
returns-in_err-w g c =
    let old = c.args.table.now in
    let came = c.in_err-w.field-0.0 in
    subst (λ (r : Result (Option Node) TableError). IsAnswered old c.args.cache.now
    c.args.ors.now c.args.u c.args.level c.disjoin_children.new.table c.disjoin_children.new.cache
    c.disjoin_children.new.ors r) (sym (handed_on _ came came c.from_residual.ensures.1 refl))
    (subst (λ (cache : ExistsCache). Quantifies old cache c.args.ors.now c.args.u
    c.args.level c.disjoin_children.new.table c.disjoin_children.new.cache
    c.disjoin_children.new.ors (Err came)) (c.in_default.ensures.missed refl) c.in_err-w.ensures)
