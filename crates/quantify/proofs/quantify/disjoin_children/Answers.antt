-- The disjunction of both children, with the cache of quantifications beside its own; it is kept.
use Rattle.std.proofs.Common.{Ok, Err, refl, arith, subst, sym}
use Rattle.node_table.specs.declared.error.TableError.TheVariants.{OutOfMemory}
use Rattle.node_table.specs.declared.node.Node.{Node}
use Rattle.node_table.specs.Diagram.{high_at, low_at}
use Rattle.node_table.specs.HandedOn.{handed_on, no_error}
use Rattle.node_table.specs.Made.{LacksPart, MakesOnly}
use Rattle.operations.specs.Results.{Disjoined}
use Rattle.quantify.specs.ExistsCache.{ExistsCache, both_caches, quantification}
use Rattle.quantify.specs.OrCache.{disjunctions}
use Rattle.quantify.specs.Quantification.{Quantifies, quantification_of}
use Rattle.quantify.specs.Runs.{Runs}
use Rattle.quantify.proofs.BothCaches.{kept_part, ors_part, runs_beside}
use Rattle.quantify.proofs.Lists.{remembers_all}
use Rattle.quantify.proofs.Quantifications.{quantification_by, quantified_disjoined}
use Rattle.quantify.proofs.Running.{Answer, runs_further, runs_none, runs_refused}
use Rattle.quantify.proofs.quantify.disjoin_children.Goals as goal

pub or-requires-clause-fits : goal.or-requires-clause-fits
or-requires-clause-fits g c = ors_part c.entry_law.ensures c.args.table.now c.args.cache.now c.args.ors.now c.requires.can.fits

pub returns-in_err-w : goal.returns-in_err-w
returns-in_err-w g c =
    let old = c.args.table.now in
    let new = c.or.new.table in
    let cache = c.args.cache.now in
    let ors = c.args.ors.now in
    let u = c.args.u in
    let level = c.args.level in
    let can = c.requires.can in
    let done = c.in_err-w.ensures in
    let came = c.in_err-w.field-0.0 in
    let children = c.cofactors-high.ensures in
    let at = quantification_by c.cofactor_law.ensures old.graph can.sound.tied.reduced level u can.stands c.requires.at can.within
    c.cofactors-high.result.0 c.cofactors-high.result.1 children.high children.low in
    let own : Runs old (disjunctions ors) (quantification_of old.graph u level) new
    (disjunctions c.or.new.cache) (Err came) = record {
      steps = done.steps;
      retired = done.retired;
      none_added = done.none_added;
      fits = done.fits;
      made = subst (MakesOnly old.graph new.graph) at done.made;
      lacks = λ is. subst (LacksPart new.graph) at (done.lacks is);
    } in
    subst (λ (r : Answer). Quantifies old cache ors u level new cache c.or.new.cache r)
    (sym (handed_on _ came came c.from_residual.ensures.1 refl)) (record {
      runs = runs_beside c.entry_law.ensures old can.sound cache ors can.fits (quantification_of old.graph u level) new c.or.new.cache
          (Err came) own;
      remembers = remembers_all quantification cache.results;
      remembers_ors = record { entries = done.remembered; no_fewer = done.no_fewer; capacity = done.capacity };
      quantified = tt;
      reachable = tt;
      kept = λ at. tt;
      known = λ w there. absurd (c.requires.missed w there);
      plain = λ below. absurd (omega (arith, below, c.requires.at));
    })

pub returns-in_err-keep : goal.returns-in_err-keep
returns-in_err-keep g c =
    let old = c.args.table.now in
    let new = c.or.new.table in
    let cache = c.args.cache.now in
    let ors = c.args.ors.now in
    let u = c.args.u in
    let level = c.args.level in
    let can = c.requires.can in
    let done = c.in_ok-w.ensures in
    let w = c.in_ok-w.w in
    let children = c.cofactors-high.ensures in
    let at = quantification_by c.cofactor_law.ensures old.graph can.sound.tied.reduced level u can.stands c.requires.at can.within
    c.cofactors-high.result.0 c.cofactors-high.result.1 children.high children.low in
    let own : Runs old (disjunctions ors) (quantification_of old.graph u level) new
    (disjunctions c.or.new.cache) (Ok w) = record {
      steps = done.steps;
      retired = done.retired;
      none_added = done.none_added;
      fits = done.fits;
      made = subst (MakesOnly old.graph new.graph) at done.made;
      lacks = λ is. subst (LacksPart new.graph) at (done.lacks is);
    } in
    let first = runs_beside c.entry_law.ensures old can.sound cache ors can.fits (quantification_of old.graph u level) new c.or.new.cache
    (Ok w) own in
    let list = both_caches cache c.or.new.cache in
    subst (λ (r : Answer). Quantifies old cache ors u level new c.keep.new.self
    c.or.new.cache r) (sym (handed_on _ OutOfMemory OutOfMemory c.from_residual-in_err-keep.ensures.1 refl))
    (subst (λ (after : ExistsCache). Quantifies old cache ors u level new after
    c.or.new.cache (Err OutOfMemory)) (sym c.in_err-keep.ensures.refused) (record {
      runs = runs_further c.steps_law.ensures c.subfunction_law.ensures old (both_caches cache ors)
          (quantification_of old.graph u level) new list (Err OutOfMemory) new list w first
          (runs_refused c.steps_law.ensures c.subfunction_law.ensures new list
          (quantification_of old.graph u level) first.steps.leaves.sound list (first.fits no_error));
      remembers = remembers_all quantification cache.results;
      remembers_ors = record { entries = done.remembered; no_fewer = done.no_fewer; capacity = done.capacity };
      quantified = tt;
      reachable = tt;
      kept = λ at. tt;
      known = λ w there. absurd (c.requires.missed w there);
      plain = λ below. absurd (omega (arith, below, c.requires.at));
    }))

pub returns : goal.returns
returns g c =
    let old = c.args.table.now in
    let new = c.or.new.table in
    let cache = c.args.cache.now in
    let ors = c.args.ors.now in
    let u = c.args.u in
    let level = c.args.level in
    let can = c.requires.can in
    let done = c.in_ok-w.ensures in
    let w = c.in_ok-w.w in
    let children = c.cofactors-high.ensures in
    let at = quantification_by c.cofactor_law.ensures old.graph can.sound.tied.reduced level u can.stands c.requires.at can.within
    c.cofactors-high.result.0 c.cofactors-high.result.1 children.high children.low in
    let own : Runs old (disjunctions ors) (quantification_of old.graph u level) new
    (disjunctions c.or.new.cache) (Ok w) = record {
      steps = done.steps;
      retired = done.retired;
      none_added = done.none_added;
      fits = done.fits;
      made = subst (MakesOnly old.graph new.graph) at done.made;
      lacks = λ is. subst (LacksPart new.graph) at (done.lacks is);
    } in
    let first = runs_beside c.entry_law.ensures old can.sound cache ors can.fits (quantification_of old.graph u level) new c.or.new.cache
    (Ok w) own in
    let list = both_caches cache c.or.new.cache in
    let after = c.keep.new.self in
    let kept = c.in_ok-keep.ensures.kept in
    let found_children : Disjoined new.graph (high_at old.graph level u) (low_at old.graph level u) w =
    subst (λ (n : Node). Disjoined new.graph n (low_at old.graph level u) w) children.high
    (subst (λ (n : Node). Disjoined new.graph c.cofactors-high.result.0 n w) children.low done.disjoined) in
    let found = quantified_disjoined c.cofactor_law.ensures c.growth_law.ensures old.graph new.graph can.sound.tied.reduced
    done.steps.extends.nodes level u can.stands c.requires.at can.within w found_children in
    let stands = c.growth_law.ensures.stands old.graph new.graph done.steps.extends.nodes u can.stands in
    let fits = kept_part c.entry_law.ensures new cache c.or.new.cache (first.fits no_error) after u w level (stands, found) _ kept.one in record {
      runs = runs_further c.steps_law.ensures c.subfunction_law.ensures old (both_caches cache ors)
          (quantification_of old.graph u level) new (both_caches after c.or.new.cache) (Ok w) new list w first
          (runs_none c.steps_law.ensures c.subfunction_law.ensures new list (quantification_of old.graph u level) first.steps.leaves.sound
          (both_caches after c.or.new.cache) fits w);
      remembers = c.cache_law.ensures.makes_room quantification cache.results cache.results after.results (u, level) c.requires.missed
          (remembers_all quantification cache.results) kept.room;
      remembers_ors = record { entries = done.remembered; no_fewer = done.no_fewer; capacity = done.capacity };
      quantified = found;
      reachable = done.reachable;
      kept = λ at. kept.one.kept;
      known = λ other there. absurd (c.requires.missed other there);
      plain = λ below. absurd (omega (arith, below, c.requires.at));
    }
