-- The node of both results is kept as the quantification, or its step or the cache is refused.
use Rattle.std.proofs.Common.{Ok, Err, length, ap, refl, subst, sym}
use Rattle.node_table.specs.declared.error.TableError.TheVariants.{OutOfMemory}
use Rattle.node_table.specs.HandedOn.{handed_on, no_error}
use Rattle.quantify.specs.ExistsCache.{ExistsCache, both_caches, quantification}
use Rattle.quantify.specs.Quantification.{Closes, quantification_of}
use Rattle.quantify.proofs.BothCaches.{kept_part}
use Rattle.quantify.proofs.Lists.{makes_no_room}
use Rattle.quantify.proofs.Quantifications.{high_found_below, low_found_below, quantification_sides, quantified_joined}
use Rattle.quantify.proofs.Running.{Answer, runs_further, runs_none, runs_refused}
use Rattle.quantify.proofs.quantify.ExistsOperationOperation.close.Goals as goal

pub join-requires-clause-high : goal.join-requires-clause-high
join-requires-clause-high g c =
    high_found_below c.cofactor_law.ensures c.args.table.now.graph c.requires.sound.tied.reduced c.args.parts.now c.requires.above
    c.args.high.now c.args.low.now c.requires.on_high c.requires.on_low

pub join-requires-clause-low : goal.join-requires-clause-low
join-requires-clause-low g c =
    low_found_below c.cofactor_law.ensures c.args.table.now.graph c.requires.sound.tied.reduced c.args.parts.now c.requires.above
    c.args.high.now c.args.low.now c.requires.on_high c.requires.on_low

pub returns-in_err-w-clause-closes : goal.returns-in_err-w-clause-closes
returns-in_err-w-clause-closes g c =
    let p = c.args.parts.now in
    let old = c.args.table.now in
    let new = c.join.new.table in
    let cache = c.args.caches.now.exists.now in
    let ors = c.args.caches.now.ors.now in
    let list = both_caches cache ors in
    let came = c.in_err-w.field-0.0 in
    let sides = quantification_sides c.cofactor_law.ensures old.graph c.requires.sound.tied.reduced p c.requires.above c.args.high.now
    c.args.low.now c.requires.on_high c.requires.on_low in (
      subst (λ (r : Answer). Closes old cache ors p c.args.high.now c.args.low.now new cache
          ors r) (sym (handed_on _ came came c.from_residual.ensures.1 refl)) (record {
            runs = c.in_err-w.ensures.runs list (quantification_of old.graph p.node p.level) c.requires.fits sides;
            room = makes_no_room quantification cache.results (p.node, p.level);
            same_ors = refl;
            quantified = tt;
            kept = tt;
            children = tt;
            reachable = tt;
          }),
      record { exists = refl; ors = refl },
    )

pub returns-in_err-w-clause-levels : goal.returns-in_err-w-clause-levels
returns-in_err-w-clause-levels g c = ap length (returns-in_err-w-clause-closes g c).0.runs.steps.extends.nodes.order

pub returns-in_err-keep-clause-closes : goal.returns-in_err-keep-clause-closes
returns-in_err-keep-clause-closes g c =
    let p = c.args.parts.now in
    let old = c.args.table.now in
    let new = c.join.new.table in
    let cache = c.args.caches.now.exists.now in
    let ors = c.args.caches.now.ors.now in
    let list = both_caches cache ors in
    let function = quantification_of old.graph p.node p.level in
    let sides = quantification_sides c.cofactor_law.ensures old.graph c.requires.sound.tied.reduced p c.requires.above c.args.high.now
    c.args.low.now c.requires.on_high c.requires.on_low in
    let first = c.in_ok-w.ensures.runs list function c.requires.fits sides in (
      subst (λ (r : Answer). Closes old cache ors p c.args.high.now c.args.low.now new
          c.keep.new.self ors r)
          (sym (handed_on _ OutOfMemory OutOfMemory c.from_residual-in_err-keep.ensures.1 refl))
          (subst (λ (after : ExistsCache). Closes old cache ors p c.args.high.now
          c.args.low.now new after ors (Err OutOfMemory)) (sym c.in_err-keep.ensures.refused) (record {
            runs = runs_further c.steps_law.ensures c.subfunction_law.ensures old list function new list
                (Err OutOfMemory) new list c.in_ok-w.w first
                (runs_refused c.steps_law.ensures c.subfunction_law.ensures new list function first.steps.leaves.sound list
                (first.fits no_error));
            room = makes_no_room quantification cache.results (p.node, p.level);
            same_ors = refl;
            quantified = tt;
            kept = tt;
            children = tt;
            reachable = tt;
          })),
      record { exists = refl; ors = refl },
    )

pub returns-in_err-keep-clause-levels : goal.returns-in_err-keep-clause-levels
returns-in_err-keep-clause-levels g c = ap length (returns-in_err-keep-clause-closes g c).0.runs.steps.extends.nodes.order

pub returns-clause-closes : goal.returns-clause-closes
returns-clause-closes g c =
    let p = c.args.parts.now in
    let old = c.args.table.now in
    let new = c.join.new.table in
    let cache = c.args.caches.now.exists.now in
    let ors = c.args.caches.now.ors.now in
    let after = c.keep.new.self in
    let list = both_caches cache ors in
    let w = c.in_ok-w.w in
    let joined = c.in_ok-w.ensures in
    let kept = c.in_ok-keep.ensures.kept in
    let reduced = c.requires.sound.tied.reduced in
    let function = quantification_of old.graph p.node p.level in
    let sides = quantification_sides c.cofactor_law.ensures old.graph reduced p c.requires.above c.args.high.now c.args.low.now
    c.requires.on_high c.requires.on_low in
    let first = joined.runs list function c.requires.fits sides in
    let keeps = first.steps.extends.nodes in
    let found = quantified_joined c.growth_law.ensures old.graph new.graph reduced keeps p c.requires.above c.args.high.now c.args.low.now w
    joined.children (joined.value function sides) in
    let stands = c.growth_law.ensures.stands old.graph new.graph keeps p.node c.requires.above.stands in
    let fits = kept_part c.entry_law.ensures new cache ors (first.fits no_error) after p.node w p.level (stands, found) _ kept.one in (
      record {
        runs = runs_further c.steps_law.ensures c.subfunction_law.ensures old list function new (both_caches after ors)
            (Ok w) new list w first
            (runs_none c.steps_law.ensures c.subfunction_law.ensures new list function first.steps.leaves.sound
            (both_caches after ors) fits w);
        room = kept.room;
        same_ors = refl;
        quantified = found;
        kept = kept.one.kept;
        children = joined.children;
        reachable = joined.reachable;
      },
      record { exists = refl; ors = refl },
    )

pub returns-clause-levels : goal.returns-clause-levels
returns-clause-levels g c = ap length (returns-clause-closes g c).0.runs.steps.extends.nodes.order
