-- The node of both results is kept as the disjunction of the operands, or its step or the cache is refused.
use Rattle.std.proofs.Common.{Ok, Err, length, ap, refl, subst, sym}
use Rattle.node_table.specs.declared.error.TableError.TheVariants.{OutOfMemory}
use Rattle.node_table.specs.HandedOn.{handed_on, no_error}
use Rattle.operations.specs.Entries.{AreNodes, Disjunction}
use Rattle.quantify.specs.OrCache.{OrCache, disjunction, disjunctions}
use Rattle.quantify.specs.Disjunction.{Closes, disjunction_of}
use Rattle.quantify.proofs.Disjunctions.{disjoined_joined, disjunction_sides, high_below, low_below}
use Rattle.quantify.proofs.Lists.{fits_more, makes_no_room, unnamed}
use Rattle.quantify.proofs.Running.{Answer, runs_further, runs_none, runs_refused}
use Rattle.quantify.proofs.disjoin.OrOperationOperation.close.Goals as goal

pub join-requires-clause-high : goal.join-requires-clause-high
join-requires-clause-high g c =
    high_below c.operand_law.ensures c.args.table.now.graph c.requires.sound.tied.reduced c.args.operands.now c.requires.split
    c.args.high.now c.args.low.now c.requires.on_high c.requires.on_low

pub join-requires-clause-low : goal.join-requires-clause-low
join-requires-clause-low g c =
    low_below c.operand_law.ensures c.args.table.now.graph c.requires.sound.tied.reduced c.args.operands.now c.requires.split
    c.args.high.now c.args.low.now c.requires.on_high c.requires.on_low

pub returns-in_err-w-clause-closes : goal.returns-in_err-w-clause-closes
returns-in_err-w-clause-closes g c =
    let o = c.args.operands.now in
    let old = c.args.table.now in
    let new = c.join.new.table in
    let cache = c.args.cache.now in
    let list = disjunctions cache in
    let came = c.in_err-w.field-0.0 in
    let sides = disjunction_sides c.operand_law.ensures old.graph c.requires.sound.tied.reduced o c.requires.split c.args.high.now
    c.args.low.now c.requires.on_high c.requires.on_low c.cofactor_law.ensures in
    subst (λ (r : Answer). Closes old cache o c.args.high.now c.args.low.now new cache r)
    (sym (handed_on _ came came c.from_residual.ensures.1 refl)) (record {
      runs = c.in_err-w.ensures.runs list (disjunction_of old.graph o.u o.v) c.requires.fits sides;
      room = makes_no_room disjunction cache.results (o.u, o.v);
      disjoined = tt;
      kept = tt;
      children = tt;
      reachable = tt;
    })

pub returns-in_err-w-clause-levels : goal.returns-in_err-w-clause-levels
returns-in_err-w-clause-levels g c = ap length (returns-in_err-w-clause-closes g c).runs.steps.extends.nodes.order

pub returns-in_err-keep-clause-closes : goal.returns-in_err-keep-clause-closes
returns-in_err-keep-clause-closes g c =
    let o = c.args.operands.now in
    let old = c.args.table.now in
    let new = c.join.new.table in
    let cache = c.args.cache.now in
    let list = disjunctions cache in
    let sides = disjunction_sides c.operand_law.ensures old.graph c.requires.sound.tied.reduced o c.requires.split c.args.high.now
    c.args.low.now c.requires.on_high c.requires.on_low c.cofactor_law.ensures in
    let function = disjunction_of old.graph o.u o.v in
    let first = c.in_ok-w.ensures.runs list function c.requires.fits sides in
    subst (λ (r : Answer). Closes old cache o c.args.high.now c.args.low.now new
    c.keep.new.self r)
    (sym (handed_on _ OutOfMemory OutOfMemory c.from_residual-in_err-keep.ensures.1 refl))
    (subst (λ (after : OrCache). Closes old cache o c.args.high.now c.args.low.now new after
    (Err OutOfMemory)) (sym c.in_err-keep.ensures.refused) (record {
      runs = runs_further c.steps_law.ensures c.subfunction_law.ensures old list function new list
          (Err OutOfMemory) new list c.in_ok-w.w first
          (runs_refused c.steps_law.ensures c.subfunction_law.ensures new list function first.steps.leaves.sound list
          (first.fits no_error));
      room = makes_no_room disjunction cache.results (o.u, o.v);
      disjoined = tt;
      kept = tt;
      children = tt;
      reachable = tt;
    }))

pub returns-in_err-keep-clause-levels : goal.returns-in_err-keep-clause-levels
returns-in_err-keep-clause-levels g c = ap length (returns-in_err-keep-clause-closes g c).runs.steps.extends.nodes.order

pub returns-clause-closes : goal.returns-clause-closes
returns-clause-closes g c =
    let o = c.args.operands.now in
    let old = c.args.table.now in
    let new = c.join.new.table in
    let cache = c.args.cache.now in
    let after = c.keep.new.self in
    let list = disjunctions cache in
    let w = c.in_ok-w.w in
    let joined = c.in_ok-w.ensures in
    let kept = c.in_ok-keep.ensures.kept in
    let reduced = c.requires.sound.tied.reduced in
    let sides = disjunction_sides c.operand_law.ensures old.graph reduced o c.requires.split c.args.high.now c.args.low.now
    c.requires.on_high c.requires.on_low c.cofactor_law.ensures in
    let function = disjunction_of old.graph o.u o.v in
    let first = joined.runs list function c.requires.fits sides in
    let keeps = first.steps.extends.nodes in
    let found = disjoined_joined c.growth_law.ensures c.operand_law.ensures old.graph new.graph reduced keeps o c.requires.split
    c.args.high.now c.args.low.now w joined.children (joined.value function sides) in
    let nodes : AreNodes new.graph o.u o.v = record {
      first = c.growth_law.ensures.stands old.graph new.graph keeps o.u (c.operand_law.ensures.first old.graph o c.requires.split);
      second = c.growth_law.ensures.stands old.graph new.graph keeps o.v (c.operand_law.ensures.second old.graph o c.requires.split);
    } in
    let fits = fits_more new list (disjunctions after) (Disjunction o.u o.v w) (unnamed disjunction (λ x. refl) after.results.entries)
    (first.fits no_error) (nodes, found) kept.one.only in record {
      runs = runs_further c.steps_law.ensures c.subfunction_law.ensures old list function new (disjunctions after) (Ok w) new list w first
          (runs_none c.steps_law.ensures c.subfunction_law.ensures new list function first.steps.leaves.sound (disjunctions after) fits w);
      room = kept.room;
      disjoined = found;
      kept = kept.one.kept;
      children = joined.children;
      reachable = joined.reachable;
    }

pub returns-clause-levels : goal.returns-clause-levels
returns-clause-levels g c = ap length (returns-clause-closes g c).runs.steps.extends.nodes.order
