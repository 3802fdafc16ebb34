-- The disjunction of both sides at a level of the set, and the node of both at another one.
use Rattle.quantify.proofs.ClosedSet.{combined_disjoined, combined_joined}
use Rattle.quantify.proofs.SetQuantifications.{high_answer_below, low_answer_below}
use Rattle.quantify.proofs.quantify_set.combine.Goals as goal

pub join-requires-clause-high : goal.join-requires-clause-high
join-requires-clause-high g c =
    let can = c.requires.can in
    high_answer_below c.cofactor_law.ensures c.args.table.now.graph can.can.sound.tied.reduced c.args.caches.now.set.now c.args.sides.now
    can.sides c.args.high c.args.low can.on_high can.on_low

pub join-requires-clause-low : goal.join-requires-clause-low
join-requires-clause-low g c =
    let can = c.requires.can in
    low_answer_below c.cofactor_law.ensures c.args.table.now.graph can.can.sound.tied.reduced c.args.caches.now.set.now c.args.sides.now
    can.sides c.args.high c.args.low can.on_high can.on_low

pub returns-then-sides : goal.returns-then-sides
returns-then-sides g c =
    let done = c.or.ensures in
    combined_disjoined c.cofactor_law.ensures c.growth_law.ensures c.args.table.now c.args.caches.now
    c.args.sides.now c.args.high c.args.low c.requires.can c.or.new.table c.or.result c.if-sides.true c.or.new.cache (record {
      steps = done.steps;
      retired = done.retired;
      none_added = done.none_added;
      fits = done.fits;
      made = done.made;
      lacks = done.lacks;
    }) (record { entries = done.remembered; no_fewer = done.no_fewer; capacity = done.capacity }) done.disjoined

pub returns : goal.returns
returns g c =
    combined_joined c.cofactor_law.ensures c.growth_law.ensures c.args.table.now c.args.caches.now
    c.args.sides.now c.args.high c.args.low c.requires.can c.join.new.table c.join.result c.if-sides.false c.join.ensures
