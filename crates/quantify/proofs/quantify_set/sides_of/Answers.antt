-- A node of a level of the set, and one that stands before it.
use Rattle.std.proofs.Common.{arith, refl, sym}
use Rattle.node_table.specs.Diagram.{levels}
use Rattle.quantify.proofs.Places.{place_behind, place_own, place_some, place_within}
use Rattle.quantify.proofs.quantify_set.sides_of.Goals as goal

pub returns-then-set-at-clause-sides : goal.returns-then-set-at-clause-sides
returns-then-set-at-clause-sides g c =
    let set = c.args.set.now in
    let bound = levels c.args.table.now.graph in
    let own = c.args.own in
    let at = c.args.at in
    let next = place_own bound at own set c.requires.levels c.requires.within c.if-set-at.true in record {
      stands = c.requires.stands;
      own = sym c.requires.own;
      within = place_within bound at own set c.requires.levels c.requires.within c.requires.later;
      some = place_some bound at own set c.requires.levels c.requires.within;
      next = next.0;
      later = next.1;
      high = c.cofactors-high.ensures.high;
      low = c.cofactors-high.ensures.low;
    }

pub returns-clause-sides : goal.returns-clause-sides
returns-clause-sides g c =
    let set = c.args.set.now in
    let bound = levels c.args.table.now.graph in
    let own = c.args.own in
    let at = c.args.at in record {
      stands = c.requires.stands;
      own = sym c.requires.own;
      within = place_within bound at own set c.requires.levels c.requires.within c.requires.later;
      some = place_some bound at own set c.requires.levels c.requires.within;
      next = refl;
      later = place_behind bound at own set c.requires.levels c.requires.within (omega (arith, c.requires.later, c.if-set-at.false));
      high = c.cofactors-high.ensures.high;
      low = c.cofactors-high.ensures.low;
    }
