-- A node that stands behind all levels of the set, one whose result is kept, and one that is split.
use Rattle.std.proofs.Common.{arith, refl}
use Rattle.std.proofs.lemmas.List.{drop_all}
use Rattle.node_table.specs.Diagram.{levels}
use Rattle.quantify.proofs.ClosedSet.{answered_found, answered_itself, answered_open}
use Rattle.quantify.proofs.Places.{place_first}
use Rattle.quantify.proofs.quantify_set.SetOperationOperation.ask.Goals as goal

pub returns-then-caches-at-clause-answer : goal.returns-then-caches-at-clause-answer
returns-then-caches-at-clause-answer g c =
    answered_itself c.steps_law.ensures c.cofactor_law.ensures c.growth_law.ensures c.args.table.now c.args.caches.now c.args.question
    c.requires c.level_of-own.result c.next_place-at.result c.level_of-own.ensures c.next_place-at.ensures
    (drop_all c.next_place-at.result c.args.caches.now.set.now (omega (arith, c.if-caches-at.true)))

pub sides_of-requires-clause-later : goal.sides_of-requires-clause-later
sides_of-requires-clause-later g c =
    place_first (levels c.args.table.now.graph) c.next_place-at.result c.level_of-own.result c.args.caches.now.set.now c.requires.set
    (omega (arith, c.if-caches-at.false)) c.args.question.1 c.next_place-at.ensures

pub returns-in-Some-clause-answer : goal.returns-in-Some-clause-answer
returns-in-Some-clause-answer g c =
    answered_found c.steps_law.ensures c.cofactor_law.ensures c.growth_law.ensures c.args.table.now c.args.caches.now c.args.question
    c.requires c.level_of-own.result c.next_place-at.result c.level_of-own.ensures c.next_place-at.ensures c.look.new.self c.in-Some.w
    c.in-Some.ensures.looked.leaves.same c.in-Some.ensures.looked.found

pub returns-in-None-clause-answer : goal.returns-in-None-clause-answer
returns-in-None-clause-answer g c =
    answered_open c.steps_law.ensures c.cofactor_law.ensures c.growth_law.ensures c.args.table.now c.args.caches.now c.args.question
    c.requires c.level_of-own.result c.next_place-at.result c.level_of-own.ensures c.next_place-at.ensures c.subfunction_law.ensures
    c.cache_law.ensures c.look.new.self (c.in-None.ensures.missed refl) c.sides_of.result c.sides_of.ensures.sides
    c.sides_of.ensures.question
