-- What is left to show of `Finder::find`.
use Rattle.std.proofs.Common.{ℕ, List, length, subst}
use Rattle.cube_models.specs.Way.{Assumes}
use Rattle.cube_models.proofs.Downs.{found_model}
use Rattle.cube_models.proofs.finder.Finder.find.Goals as goal

pub returns-then-found-clause-least : goal.returns-then-found-clause-least
returns-then-found-clause-least g c found =
    found_model c.args.table.now.graph c.table_law.ensures.ordered c.args.cube.now c.assume.new.signs.items c.deref-2.result.now
    c.deref-then-found.result.now c.find_way.new.marks.items c.deref-then-found-2.result.now c.find_way.new.path.items
    c.deref-then-found-3.result.now c.ready.new.self.round c.args.node c.raise.new.values.items c.deref-2.ensures.value
    c.deref-then-found.ensures.value c.deref-then-found-2.ensures.value c.deref-then-found-3.ensures.value
    (subst (λ (o : List ℕ). Assumes (length o) c.args.cube.now (length c.args.cube.now) c.assume.new.signs.items) c.order.ensures.value
    c.in_ok-assume.ensures) c.requires.variables c.raise.ensures.one_each (c.in_ok-found.ensures.found found)
    (c.raise.ensures.down c.args.node c.requires.node)
