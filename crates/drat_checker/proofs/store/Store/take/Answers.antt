-- The clause of the place, which is empty then.
use Rattle.std.proofs.Common.{◌<◌, None, length, ◌∙◌, ap, arith}
use Rattle.std.proofs.lemmas.List.{get_or_read}
use Rattle.drat_checker.specs.Places.{Places, place_at}
use Rattle.drat_checker.proofs.store.Store.take.Goals as goal

pub returns-clause-clause : goal.returns-clause-clause
returns-clause-clause c =
    let places = c.self.inside.places.items in
    let within : c.args.number < length places = omega (arith, c.requires, ap length c.self.view_is) in
    c.replace.ensures.value ∙ get_or_read places c.args.number c.index_mut.result.now within c.index_mut.ensures.value None
    ∙ ap (λ (ps : Places). place_at ps c.args.number) c.self.view_is
