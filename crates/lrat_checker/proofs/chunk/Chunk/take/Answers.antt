-- What is left to show of `Chunk::take`.
use Rattle.std.proofs.Common.{◌≡◌, None, true, get_or, set, is_some, map, ◌∙◌, ap}
use Rattle.std.specs.Prelude.{if◌then◌else◌, ◌==◌}
use Rattle.std.proofs.lemmas.List.{map-set}
use Rattle.lrat_checker.specs.Clauses.{Places, clause_in}
use Rattle.lrat_checker.proofs.Slots.{set_at, taken_within, found}
use Rattle.lrat_checker.proofs.chunk.Chunk.take.Goals as goal
use Rattle.lrat_checker.proofs.chunk.Chunk.take.Goals.{then-self-eq0, else-self-eq0}

pub returns-clause-places : goal.returns-clause-places
returns-clause-places c = λ i.
    let places : Places = map clause_in c.self.inside.slots.items in
    let slots = set c.self.inside.slots.items c.args.place c.free.new.self in
    let written : map clause_in slots ≡ set places c.args.place None =
    map-set clause_in c.self.inside.slots.items c.args.place c.free.new.self ∙ ap (set places c.args.place) c.free.ensures in
    let some : is_some (get_or places c.args.place None) ≡ true = ap (λ (p : Places). is_some (get_or p c.args.place None)) c.self.view_is
    ∙ found c.clause.result (get_or c.args.self.now c.args.place None) c.if-is_none.ensures c.clause.ensures in
    let is : get_or c.if-self-eq0.self i None ≡ get_or (map clause_in slots) i None =
    elim c.if-self-eq0.branch [
      | then-self-eq0 w ↦ ap (λ (p : Places). get_or p i None) w.self-is ∙ w.give_back.ensures i
      | else-self-eq0 w ↦ ap (λ (p : Places). get_or p i None) w.self-is
    ] in
    is ∙ ap (λ (p : Places). get_or p i None) written
    ∙ set_at places c.args.place None (taken_within places c.args.place some) i
    ∙ ap (λ (p : Places). if i == c.args.place then None else get_or p i None) c.self.view_is
