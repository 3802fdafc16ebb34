-- What is left to show of `Chunk::put`.
use Rattle.std.proofs.Common.{◌∙◌, ap, set}
use Rattle.std.proofs.lemmas.List.{map-set}
use Rattle.lrat_checker.specs.Clauses.{Places, clause_in}
use Rattle.lrat_checker.proofs.chunk.Chunk.put.Goals as goal

pub returns : goal.returns
returns c =
    map-set clause_in c.self.inside.slots.items c.args.place c.args.slot
    ∙ ap (λ (p : Places). set p c.args.place (clause_in c.args.slot)) c.self.view_is
