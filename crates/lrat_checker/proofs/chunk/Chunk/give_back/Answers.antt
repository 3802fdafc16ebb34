-- What is left to show of `Chunk::give_back`.
use Rattle.std.proofs.Common.{◌≡◌, [], None, true, get_or, is_none, map, sym, ◌∙◌, ap, arith}
use Rattle.std.specs.List.{list_all}
use Rattle.std.proofs.lemmas.List.{get_or_past}
use Rattle.lrat_checker.specs.Clauses.{Places, clause_in}
use Rattle.lrat_checker.proofs.Slots.{blank_slots}
use Rattle.lrat_checker.proofs.chunk.Chunk.give_back.Goals as goal

pub returns-then-is_blank : goal.returns-then-is_blank
returns-then-is_blank c = λ i.
    let slots = c.self.inside.slots.items in
    let blank : list_all (λ slot. is_none (clause_in slot)) slots
    ≡ true = sym (c.is_blank.ensures ∙ ap (list_all (λ slot. is_none (clause_in slot))) c.as_slice.ensures.value)
    ∙ c.if-is_blank.true in
    ap (λ l. get_or (map clause_in l) i None) c.new.ensures.items ∙ get_or_past [] i None (omega arith)
    ∙ sym (blank_slots slots blank i) ∙ ap (λ (p : Places). get_or p i None) c.self.view_is
