-- What is left to show of `free_slots`.
use Rattle.std.proofs.Common.{◌≡◌, ℕ, zero, suc, ◌-◌, None, List, [], ◌++◌, map, take, get_or, vec_len, ◌∙◌, ap, arith, replicate}
use Rattle.std.proofs.lemmas.List.{get_or_past}
use Rattle.lrat_checker.specs.declared.slot.Slot.{Slot}
use Rattle.lrat_checker.specs.Clauses.{clause_in}
use Rattle.lrat_checker.proofs.chunk.free_slots.Goals as goal

all_free : (slot : Slot) → clause_in slot ≡ None → (n i : ℕ) → get_or (map clause_in (replicate n slot)) i None ≡ None
all_free slot free zero i = get_or_past [] i None (omega arith)
all_free slot free (suc n) zero = free
all_free slot free (suc n) (suc i) = all_free slot free n i

pub returns-clause-free : goal.returns-clause-free
returns-clause-free c = λ i.
    let made : take 128 c.new-slots.result.items ++ replicate (128 - vec_len c.new-slots.result) c.freed.result ≡ replicate 128 c.freed.result =
    ap (λ (slots : List Slot). take 128 slots ++ replicate (128 - vec_len c.new-slots.result) c.freed.result) c.new-slots.ensures.items
    ∙ ap (λ n. replicate (128 - n) c.freed.result) c.new-slots.ensures.len in
    ap (λ (slots : List Slot). get_or (map clause_in slots) i None) (c.in_ok-resize.ensures.items ∙ made)
    ∙ all_free c.freed.result c.freed.ensures 128 i
