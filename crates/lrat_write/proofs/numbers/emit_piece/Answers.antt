-- What is left to show of `emit_piece`.
use Rattle.std.proofs.Common.{ℕ, List, ◌++◌, arith, ap, ◌∙◌}
use Rattle.std.proofs.lemmas.List.{drop_all, append-nil}
use Rattle.lrat_write.specs.LineText.{ids_text, lead}
use Rattle.host_io.proofs.Emitting.{same_text}
use Rattle.lrat_write.proofs.Suffix.{slice_to_end}
use Rattle.lrat_write.proofs.numbers.emit_piece.Goals as goal

pub returns-in-Some-clause-emits : goal.returns-in-Some-clause-emits
returns-in-Some-clause-emits g c =
    let text : List ℕ = ids_text (lead c.args.minus) c.args.ids.now in
    same_text c.emit.ensures.emits
    (slice_to_end c.put_ids.new.buffer text c.in-Some.start c.put_ids.array_long
    (c.in-Some.ensures.text ∙ ap (λ (l : List ℕ). text ++ l) (drop_all 256 c.args.buffer.now (omega (arith, c.told-buffer)))
    ∙ append-nil text))
