-- What is left to show of `emit_led`.
use Rattle.std.proofs.Common.{ℕ, List, ◌++◌, arith, ap, ◌∙◌}
use Rattle.std.proofs.lemmas.List.{drop_all, append-nil}
use Rattle.lrat_write.specs.LineText.{led_number}
use Rattle.host_io.proofs.Emitting.{same_text}
use Rattle.lrat_write.proofs.Suffix.{slice_to_end}
use Rattle.lrat_write.proofs.numbers.emit_led.Goals as goal

pub returns-clause-emits : goal.returns-clause-emits
returns-clause-emits g c =
    let number : List ℕ = led_number c.args.minus c.args.number in
    same_text c.emit.ensures.emits
    (slice_to_end c.put_number-start.new.buffer number c.put_number-start.result c.put_number-start.array_long
    (c.put_number-start.ensures.text ∙ ap (λ (l : List ℕ). number ++ l) (drop_all 256 c.args.buffer.now (omega (arith, c.told-buffer)))
    ∙ append-nil number))
