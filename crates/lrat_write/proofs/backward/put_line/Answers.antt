-- What is left to show of `put_line`.
use Rattle.std.proofs.Common.{ℕ, List, ◌∷◌, ◌++◌, drop, ap, ◌∙◌, arith}
use Rattle.std.specs.Prelude.{decimal}
use Rattle.std.proofs.lemmas.List.{drop_all}
use Rattle.lrat_write.specs.LineText.{lead}
use Rattle.lrat_write.proofs.Suffix.{length-decimal, line_backward}
use Rattle.lrat_write.proofs.backward.put_line.Goals as goal

pub write_digits-requires : goal.write_digits-requires
write_digits-requires c = (
  omega (arith, length-decimal c.get.result c.get.type_inv),
  omega (arith, c.put_literals.array_long, c.in_ok-behind_id.ensures.within),
)

pub returns-clause-text : goal.returns-clause-text
returns-clause-text c =
    line_backward c.args.id c.args.clause.now (lead c.args.minus) c.args.ids.now
    (c.put_byte-newline.ensures.text ∙ ap (λ (l : List ℕ). 10 ∷ l) (drop_all 256 c.args.buffer.now (omega arith)))
    c.put_zero-end.ensures.text c.in_ok-behind_clause.ensures.text c.put_zero-zero.ensures.text c.in_ok-behind_id.ensures.text
    (c.write_digits.ensures.written ∙ ap (λ (n : ℕ). decimal n ++ drop c.in_ok-behind_id.behind_id c.put_literals.new.buffer) c.get.ensures)
