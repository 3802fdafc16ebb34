-- What is left to show of `emit_columns`.
use Rattle.std.proofs.Common.{ℕ, ◌-◌, ◌∷◌, ◌++◌, List, ap, sym, ◌∙◌, append_assoc, refl, arith}
use Rattle.std.specs.List.{flat_map}
use Rattle.std.proofs.lemmas.Grind.{flat_map-append}
use Rattle.cnf_base.specs.Order.{natural}
use Rattle.workload.specs.Schedule.{Command, column_commands}
use Rattle.workload.specs.Texts.{command_line, text_by}
use Rattle.workload.proofs.Steps.{flat_next}
use Rattle.workload.proofs.Numbers.{cut}
use Rattle.host_io.proofs.Emitting.{in_turn, fails_within, same_text}
use Rattle.workload.proofs.schedule.emit_columns.Goals as goal

pub returns-in_err-emit_column-clause-emits : goal.returns-in_err-emit_column-clause-emits
returns-in_err-emit_column-clause-emits g c =
    let n : ℕ = c.args.n in
    let line = command_line c.args.way in
    let k : ℕ = c.loop-column.column in
    let piece = cut n k (omega arith) (omega arith) in
    let old : List Command = flat_map (column_commands n) (natural (k - 1)) in
    let own : List Command = column_commands n k in
    let more : List Command = flat_map (column_commands n) piece.more in
    fails_within (in_turn c.loop-column.invariant.emits refl c.in_err-emit_column.ensures.emits) refl c.from_residual.ensures.0
    (text_by c.args.way n) (flat_map line more) c.emit_column.new.held.items
    (ap (λ l. flat_map line (flat_map (column_commands n) l)) piece.parts
    ∙ ap (flat_map line) (flat_map-append (column_commands n) (natural (k - 1)) (k ∷ piece.more))
    ∙ flat_map-append line old (own ++ more) ∙ ap (λ (l : List ℕ). flat_map line old
    ++ l) (flat_map-append line own more)
    ∙ sym (append_assoc (flat_map line old) (flat_map line own) (flat_map line more)))

pub loop-column-preserved : goal.loop-column-preserved
loop-column-preserved g c =
    let n : ℕ = c.args.n in
    let line = command_line c.args.way in
    let k : ℕ = c.loop-column.column in
    record {
      emits = same_text (in_turn c.loop-column.invariant.emits refl c.in_ok-emit_column.ensures.emits)
          (sym (ap (flat_map line) (flat_next (column_commands n) k (omega arith))
          ∙ flat_map-append line (flat_map (column_commands n) (natural (k - 1))) (column_commands n k)));
      beside = c.in_ok-emit_column.ensures.beside ∙ c.loop-column.invariant.beside;
      cursor = c.in_ok-emit_column.ensures.cursor;
    }
