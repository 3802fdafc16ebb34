-- What is left to show of `emit_ending`.
use Rattle.std.proofs.Common.{◌≡◌, ℕ, ◌-◌, ◌++◌, List, ap, sym, ◌∙◌, append_assoc, refl, arith}
use Rattle.std.specs.Prelude.{map}
use Rattle.std.specs.List.{flat_map}
use Rattle.cnf_base.specs.Order.{natural}
use Rattle.workload.specs.declared.square.Domino.{Domino}
use Rattle.workload.specs.declared.square.Domino.TheVariants.{Across, Down}
use Rattle.workload.specs.Board.{square}
use Rattle.workload.specs.Schedule.{ending}
use Rattle.workload.specs.Texts.{spaced}
use Rattle.workload.proofs.Endings.{written, written_next, written_cut, ending_written}
use Rattle.host_io.proofs.Emitting.{in_turn, fails_within, same_text}
use Rattle.workload.proofs.schedule.emit_ending.Goals as goal

abbrev left_of : ℕ → ℕ → Domino
left_of column row = Across (square row (column - 1))

abbrev down_of : ℕ → ℕ → Domino
down_of column row = Down (square row column)

pub returns-in_err-emit_domino-clause-emits : goal.returns-in_err-emit_domino-clause-emits
returns-in_err-emit_domino-clause-emits g c =
    let n : ℕ = c.args.n in
    let column : ℕ = c.args.column in
    let cut = written_cut n c.loop-row.row (left_of column) (omega arith) (omega arith) in
    let downs : List ℕ = written n (map (down_of column) (natural n)) in
    fails_within (in_turn c.loop-row.invariant.0 refl c.in_err-emit_domino.ensures.emits) refl c.from_residual.ensures.0
    (flat_map spaced (ending n column)) (cut.0 ++ downs) c.emit_domino.new.held.items
    (ending_written n column ∙ ap (λ (l : List ℕ). l ++ downs) cut.1 ∙ append_assoc _ cut.0 downs)

pub loop-row-preserved : goal.loop-row-preserved
loop-row-preserved g c = (
  same_text (in_turn c.loop-row.invariant.0 refl c.in_ok-emit_domino.ensures.emits)
      (written_next c.args.n c.loop-row.row (left_of c.args.column) (omega arith)),
  c.in_ok-emit_domino.ensures.beside ∙ c.loop-row.invariant.1,
)

pub returns-in_err-emit_domino-2-clause-emits : goal.returns-in_err-emit_domino-2-clause-emits
returns-in_err-emit_domino-2-clause-emits g c =
    let n : ℕ = c.args.n in
    let column : ℕ = c.args.column in
    let cut = written_cut n c.loop-row-2.row (down_of column) (omega arith) (omega arith) in
    let lefts : List ℕ = written n (map (left_of column) (natural n)) in
    fails_within (in_turn c.loop-row-2.invariant.0 refl c.in_err-emit_domino-2.ensures.emits) refl
    c.from_residual-in_err-emit_domino-2.ensures.0 (flat_map spaced (ending n column)) cut.0 _
    (ending_written n column ∙ ap (λ (l : List ℕ). lefts ++ l) cut.1 ∙ sym (append_assoc lefts _ cut.0)
    ∙ ap (λ (l : List ℕ). l ++ cut.0) (sym (append_assoc lefts _ _)))

pub loop-row-2-preserved : goal.loop-row-2-preserved
loop-row-2-preserved g c =
    let n : ℕ = c.args.n in
    let lefts : List ℕ = written n (map (left_of c.args.column) (natural n)) in (
      same_text (in_turn c.loop-row-2.invariant.0 refl c.in_ok-emit_domino-2.ensures.emits)
          (append_assoc lefts _ _ ∙ ap (λ (l : List ℕ). lefts ++ l)
          (written_next n c.loop-row-2.row (down_of c.args.column) (omega arith))),
      c.in_ok-emit_domino-2.ensures.beside ∙ c.loop-row-2.invariant.1,
    )

pub returns-clause-emits : goal.returns-clause-emits
returns-clause-emits g c =
    let n : ℕ = c.args.n in
    let all : c.loop-row-2.row - 1 ≡ n = omega arith in
    same_text c.loop-row-2.invariant.0 (ap (λ (k : ℕ). written n (map (left_of c.args.column) (natural n))
    ++ written n (map (down_of c.args.column) (natural k))) all ∙ sym (ending_written n c.args.column))
