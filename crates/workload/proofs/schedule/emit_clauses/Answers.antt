-- What is left to show of `emit_clauses`.
use Rattle.std.proofs.Common.{◌≡◌, ℕ, ◌+◌, ◌-◌, ◌∷◌, ◌++◌, List, ap, sym, ◌∙◌, append_assoc, subst, refl, get_or, arith}
use Rattle.std.specs.Prelude.{map}
use Rattle.std.specs.List.{filter, flat_map}
use Rattle.std.proofs.lemmas.Grind.{flat_map-append}
use Rattle.cnf_base.specs.Order.{natural}
use Rattle.workload.specs.declared.square.Square.{Square}
use Rattle.workload.specs.Board.{square, stays}
use Rattle.workload.specs.Schedule.{following, column_clauses, clause_numbers}
use Rattle.workload.specs.Cursor.{StandsWithin}
use Rattle.workload.specs.Texts.{spaced}
use Rattle.workload.proofs.Steps.{passed, skipped}
use Rattle.workload.proofs.Numbers.{cut_column}
use Rattle.workload.proofs.Cursors.{goes_on, stays_out}
use Rattle.workload.proofs.Clauses.{is_following}
use Rattle.host_io.proofs.Emitting.{in_turn, fails_within, same_text}
use Rattle.workload.proofs.schedule.emit_clauses.Goals as goal
use Rattle.workload.proofs.schedule.emit_clauses.Goals.{then-stays+in_ok-emit_following, else-stays}

-- the numbers up to a square
abbrev so_far : ℕ → ℕ → ℕ → List ℕ
so_far n row column = flat_map (clause_numbers n) (filter (stays n) (map (λ r. square r column) (natural (row - 1))))

abbrev rest : ℕ → List Square → List ℕ
rest n more = flat_map (clause_numbers n) more

whole : (n row column : ℕ) (more : List Square) → filter (stays n) (map (λ r. square r column) (natural n))
    ≡ filter (stays n) (map (λ r. square r column) (natural (row - 1))) ++ square row column ∷ more
    → flat_map spaced (column_clauses n column) ≡ (flat_map spaced (so_far n row column)
    ++ flat_map spaced (clause_numbers n (square row column))) ++ flat_map spaced (rest n more)
whole n row column more is =
    let own : List ℕ = clause_numbers n (square row column) in
    ap (λ l. flat_map spaced (flat_map (clause_numbers n) l)) is
    ∙ ap (flat_map spaced) (flat_map-append (clause_numbers n) (filter (stays n) (map (λ r. square r column) (natural (row - 1))))
    (square row column ∷ more))
    ∙ flat_map-append spaced (so_far n row column) (own ++ rest n more)
    ∙ ap (λ (l : List ℕ). flat_map spaced (so_far n row column) ++ l) (flat_map-append spaced own (rest n more))
    ∙ sym (append_assoc (flat_map spaced (so_far n row column)) (flat_map spaced own) (flat_map spaced (rest n more)))

pub returns-in_err-emit_following-clause-emits : goal.returns-in_err-emit_following-clause-emits
returns-in_err-emit_following-clause-emits g c =
    let n : ℕ = c.args.n in
    let row : ℕ = c.loop-row.row in
    let s : Square = square row c.args.column in
    let cut = cut_column n row c.args.column (sym c.stays.ensures ∙ c.if-stays.true) in
    let own : following (get_or c.loop-row.cursor row 0) c.clause_count-count.result ≡ clause_numbers n s =
    is_following n s (get_or c.loop-row.cursor row 0) c.clause_count-count.result
    (c.loop-row.invariant.cursor.below row (omega arith) (omega arith) (omega arith)) c.clause_count-count.ensures.value in
    fails_within (in_turn c.loop-row.invariant.emits refl (same_text c.in_err-emit_following.ensures.emits (ap (flat_map spaced) own))) refl
    c.from_residual.ensures.0
    (flat_map spaced (column_clauses n c.args.column)) (flat_map spaced (rest n cut.0)) c.emit_following.new.held.items
    (whole n row c.args.column cut.0 cut.1)

pub loop-row-preserved : goal.loop-row-preserved
loop-row-preserved g c =
    let n : ℕ = c.args.n in
    let row : ℕ = c.loop-row.row in
    let s : Square = square row c.args.column in
    let at : ℕ → Square = λ r. square r c.args.column in
    let w = c.loop-row.invariant.cursor in
    elim c.if-stays.branch [
      | then-stays+in_ok-emit_following b ↦
          let there = sym c.stays.ensures ∙ b.if-stays.true in
          let own : following (get_or c.loop-row.cursor row 0) b.clause_count-count.result ≡ clause_numbers n s =
          is_following n s (get_or c.loop-row.cursor row 0) b.clause_count-count.result
          (w.below row (omega arith) (omega arith) (omega arith)) b.clause_count-count.ensures.value in
          let emitted = same_text (in_turn c.loop-row.invariant.emits refl
          (same_text b.in_ok-emit_following.ensures.emits (ap (flat_map spaced) own)))
          (sym (ap (flat_map spaced) (passed (clause_numbers n) (stays n) at row (omega arith) there)
          ∙ flat_map-append spaced (so_far n row c.args.column) (clause_numbers n s))) in
          record {
            emits = rw (b.sink-is, b.held-is) emitted;
            beside = ap g.S.Sink.beside b.sink-is ∙ b.in_ok-emit_following.ensures.beside ∙ c.loop-row.invariant.beside;
            cursor = subst (StandsWithin n (row + 1) c.args.column) (sym b.cursor-is)
                (goes_on n row c.args.column c.loop-row.cursor b.clause_count-count.result c.requires.most (omega arith)
                (omega arith) c.requires.column.0 there b.clause_count-count.ensures.value b.clause_count-count.ensures.range w);
          }
      | else-stays b ↦
          let out = sym c.stays.ensures ∙ b.if-stays.false in
          let emitted = same_text c.loop-row.invariant.emits (ap (flat_map spaced)
          (sym (skipped (clause_numbers n) (stays n) at row (omega arith) out))) in
          record {
            emits = rw (b.sink-is, b.held-is) emitted;
            beside = ap g.S.Sink.beside b.sink-is ∙ c.loop-row.invariant.beside;
            cursor = subst (StandsWithin n (row + 1) c.args.column) (sym b.cursor-is)
                (stays_out n row c.args.column c.loop-row.cursor (omega arith) (omega arith) c.requires.column.0 out w);
          }
    ]

pub returns-clause-emits : goal.returns-clause-emits
returns-clause-emits g c =
    let all : c.loop-row.row - 1 ≡ c.args.n = omega arith in
    same_text c.loop-row.invariant.emits (ap (λ (k : ℕ). flat_map spaced
    (flat_map (clause_numbers c.args.n) (filter (stays c.args.n) (map (λ r. square r c.args.column) (natural k))))) all)
