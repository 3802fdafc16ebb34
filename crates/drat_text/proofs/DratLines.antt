-- The lines of a DRAT proof are the lines of its text with the steps that they spell.
use Rattle.std.proofs.Common.{◌≡◌, ℕ, true, false, List, [], ◌∷◌, map, take, refl, sym, ap, if◌then◌else◌}
use Rattle.std.specs.Prelude.{nat_lt}
use Rattle.std.specs.List.{filter}
use Rattle.cnf_base.specs.Text.{Row, rows, end_line}
use Rattle.lrat_text.specs.LineSteps.{StepsOf, step_then, is_before, rows_then, rows_within}
use Rattle.drat_text.specs.declared.step.DratStep.{DratStep}
use Rattle.drat_text.specs.DratText.{DratLine, drat_step_of, drat_line_of}
use Rattle.drat_text.specs.DratSteps.{drat_lines_then, drat_lines_within}

pub lines_are : (rows : List Row) (last : StepsOf DratStep) → rows_then drat_step_of rows last
    ≡ drat_lines_then (map drat_line_of rows) last
lines_are [] last = refl
lines_are (row ∷ rows) last = ap (step_then (drat_step_of row.words) row.line) (lines_are rows last)

-- those before a line
lines_before : (e : ℕ) (rows : List Row) → filter (λ line. nat_lt line.line e) (map drat_line_of rows) ≡ map drat_line_of
    (filter (is_before e) rows)
lines_before e [] = refl
lines_before e (row ∷ rows) = elim (nat_lt row.line e) as (λ b. (if b then drat_line_of row
    ∷ filter (λ line. nat_lt line.line e) (map drat_line_of rows) else filter (λ line. nat_lt line.line e) (map drat_line_of rows))
    ≡ map drat_line_of (if b then row ∷ filter (is_before e) rows else filter (is_before e) rows)) [
      | true ↦ ap (λ (l : List DratLine). drat_line_of row ∷ l) (lines_before e rows)
      | false ↦ lines_before e rows
    ]

pub within_are : (limit : ℕ) (bytes : List ℕ) → map drat_line_of (rows_within limit bytes) ≡ drat_lines_within limit bytes
within_are limit bytes = sym (lines_before (end_line (take limit bytes)) (rows 99 bytes))
