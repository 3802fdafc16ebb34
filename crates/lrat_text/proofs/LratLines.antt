-- The lines of an LRAT proof are the lines of its text with the steps that they spell.
use Rattle.std.proofs.Common.{◌≡◌, ℕ, true, false, List, [], ◌∷◌, ◌++◌, map, take, refl, sym, ◌∙◌, ap, if◌then◌else◌}
use Rattle.std.specs.Prelude.{nat_lt}
use Rattle.std.specs.List.{filter}
use Rattle.cnf_base.specs.Text.{Row, rows, end_line}
use Rattle.cnf_base.specs.ProofText.{Line, step_of, line_of_row, proof_lines}
use Rattle.lrat_text.specs.LineSteps.{AreFirst, is_before, rows_then, rows_within}
use Rattle.lrat_text.specs.Steps.{Steps, overlong, step_then, steps, lines_then, lines_within, AreFront}

pub lines_are : (rows : List Row) (last : Steps) → rows_then step_of rows last ≡ lines_then (map line_of_row rows) last
lines_are [] last = refl
lines_are (row ∷ rows) last = ap (step_then (step_of row.words) row.line) (lines_are rows last)

map-append : {X Y : Type 0} (f : X → Y) (xs ys : List X) → map f (xs ++ ys) ≡ map f xs ++ map f ys
map-append f [] ys = refl
map-append f (x ∷ xs) ys = ap (λ (l : List _). f x ∷ l) (map-append f xs ys)

-- those before a line
lines_before : (e : ℕ) (rows : List Row) → filter (λ line. nat_lt line.line e) (map line_of_row rows) ≡ map line_of_row
    (filter (is_before e) rows)
lines_before e [] = refl
lines_before e (row ∷ rows) = elim (nat_lt row.line e) as (λ b. (if b then line_of_row row
    ∷ filter (λ line. nat_lt line.line e) (map line_of_row rows) else filter (λ line. nat_lt line.line e) (map line_of_row rows))
    ≡ map line_of_row (if b then row ∷ filter (is_before e) rows else filter (is_before e) rows)) [
      | true ↦ ap (λ (l : List Line). line_of_row row ∷ l) (lines_before e rows)
      | false ↦ lines_before e rows
    ]

pub within_are : (limit : ℕ) (bytes : List ℕ) → map line_of_row (rows_within limit bytes) ≡ lines_within limit bytes
within_are limit bytes = sym (lines_before (end_line (take limit bytes)) (rows 99 bytes))

pub front : (limit : ℕ) (bytes : List ℕ) → steps limit bytes ≡ rows_then step_of (rows_within limit bytes) overlong
    → AreFirst (rows_within limit bytes) (rows 99 bytes) → AreFront (steps limit bytes) (proof_lines bytes)
front limit bytes within first = record {
  front = map line_of_row (rows_within limit bytes);
  rest = map line_of_row first.rest;
  parts = ap (map line_of_row) first.parts ∙ map-append line_of_row (rows_within limit bytes) first.rest;
  steps = within ∙ lines_are (rows_within limit bytes) overlong;
}
