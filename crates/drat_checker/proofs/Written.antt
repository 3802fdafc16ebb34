-- The lines of the text that is written for steps spell these steps, one on each line. The laws of lines are given.
use Rattle.std.proofs.Common.{◌≡◌, ℕ, ◌+◌, true, List, [], ◌∷◌, ◌++◌, length, Some, sym, ap, ◌∙◌, append_assoc, arith}
use Rattle.std.specs.List.{list_all}
use Rattle.std.proofs.lemmas.Bool.{and_parts}
use Rattle.std.proofs.lemmas.List.{append-nil}
use Rattle.cnf_base.specs.Text.{line_ends}
use Rattle.cnf_base.specs.ProofText.{are_whole_lines}
use Rattle.drat_text.specs.declared.step.DratStep.{DratStep}
use Rattle.drat_text.specs.DratText.{DratLine, drat_lines, drat_text, is_drat_printable, line_of_drat}
use Rattle.drat_checker.specs.DratVerdict.{numbered_lines}

module _ (appended : (bytes : List ℕ) (step : DratStep) → are_whole_lines bytes ≡ true → is_drat_printable step ≡ true
    → drat_lines (bytes ++ line_of_drat step) ≡ drat_lines bytes ++ record { line = line_ends bytes + 1; step = Some step } ∷ [])
    (whole : (bytes : List ℕ) (step : DratStep) → are_whole_lines (bytes ++ line_of_drat step) ≡ true)
    (ends : (bytes : List ℕ) (step : DratStep) → is_drat_printable step ≡ true → line_ends (bytes ++ line_of_drat step)
    ≡ line_ends bytes + 1) where
  pub written-lines : (steps : List DratStep) (bytes : List ℕ) → are_whole_lines bytes ≡ true → list_all is_drat_printable steps ≡ true
      → drat_lines (bytes ++ drat_text steps) ≡ drat_lines bytes ++ numbered_lines (line_ends bytes + 1) steps
  written-lines [] bytes lines printable = ap drat_lines (append-nil bytes) ∙ sym (append-nil (drat_lines bytes))
  written-lines (step ∷ steps) bytes lines printable =
      let parts = and_parts (is_drat_printable step) (list_all is_drat_printable steps) printable in
      let next : DratLine = record { line = line_ends bytes + 1; step = Some step } in
      ap drat_lines (sym (append_assoc bytes (line_of_drat step) (drat_text steps)))
      ∙ written-lines steps (bytes ++ line_of_drat step) (whole bytes step) parts.1
      ∙ ap (λ ls. ls ++ numbered_lines (line_ends (bytes ++ line_of_drat step) + 1) steps) (appended bytes step lines parts.0)
      ∙ ap (λ n. (drat_lines bytes ++ next ∷ []) ++ numbered_lines (n + 1) steps) (ends bytes step parts.0)
      ∙ append_assoc (drat_lines bytes) (next ∷ []) (numbered_lines (line_ends bytes + 1 + 1) steps)

  pub written-ends : (steps : List DratStep) (bytes : List ℕ) → list_all is_drat_printable steps ≡ true
      → line_ends (bytes ++ drat_text steps) ≡ line_ends bytes + length steps
  written-ends [] bytes printable = let none = ap line_ends (append-nil bytes) in omega arith
  written-ends (step ∷ steps) bytes printable =
      let parts = and_parts (is_drat_printable step) (list_all is_drat_printable steps) printable in
      let same = ap line_ends (append_assoc bytes (line_of_drat step) (drat_text steps)) in
      let later = written-ends steps (bytes ++ line_of_drat step) parts.1 in
      let one = ends bytes step parts.0 in
      omega arith
