-- What a reader of an LRAT proof gives in turn: the steps that the lines of the text spell, up to the first line that
-- spells none, to the end, or to the limit.
use Rattle.std.specs.Prelude.{◌≡◌, ℕ, List, [], ◌∷◌, ◌++◌, take, nat_lt}
use Rattle.std.specs.List.{filter}
use Rattle.cnf_base.specs.declared.step.Step.{Step}
use Rattle.cnf_base.specs.Text.{end_line}
use Rattle.cnf_base.specs.ProofText.{Line, step_of, proof_lines}
use Rattle.lrat_text.specs.LineSteps.{StepsOf, steps_by, steps_so_far_by}
pub use Rattle.lrat_text.specs.LineSteps.{no_more, overlong, no_step, next_step, step_then}

abbrev pub Steps : Type 0
Steps = StepsOf Step

abbrev pub line_then : Line → Steps → Steps
line_then line steps = step_then line.step line.line steps

-- these lines, and behind them those steps
abbrev pub lines_then : List Line → Steps → Steps
lines_then [] steps = steps
lines_then (line ∷ lines) steps = line_then line (lines_then lines steps)

-- a whole proof text, of which as many bytes are looked at as the limit says
abbrev pub steps : ℕ → List ℕ → Steps
steps limit bytes = steps_by step_of limit bytes

-- The steps that the front of a longer text decides, whatever comes after it.
abbrev pub steps_so_far : List ℕ → Steps
steps_so_far bytes = steps_so_far_by step_of bytes

-- the lines whose line ends stand among so many bytes of the text: those before the line on which these bytes end
abbrev pub lines_within : ℕ → List ℕ → List Line
lines_within limit bytes = filter (λ line. nat_lt line.line (end_line (take limit bytes))) (proof_lines bytes)

-- the steps are those of the first of these lines, and then the text is too long
pub record AreFront (given : Steps) (lines : List Line) : Type 0 where
  pub front : List Line
  pub rest : List Line
  pub parts : lines ≡ front ++ rest
  pub steps : given ≡ lines_then front overlong
