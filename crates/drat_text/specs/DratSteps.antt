-- What a reader of a DRAT proof gives in turn: the steps that the lines of the text spell, up to the first line that spells
-- none, to the end, or to the limit.
use Rattle.std.specs.Prelude.{ℕ, List, [], ◌∷◌, take, nat_lt}
use Rattle.std.specs.List.{filter}
use Rattle.cnf_base.specs.Text.{end_line}
use Rattle.lrat_text.specs.LineSteps.{StepsOf, step_then, steps_by}
use Rattle.drat_text.specs.declared.step.DratStep.{DratStep}
use Rattle.drat_text.specs.DratText.{DratLine, drat_step_of, drat_lines}

-- these lines, and behind them those steps
abbrev pub drat_lines_then : List DratLine → StepsOf DratStep → StepsOf DratStep
drat_lines_then [] steps = steps
drat_lines_then (line ∷ lines) steps = step_then line.step line.line (drat_lines_then lines steps)

-- a whole proof text, of which as many bytes are looked at as the limit says
abbrev pub drat_steps_in : ℕ → List ℕ → StepsOf DratStep
drat_steps_in limit bytes = steps_by drat_step_of limit bytes

-- the lines whose line ends stand among so many bytes of the text
abbrev pub drat_lines_within : ℕ → List ℕ → List DratLine
drat_lines_within limit bytes = filter (λ line. nat_lt line.line (end_line (take limit bytes))) (drat_lines bytes)
