-- The first lines of an LRAT proof.
use Rattle.std.proofs.Common.{List, ◌∙◌, ap}
use Rattle.cnf_base.specs.ProofText.{Line}
use Rattle.lrat_text.specs.LineSteps.{rows_within}
use Rattle.lrat_text.specs.Steps.{overlong, lines_then}
use Rattle.lrat_text.proofs.LratLines.{lines_are, within_are, front}
use Rattle.lrat_text.proofs.laws.long_text_law.Goals as goal

pub returns-clause-within : goal.returns-clause-within
returns-clause-within c = λ limit bytes long. c.line_law.ensures.within limit bytes long ∙ lines_are (rows_within limit bytes) overlong
    ∙ ap (λ (lines : List Line). lines_then lines overlong) (within_are limit bytes)

pub returns-clause-front : goal.returns-clause-front
returns-clause-front c = λ limit bytes long.
    front limit bytes (c.line_law.ensures.within limit bytes long) (c.line_law.ensures.first limit bytes long)
