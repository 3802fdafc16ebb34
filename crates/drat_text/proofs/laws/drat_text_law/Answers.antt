-- The lines of a DRAT proof.
use Rattle.std.proofs.Common.{List, ◌∙◌, ap}
use Rattle.cnf_base.specs.Text.{rows, end_line}
use Rattle.lrat_text.specs.LineSteps.{no_more, overlong, rows_within}
use Rattle.drat_text.specs.DratText.{DratLine}
use Rattle.drat_text.specs.DratSteps.{drat_lines_then}
use Rattle.drat_text.proofs.DratLines.{lines_are, within_are}
use Rattle.drat_text.proofs.laws.drat_text_law.Goals as goal

pub returns-clause-whole : goal.returns-clause-whole
returns-clause-whole c = λ limit bytes fits. c.line_law.ensures.whole limit bytes fits ∙ lines_are (rows 99 bytes) (no_more (end_line bytes))

pub returns-clause-within : goal.returns-clause-within
returns-clause-within c = λ limit bytes long. c.line_law.ensures.within limit bytes long ∙ lines_are (rows_within limit bytes) overlong
    ∙ ap (λ (lines : List DratLine). drat_lines_then lines overlong) (within_are limit bytes)
