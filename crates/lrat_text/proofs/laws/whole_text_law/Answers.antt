-- The lines of an LRAT proof.
use Rattle.std.proofs.Common.{◌∙◌}
use Rattle.cnf_base.specs.Text.{rows, end_line}
use Rattle.lrat_text.specs.Steps.{no_more}
use Rattle.lrat_text.proofs.LratLines.{lines_are}
use Rattle.lrat_text.proofs.laws.whole_text_law.Goals as goal

pub returns : goal.returns
returns c = λ limit bytes fits. c.line_law.ensures.whole limit bytes fits ∙ lines_are (rows 99 bytes) (no_more (end_line bytes))
