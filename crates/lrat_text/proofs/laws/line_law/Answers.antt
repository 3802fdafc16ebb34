-- A line is judged by what is kept of its tokens.
use Rattle.lrat_text.proofs.Overlong.{whole, within, first}
use Rattle.lrat_text.proofs.laws.line_law.Goals as goal

pub returns-clause-whole : goal.returns-clause-whole
returns-clause-whole g c = whole g.F.LineForm.form.step_of c.form_law.ensures.kept

pub returns-clause-within : goal.returns-clause-within
returns-clause-within g c = within g.F.LineForm.form.step_of c.form_law.ensures.kept

pub returns-clause-first : goal.returns-clause-first
returns-clause-first g c = λ limit bytes long. first limit bytes
