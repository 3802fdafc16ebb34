-- The numbers that were taken go on with the line.
use Rattle.std.proofs.Common.{◌≡◌, true, refl, sym, ◌∙◌}
use Rattle.lrat_text.specs.LineReader.{ReaderOf}
use Rattle.lrat_text.proofs.GoesOn.{GoesOn-numbers, numbers_lead, took_sound}
use Rattle.lrat_text.proofs.reader.LineReader.take_numbers.Goals as goal

pub invariant_of-self : goal.invariant_of-self
invariant_of-self g c = λ reading.
    took_sound c.take_numbers.ensures.numbers (g.F.LineForm.form.line c.self.inside.draft) c.self.inside.scanner c.take_numbers.new.scanner
    c.take_numbers.ensures.took (c.self.invariant reading)

pub returns-then-is_begun-clause-goes_on : goal.returns-then-is_begun-clause-goes_on
returns-then-is_begun-clause-goes_on g c =
    let form = g.F.LineForm.form in
    let taken = c.take_numbers.ensures in
    let old : ReaderOf _ = record {
      scan = c.self.inside.scanner;
      draft = c.self.inside.draft;
      status = c.self.inside.status;
      line = c.self.inside.line;
    } in
    let new : ReaderOf _ = record {
      scan = c.take_numbers.new.scanner;
      draft = c.take_numbers.new.self;
      status = c.self.inside.status;
      line = c.self.inside.line;
    } in
    let begun : form.is_begun old.draft ≡ true = sym c.is_begun.ensures ∙ c.if-is_begun.true in
    rw (← c.self.view_is) (GoesOn-numbers form c.form_law.ensures taken.numbers old new taken.took begun taken.behind refl refl)

pub returns-then-is_begun-clause-leads : goal.returns-then-is_begun-clause-leads
returns-then-is_begun-clause-leads g c = λ more.
    let form = g.F.LineForm.form in
    let taken = c.take_numbers.ensures in
    let old : ReaderOf _ = record {
      scan = c.self.inside.scanner;
      draft = c.self.inside.draft;
      status = c.self.inside.status;
      line = c.self.inside.line;
    } in
    let new : ReaderOf _ = record {
      scan = c.take_numbers.new.scanner;
      draft = c.take_numbers.new.self;
      status = c.self.inside.status;
      line = c.self.inside.line;
    } in
    let begun : form.is_begun old.draft ≡ true = sym c.is_begun.ensures ∙ c.if-is_begun.true in
    rw (← c.self.view_is) (numbers_lead form c.form_law.ensures taken.numbers old new taken.took begun taken.behind more)
