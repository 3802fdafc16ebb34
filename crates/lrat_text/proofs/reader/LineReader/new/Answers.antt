-- What is ahead of a new reader are the steps of the text.
use Rattle.std.proofs.Common.{◌∙◌, sym, ap}
use Rattle.text_scan.specs.Items.{items, items_of_front}
use Rattle.text_scan.specs.Scan.{ahead, so_far as scan_so_far}
use Rattle.lrat_text.specs.LineSteps.{broken_off}
use Rattle.lrat_text.specs.LineReader.{drafted}
use Rattle.lrat_text.specs.LineWants.{wants_after}
use Rattle.lrat_text.proofs.Drafted.{drafted-start}
use Rattle.lrat_text.proofs.reader.LineReader.new.Goals as goal

pub returns-clause-steps : goal.returns-clause-steps
returns-clause-steps g c =
    let form = g.F.LineForm.form in
    λ bytes. ap (drafted form (ahead c.new.result bytes)) c.new-2.ensures
    ∙ ap (λ is. drafted form is form.no_draft) (c.new.ensures.items bytes)
    ∙ sym (drafted-start form c.form_law.ensures (items 99 c.args.limit bytes))

pub returns-clause-so_far : goal.returns-clause-so_far
returns-clause-so_far g c =
    let form = g.F.LineForm.form in
    λ bytes. ap (drafted form (broken_off (scan_so_far c.new.result bytes))) c.new-2.ensures
    ∙ ap (λ is. drafted form (broken_off is) form.no_draft) (c.new.ensures.front bytes)
    ∙ sym (drafted-start form c.form_law.ensures (broken_off (items_of_front 99 bytes)))

pub returns-clause-wants : goal.returns-clause-wants
returns-clause-wants g c =
    let form = g.F.LineForm.form in
    λ bytes. ap (wants_after form (ahead c.new.result bytes)) c.new-2.ensures
    ∙ ap (λ is. wants_after form is form.no_draft) (c.new.ensures.items bytes)
