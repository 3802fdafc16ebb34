-- What is left to show of `answer_by`.
use Rattle.std.proofs.Common.{◌≡◌, sym, refl, ◌∙◌}
use Rattle.std.specs.List.{filter, range_with_len}
use Rattle.proof_trim.specs.Core.{core_text}
use Rattle.proof_trim.specs.Lines.{text_from}
use Rattle.proof_trim.specs.Numbers.{has}
use Rattle.proof_trim.specs.Trimmed.{is_there, kept, needed}
use Rattle.proof_trim.specs.declared.place.Place.TheVariants.{Between}
use Rattle.proof_trim.proofs.Again.{named-rest}
use Rattle.proof_trim.proofs.Piles.{additions_stay}
use Rattle.proof_trim.proofs.Spelled.{spelled}
use Rattle.proof_trim.proofs.text.answer_by.Goals as goal

pub returns-in_ok-core-in-Verified : goal.returns-in_ok-core-in-Verified
returns-in_ok-core-in-Verified c = (
  c.in-Verified.is,
  (λ steps piled.
      let count = c.args.count in
      let swept = c.in_ok-back-in-Verified.ensures steps piled in
      let same : has c.sweep.new.numbers ≡ needed steps = λ i id. swept.numbers id i in (
        c.of-in-Verified.ensures ∙ (λ i. text_from (is_there count (same i)) Between (swept.row i))
            ∙ spelled count (needed steps) (kept steps),
        c.in_ok-core-in-Verified.ensures
            ∙ (λ i. core_text (filter (λ id. (swept.numbers id ∙ sym (named-rest count (needed steps) steps id)) i)
            (range_with_len 1 count))),
        swept.additions ∙ sym (additions_stay count (needed steps) (kept steps)),
      )),
  refl,
)
