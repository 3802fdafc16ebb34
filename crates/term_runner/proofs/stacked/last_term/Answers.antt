-- What is left to show of `last_term`.
use Rattle.std.proofs.Common.{[], ◌∷◌, ◌∙◌, reverse, ap}
use Rattle.std.proofs.lemmas.List.{reverse-append}
use Rattle.term_runner.proofs.stacked.last_term.Goals as goal

pub returns-in-Some : goal.returns-in-Some
returns-in-Some c = (
  reverse c.in-Some.field-0-1.now,
  ap reverse c.in-Some.ensures.cases.0
      ∙ reverse-append c.in-Some.field-0-1.now (c.in-Some.u.now ∷ []),
)
