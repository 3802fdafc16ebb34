-- What is left to show of `last_two`.
use Rattle.std.proofs.Common.{List, [], ◌∷◌, ◌∙◌, reverse, ap}
use Rattle.std.proofs.lemmas.List.{reverse-append}
use Rattle.bdd_terms.specs.declared.held.HeldTerm.{HeldTerm}
use Rattle.term_runner.proofs.stacked.last_two.Goals as goal

pub returns-in-Some-last_term : goal.returns-in-Some-last_term
returns-in-Some-last_term c =
    let below = c.in-Some-last_term.ensures in (
      below.0,
      ap reverse c.in-Some.ensures.cases.0 ∙ reverse-append c.in-Some.below.now (c.in-Some.v.now ∷ [])
          ∙ ap (λ (rest : List HeldTerm). c.in-Some.v.now ∷ rest) below.1,
    )
