-- A tautology, or a candidate.
use Rattle.std.proofs.Common.{◌≡◌, ◌+◌, ℕ, List, [], ◌∷◌, ◌++◌, refl, sym, ap, ◌∙◌, subst}
use Rattle.drat_checker.specs.Lines.{FitOneMore}
use Rattle.drat_checker.proofs.Lined.{fits-blocked, fits-tautology}
use Rattle.drat_checker.proofs.line.LineHints.add_bare.Goals as goal

pub returns-then-tautology-clause-fits : goal.returns-then-tautology-clause-fits
returns-then-tautology-clause-fits c = λ places clause pivot stands holds blocked.
    fits-tautology places clause pivot c.args.number c.args.self.now.groups c.args.other.now stands
    (sym c.in_ok-tautology.ensures ∙ c.if-tautology.true)

pub returns-clause-fits : goal.returns-clause-fits
returns-clause-fits c = λ places clause pivot stands holds blocked.
    let groups = c.args.self.now.groups in
    let is : c.push.new.self ≡ groups ++ record { id = c.args.number + 1; hints = [] } ∷ [] =
    c.in_ok-push.ensures.ok ∙ ap (λ n. groups ++ record { id = n; hints = c.new-hints.result } ∷ []) c.id_of-id.ensures.value
    ∙ ap (λ (h : List ℕ). groups ++ record { id = c.args.number + 1; hints = h } ∷ []) c.new-hints.ensures in
    subst (FitOneMore places clause pivot c.args.number groups) (sym is)
    (fits-blocked places clause pivot c.args.number c.args.other.now stands holds (sym c.in_ok-tautology.ensures ∙ c.if-tautology.false)
    c.args.self.now.groups [] c.id_of-id.ensures.range refl blocked)
