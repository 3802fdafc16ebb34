-- A candidate that is blocked, a tautology, and a candidate that is refuted together with the clause.
use Rattle.std.proofs.Common.{◌≡◌, ◌+◌, List, ◌++◌, [], ◌∷◌, sym, ap, ◌∙◌, subst}
use Rattle.cnf_base.specs.declared.list.Group.{Group}
use Rattle.drat_checker.specs.Lines.{FitOneMore}
use Rattle.drat_checker.proofs.Lifts.{on-ok}
use Rattle.drat_checker.proofs.Lined.{both-plain, fits-refuted, fits-tautology}
use Rattle.drat_checker.proofs.line.LineHints.add_candidate.Goals as goal

pub returns-then-is_blocked-clause-fits : goal.returns-then-is_blocked-clause-fits
returns-then-is_blocked-clause-fits c =
    on-ok c.add_bare.result (λ h wanted plain are units refutes.
    h c.args.db.now c.args.clause.now c.args.pivot c.requires.stands c.requires.holds
    (sym c.clashes-is_blocked.ensures.blocked ∙ c.if-is_blocked.true))
    c.add_bare.ensures.fits

pub returns-then-tautology-clause-fits : goal.returns-then-tautology-clause-fits
returns-then-tautology-clause-fits c = λ wanted plain are units refutes.
    fits-tautology c.args.db.now c.args.clause.now c.args.pivot c.args.number c.args.self.now.groups c.args.other.now c.requires.stands
    (sym c.in_ok-tautology.ensures ∙ c.if-tautology.true)

pub returns-clause-fits : goal.returns-clause-fits
returns-clause-fits c = λ wanted plain are units refutes.
    let places = c.args.db.now in
    let clause = c.args.clause.now in
    let other = c.args.other.now in
    let groups = c.args.self.now.groups in
    let hints = c.in_ok-hints.hints in
    let is : c.push.new.self ≡ groups ++ record { id = c.args.number + 1; hints = hints } ∷ [] =
    c.in_ok-push.ensures.ok
    ∙ ap (λ (gs : List Group). gs ++ record { id = c.id_of-id.result; hints = hints } ∷ []) c.group_hints.ensures.groups
    ∙ ap (λ n. groups ++ record { id = n; hints = hints } ∷ []) c.id_of-id.ensures.value in
    let free = sym c.clashes-is_blocked.ensures.blocked ∙ c.if-is_blocked.false in
    let plain_other = sym c.in_ok-tautology.ensures ∙ c.if-tautology.false in
    subst (FitOneMore places clause c.args.pivot c.args.number groups) (sym is)
    (fits-refuted places clause c.args.pivot c.args.number other c.requires.stands c.requires.holds plain_other groups hints
    c.id_of-id.ensures.range free
    (c.in_ok-hints.ensures.explain.closes are units refutes (both-plain clause other c.args.pivot plain plain_other free)))
