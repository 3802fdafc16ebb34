-- The answer by numbers, seen as a list.
use Rattle.std.proofs.Common.{ℤ, List, ◌++◌, ◌∷◌, [], ap, ◌∙◌}
use Rattle.drat_rules.specs.Addition.{drat_fault}
use Rattle.drat_checker.specs.Places.{standing}
use Rattle.drat_checker.proofs.Lifts.{if-none-each, if-ok}
use Rattle.drat_checker.proofs.Standing.{standing-push}
use Rattle.drat_checker.proofs.judge.DratJudge.add.Goals as goal

pub returns-clause-fault : goal.returns-clause-fault
returns-clause-fault c =
    if-ok c.add.result (λ fault h. h ∙ ap (λ (cs : List (List ℤ)). drat_fault cs c.args.clause.now) c.self.view_is) c.add.ensures.fault

pub returns-clause-good : goal.returns-clause-good
returns-clause-good c =
    if-ok c.add.result (λ fault. if-none-each fault (λ h.
    ap standing h ∙ standing-push c.self.inside.judge c.args.clause.now
    ∙ ap (λ (cs : List (List ℤ)). cs ++ c.args.clause.now ∷ []) c.self.view_is)) c.add.ensures.good
