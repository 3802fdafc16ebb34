-- The first such clause is gone, or there is none.
use Rattle.std.proofs.Common.{◌≡◌, refl, sym, ap, ◌∙◌, subst, ℤ, List}
use Rattle.drat_rules.specs.Clauses.{equality_of, without_first_by}
use Rattle.drat_checker.specs.Places.{standing}
use Rattle.drat_checker.proofs.Standing.{place-within, remove-first, without-none}
use Rattle.drat_checker.proofs.judge.DratJudge.delete.Goals as goal

pub clear-requires : goal.clear-requires
clear-requires c = place-within c.self.inside.judge c.in-Some.number c.in-Some.ensures.found.own c.in-Some.ensures.found.stands

pub returns-in-None : goal.returns-in-None
returns-in-None c =
    let same = equality_of c.args.deletions in
    ap standing c.postpone.ensures ∙ c.self.view_is
    ∙ subst (λ (cs : List (List ℤ)). cs ≡ without_first_by same c.args.clause.now cs) c.self.view_is
    (sym (without-none same c.self.inside.judge c.args.clause.now (c.in-None.ensures.none refl).absent))

pub returns-in-Some : goal.returns-in-Some
returns-in-Some c =
    let same = equality_of c.args.deletions in
    let first = c.in-Some.ensures.found in
    ap standing c.clear.ensures
    ∙ remove-first same c.self.inside.judge c.in-Some.number c.args.clause.now first.own first.stands first.twin first.least
    ∙ ap (without_first_by same c.args.clause.now) c.self.view_is
