-- The refusals are given up, and no term is out.
use Rattle.std.proofs.Common.{◌≡◌, ◌∙◌, length, ap}
use Rattle.bdd_terms.specs.declared.runner.Runner.{Runner}
use Rattle.bdd_terms.proofs.Resting.{empty_added, nothing, owns_nothing}
use Rattle.bdd_terms.proofs.runner.Runner.hand_over.Goals as goal

pub returns : goal.returns
returns g c =
    let left = c.give_up_refusals.new.self in
    let told = c.give_up_refusals.ensures in
    let none : length left.terms.out.items ≡ 0 = ap (λ (r : Runner g.row.S.Denot). length r.terms.out.items) told.same ∙ c.requires.none_out in
    record {
      formula = ap (λ (r : Runner g.row.S.Denot). r.formula) told.same;
      limits = ap (λ (r : Runner g.row.S.Denot). r.limits) told.same;
      refuted = ap (λ (r : Runner g.row.S.Denot). r.refuted) told.same;
      terms = ap (λ (r : Runner g.row.S.Denot). r.terms) told.same;
      none_out = nothing left.terms.out.items none;
      over = told.goes_on.over;
      within = told.goes_on.within;
      empty = empty_added left told.goes_on;
      unrefuted = told.goes_on.unrefuted;
      units = owns_nothing left told.goes_on none told.none;
    }
