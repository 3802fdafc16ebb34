-- The clause stands behind the others, and the roots are those with it.
use Rattle.std.proofs.Common.{◌++◌, ◌∷◌, [], Some, ◌∙◌, ap}
use Rattle.drat_checker.specs.Places.{Places}
use Rattle.drat_checker.proofs.numbered.NumberedJudge.put.Goals as goal

pub raised-self-inside-requires : goal.raised-self-inside-requires
raised-self-inside-requires c = record {
  before = c.self.inside.db;
  last = c.in_ok-number.ensures.number;
  is = c.in_ok-number.ensures.ok;
  kept = c.self.invariant;
}

pub returns-clause-ok : goal.returns-clause-ok
returns-clause-ok c =
    c.in_ok-number.ensures.ok ∙ ap (λ (ps : Places). ps ++ Some c.args.clause.now ∷ []) c.self.view_is
