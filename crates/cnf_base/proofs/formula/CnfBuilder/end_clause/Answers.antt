-- What is left to show of `CnfBuilder::end_clause`.
use Rattle.std.proofs.Common.{◌<◌, ◌++◌, [], ◌∷◌, List, length, ◌∙◌, ap, arith}
use Rattle.cnf_base.specs.Formula.{Draft}
use Rattle.cnf_base.proofs.FlatFormula.{length-cut_at, stored-end, draft-end}
use Rattle.cnf_base.proofs.formula.CnfBuilder.end_clause.Goals as goal

pub invariant_of-self-2 : goal.invariant_of-self-2
invariant_of-self-2 c =
    let few : length c.self.inside.ends.items < 10000000 =
    omega (
      arith,
      c.requires,
      ap (λ (d : Draft). length d.clauses) c.self.view_is,
      length-cut_at c.self.inside.literals.items 0 c.self.inside.ends.items,
    ) in
    stored-end c.self.invariant few c.push.new.self.items (c.in_ok-push.ensures.items
    ∙ ap (λ (xs : List _). c.self.inside.ends.items ++ length xs ∷ []) c.as_slice.ensures.value)

pub returns-clause-ok : goal.returns-clause-ok
returns-clause-ok c =
    draft-end c.self.inside.vars c.self.inside.literals.items c.self.inside.ends.items c.push.new.self.items c.args.self.now c.self.view_is
    (c.in_ok-push.ensures.items ∙ ap (λ (xs : List _). c.self.inside.ends.items ++ length xs ∷ []) c.as_slice.ensures.value)
