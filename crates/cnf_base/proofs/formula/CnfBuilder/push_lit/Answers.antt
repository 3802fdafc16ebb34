-- What is left to show of `CnfBuilder::push_lit`.
use Rattle.std.proofs.Common.{◌<◌, ◌≤◌, length, ap, arith}
use Rattle.std.specs.Prelude.{nat_abs}
use Rattle.cnf_base.specs.Formula.{Draft}
use Rattle.cnf_base.proofs.FlatFormula.{stored-push, draft-push}
use Rattle.cnf_base.proofs.formula.CnfBuilder.push_lit.Goals as goal

pub invariant_of-self-2 : goal.invariant_of-self-2
invariant_of-self-2 c =
    let few : length c.self.inside.literals.items < 4294967295 = omega (arith, ap length c.as_slice.ensures.value) in
    let small : nat_abs c.args.literal ≤ c.self.inside.vars = omega (arith, c.requires, ap (λ (d : Draft). d.vars) c.self.view_is) in
    stored-push c.self.invariant c.args.literal (omega (arith, c.var-var.ensures.value, c.var-var.ensures.range.0)) small few
    c.push.new.self.items c.in_ok-push.ensures.items

pub returns-clause-ok : goal.returns-clause-ok
returns-clause-ok c =
    draft-push c.self.inside.vars c.self.inside.literals.items c.push.new.self.items c.self.inside.ends.items c.args.literal c.args.self.now
    c.self.invariant.in_order c.self.view_is c.in_ok-push.ensures.items
