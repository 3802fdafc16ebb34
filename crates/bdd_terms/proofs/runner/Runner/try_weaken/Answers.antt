-- The weakened term.
use Rattle.std.proofs.Common.{Option, Ok, Result, refl, sym, subst}
use Rattle.node_table.specs.declared.error.TableError.{TableError}
use Rattle.node_table.specs.HandedOn.{handed_on}
use Rattle.bdd_terms.specs.declared.term.Term.{Term}
use Rattle.bdd_terms.specs.Parity.{Weakens}
use Rattle.bdd_terms.proofs.Weakened.{whole_found}
use Rattle.bdd_terms.proofs.runner.Runner.try_weaken.Goals as goal

pub returns-in_err-found-clause-weakens : goal.returns-in_err-found-clause-weakens
returns-in_err-found-clause-weakens g c =
    let came = c.in_err-found.field-0.0 in
    subst (λ (r : Result (Option Term) TableError). Weakens c.args.u.now.held c.args.node c.args.self.now c.find_weaker.new.self r)
    (sym (handed_on _ came came c.from_residual.ensures.1 refl)) c.in_err-found.ensures.weakens

pub settle_none-requires : goal.settle_none-requires
settle_none-requires g c = record { runner = c.in_ok-found.ensures.weakens.gives.goes_on (whole_found c.in_ok-found.found) }

pub settle_some-requires : goal.settle_some-requires
settle_some-requires g c = record { runner = c.in_ok-found.ensures.weakens.gives.goes_on (whole_found c.in_ok-found.found) }

pub returns-in-None-clause-weakens : goal.returns-in-None-clause-weakens
returns-in-None-clause-weakens g c =
    c.settle_none.ensures.weakens c.args.u.now.held c.args.node c.args.self.now
    (subst (λ (o : Option Term). Weakens c.args.u.now.held c.args.node c.args.self.now c.find_weaker.new.self (Ok o)) c.in-None.is
    c.in_ok-found.ensures.weakens)

pub returns-in-Some-clause-weakens : goal.returns-in-Some-clause-weakens
returns-in-Some-clause-weakens g c =
    c.settle_some.ensures.weakens c.args.u.now.held c.args.node c.args.self.now
    (subst (λ (o : Option Term). Weakens c.args.u.now.held c.args.node c.args.self.now c.find_weaker.new.self (Ok o)) c.in-Some.is
    c.in_ok-found.ensures.weakens)
