-- What is left to show of `Runner::derive`.
use Rattle.std.proofs.Common.{Err, ap, refl}
use Rattle.node_table.specs.HandedOn.{handed_on}
use Rattle.bdd_terms.proofs.Derived.{derived_none, derived_one}
use Rattle.bdd_terms.proofs.runner.Runner.derive.Goals as goal

pub returns-in_err-id : goal.returns-in_err-id
returns-in_err-id g c =
    let came = c.in_err-id.field-0.0 in
    let own = c.in_err-id.ensures in
    record {
      derives = derived_none c.growth_law.ensures c.steps_law.ensures c.entry_law.ensures c.args.self.now c.requires.runner came
          c.justify.new.self own.steps own.nodes (λ limit. own.no_node_limit (ap Err limit)) (λ limit. own.id_limit.0 (ap Err limit)) own.refused c.args.clause.now _
          (handed_on _ came came c.from_residual.ensures.1 refl);
    }

pub returns : goal.returns
returns g c =
    let own = c.in_ok-id.ensures in
    record {
      derives = derived_one c.growth_law.ensures c.steps_law.ensures c.entry_law.ensures c.args.self.now c.requires.runner
          c.in_ok-id.id c.args.clause.now c.justify.new.self own.steps (λ no. (own.no_empty c.requires.some).no_empty) own.added own.own
          own.nodes own.retired c.retire.new.self c.retire.ensures.retired c.retire.ensures.steps;
    }
