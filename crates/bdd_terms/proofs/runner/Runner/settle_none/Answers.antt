-- No term, behind the deletion of retired clauses.
use Rattle.std.proofs.Common.{Ok, ap, refl}
use Rattle.node_table.specs.HandedOn.{handed_on}
use Rattle.bdd_terms.proofs.Weakened.{settled_none, torn_none}
use Rattle.bdd_terms.proofs.runner.Runner.settle_none.Goals as goal

pub settle-requires : goal.settle-requires
settle-requires g c = record { runner = λ whole. c.requires.runner }

pub returns-clause-weakens : goal.returns-clause-weakens
returns-clause-weakens g c operand node old own =
    settled_none operand node old c.args.self.now c.settle.new.self (Ok c.truth-always.result) c.settle.result c.settle.ensures.gives
    c.settle.ensures.given c.settle.ensures.nodes c.settle.ensures.out own (ap Ok c.truth-always.ensures) _ c.in_ok-settle.was

pub returns-in_err-settle-clause-weakens : goal.returns-in_err-settle-clause-weakens
returns-in_err-settle-clause-weakens g c operand node old own =
    let came = c.in_err-settle.field-0.0 in
    torn_none operand node old c.args.self.now c.settle.new.self (Ok c.truth-always.result) c.settle.result c.settle.ensures.gives
    c.settle.ensures.given c.settle.ensures.nodes c.settle.ensures.out own (ap Ok c.truth-always.ensures) came c.in_err-settle.was _
    (handed_on _ came came c.from_residual.ensures.1 refl)
