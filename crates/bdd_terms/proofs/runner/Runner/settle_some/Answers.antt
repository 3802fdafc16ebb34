-- The weakened term, behind the deletion of retired clauses.
use Rattle.std.proofs.Common.{Ok, refl}
use Rattle.node_table.specs.HandedOn.{handed_on}
use Rattle.bdd_terms.proofs.Weakened.{settled_some, torn_some}
use Rattle.bdd_terms.proofs.runner.Runner.settle_some.Goals as goal

pub settle-requires : goal.settle-requires
settle-requires g c = record { runner = λ whole. c.requires.runner }

pub returns-clause-weakens : goal.returns-clause-weakens
returns-clause-weakens g c operand node old own =
    settled_some operand node old c.args.self.now c.settle.new.self (Ok c.args.term) c.settle.result c.settle.ensures.gives
    c.settle.ensures.given c.settle.ensures.nodes c.settle.ensures.out c.args.term own refl c.in_ok-settled.settled c.in_ok-settled.was

pub returns-in_err-settled-clause-weakens : goal.returns-in_err-settled-clause-weakens
returns-in_err-settled-clause-weakens g c operand node old own =
    let came = c.in_err-settled.field-0.0 in
    torn_some operand node old c.args.self.now c.settle.new.self (Ok c.args.term) c.settle.result c.settle.ensures.gives
    c.settle.ensures.given c.settle.ensures.nodes c.settle.ensures.out c.args.term own refl came c.in_err-settled.was _
    (handed_on _ came came c.from_residual.ensures.1 refl)
