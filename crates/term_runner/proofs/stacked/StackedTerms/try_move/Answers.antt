-- A move is carried out, and the clauses that it retired are deleted.
use Rattle.std.proofs.Common.{Option, Some, ap, sym, subst, arith}
use Rattle.node_table.specs.declared.error.TableError.{TableError}
use Rattle.node_table.specs.declared.error.TableError.TheVariants.{NodeLimit, WriteFault}
use Rattle.node_table.specs.HandedOn.{handed_on}
use Rattle.node_table.specs.Progress.{Leaves}
use Rattle.node_table.specs.Table.{live_nodes}
use Rattle.bdd_terms.proofs.Leaving.{error_handed, limit_left}
use Rattle.term_runner.proofs.Tried.{settled, torn}
use Rattle.term_runner.proofs.stacked.StackedTerms.try_move.Goals as goal

pub settle-requires-in-Err : goal.settle-requires-in-Err
settle-requires-in-Err g c =
    let begun = c.requires in
    let is = c.is_node_limit.ensures.0 c.if-is_node_limit.true in
    record {
      sound = (limit_left c.args.self.now.table c.carry_out.new.self.table c.in-Err.e is
          (c.in-Err.ensures begun.stage begun.next begun.at begun.leads).leaves).0.sound;
    }

pub settle-requires : goal.settle-requires
settle-requires g c =
    let begun = c.requires in
    record { sound = (c.in-Ok-2.ensures begun.stage begun.next begun.at begun.leads).leaves.sound }

pub returns-in-Ok-clause-tried : goal.returns-in-Ok-clause-tried
returns-in-Ok-clause-tried g c = c.in-Ok.ensures

pub returns-in-Err-2-clause-tried : goal.returns-in-Err-2-clause-tried
returns-in-Err-2-clause-tried g c = c.in-Err.ensures

pub returns-in_err-settle-in-Ok-2-clause-tried : goal.returns-in_err-settle-in-Ok-2-clause-tried
returns-in_err-settle-in-Ok-2-clause-tried g c stage next at leads =
    let old = c.args.self.now in
    let came = c.in_err-settle-in-Ok-2.field-0.0 in
    let own = c.in-Ok-2.ensures stage next at leads in
    torn c.args.formula.now stage next old c.carry_out.new.self c.settle.new.self _ own c.settle.ensures.nodes c.settle.ensures.top _
    (handed_on _ came WriteFault c.from_residual.ensures.1 c.in_err-settle-in-Ok-2.ensures.error)
    (subst (λ (error : Option TableError). Leaves old.table c.settle.new.self error) (sym (error_handed _ came c.from_residual.ensures.1))
    (c.steps_law.ensures.leave old.table c.carry_out.new.self.table c.settle.new.self (Some came) own.leaves
    c.in_err-settle-in-Ok-2.ensures.leaves))

pub returns-in_ok-settle-in-Ok-2-clause-tried : goal.returns-in_ok-settle-in-Ok-2-clause-tried
returns-in_ok-settle-in-Ok-2-clause-tried g c stage next at leads =
    let old = c.args.self.now in
    let done = c.in_ok-settle-in-Ok-2.ensures in
    let own = c.in-Ok.ensures stage next at leads in
    settled c.args.formula.now stage next old c.carry_out.new.self c.settle.new.self _ own c.settle.ensures.nodes c.settle.ensures.top
    c.entry_law.ensures c.if-refuted.false done.settled c.settle.ensures.gone c.settle.ensures.stay done.leaves
    (c.steps_law.ensures.go_on old.table c.carry_out.new.self.table c.settle.new.self own.leaves done.leaves)

pub returns-in_err-settle-in-Err-clause-tried : goal.returns-in_err-settle-in-Err-clause-tried
returns-in_err-settle-in-Err-clause-tried g c stage next at leads =
    let old = c.args.self.now in
    let mid = c.carry_out.new.self.table in
    let came = c.in_err-settle-in-Err.field-0.0 in
    let own = c.in-Err.ensures stage next at leads in
    let limit = limit_left old.table mid c.in-Err.e (c.is_node_limit.ensures.0 c.if-is_node_limit.true) own.leaves in
    torn c.args.formula.now stage next old c.carry_out.new.self c.settle-in-Err.new.self _ own c.settle-in-Err.ensures.nodes
    c.settle-in-Err.ensures.top _
    (handed_on _ came WriteFault c.from_residual-in_err-settle-in-Err.ensures.1 c.in_err-settle-in-Err.ensures.error)
    (subst (λ (error : Option TableError). Leaves old.table c.settle-in-Err.new.self error)
    (sym (error_handed _ came c.from_residual-in_err-settle-in-Err.ensures.1))
    (c.steps_law.ensures.leave old.table mid c.settle-in-Err.new.self (Some came) limit.0 c.in_err-settle-in-Err.ensures.leaves))

pub returns-in_ok-settle-in-Err-clause-tried : goal.returns-in_ok-settle-in-Err-clause-tried
returns-in_ok-settle-in-Err-clause-tried g c stage next at leads =
    let old = c.args.self.now in
    let mid = c.carry_out.new.self.table in
    let new = c.settle-in-Err.new.self in
    let done = c.in_ok-settle-in-Err.ensures in
    let own = c.in-Err.ensures stage next at leads in
    let is = c.is_node_limit.ensures.0 c.if-is_node_limit.true in
    let limit = limit_left old.table mid c.in-Err.e is own.leaves in
    let more : Leaves old.table new (Some NodeLimit) = (
      c.steps_law.ensures.go_on old.table mid new limit.0 done.leaves,
      omega (arith, limit.1, done.leaves.max_nodes, ap live_nodes c.settle-in-Err.ensures.nodes),
    ) in
    settled c.args.formula.now stage next old c.carry_out.new.self new _ own c.settle-in-Err.ensures.nodes c.settle-in-Err.ensures.top
    c.entry_law.ensures tt done.settled c.settle-in-Err.ensures.gone c.settle-in-Err.ensures.stay done.leaves
    (subst (λ (e : TableError). Leaves old.table new (Some e)) (sym is) more)
