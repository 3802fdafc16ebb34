-- What is left to show of `add_unit`.
use Rattle.std.proofs.Common.{◌∙◌, arith, sym}
use Rattle.node_table.specs.declared.error.TableError.TheVariants.{OutOfMemory}
use Rattle.node_table.specs.HandedOn.{if_handed}
use Rattle.node_table.specs.Refused.{steps_handed_on}
use Rattle.clause_terms.specs.ToldUnit.{told_unit, unit_clause}
use Rattle.clause_terms.proofs.Handed.{adds_none}
use Rattle.clause_terms.proofs.term.add_unit.Goals as goal

pub returns-in_err-hints-clause-steps : goal.returns-in_err-hints-clause-steps
returns-in_err-hints-clause-steps g c =
    let table = c.args.table.now in
    steps_handed_on _ OutOfMemory c.from_residual.ensures.1
    (c.steps_law.ensures.at_most table table 0 1 _ (omega arith) (c.steps_law.ensures.no_memory table c.requires.sound))

pub returns-clause-nodes : goal.returns-clause-nodes
returns-clause-nodes g c = c.justify.ensures.nodes

pub returns-clause-no_node_limit : goal.returns-clause-no_node_limit
returns-clause-no_node_limit g c = c.justify.ensures.no_node_limit

pub returns-clause-steps : goal.returns-clause-steps
returns-clause-steps g c = c.justify.ensures.no_empty (λ is. cc)

pub returns-clause-own : goal.returns-clause-own
returns-clause-own g c = c.justify.ensures.own

pub returns-in_err-hints-clause-none_added : goal.returns-in_err-hints-clause-none_added
returns-in_err-hints-clause-none_added g c = if_handed _ OutOfMemory _ c.from_residual.ensures.1 (λ whole id own. own)

pub returns-clause-none_added : goal.returns-clause-none_added
returns-clause-none_added g c = adds_none c.args.table.now c.justify.new.self c.justify.result c.justify.ensures.refused

pub returns-clause-told : goal.returns-clause-told
returns-clause-told g c =
    told_unit c.args.table.now c.justify.new.self c.args.node _ _ _ c.justify.result
    (unit_clause c.args.table.now.graph c.args.node _ (sym c.literal.ensures ∙ c.unwrap-unit.ensures)) (c.as_slice.ensures ∙ c.in_ok-hints.ensures)
    c.justify.ensures.step
