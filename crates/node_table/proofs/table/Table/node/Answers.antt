-- What is left to show of `Table::node`.
use Rattle.std.proofs.Common.{inl}
use Rattle.node_table.proofs.Outcome.{outcome_children, outcome_given}
use Rattle.node_table.proofs.Progressed.{Steps-none}
use Rattle.node_table.specs.HandedOn.{no_error}
use Rattle.node_table.proofs.table.Table.node.Goals as goal

pub returns-clause-children : goal.returns-clause-children
returns-clause-children g c = outcome_children c.args.self.now c.make.new.self c.args.level c.args.high c.args.low c.make.result
    c.make.ensures.made

pub returns-clause-given : goal.returns-clause-given
returns-clause-given g c whole = outcome_given c.args.self.now c.make.new.self c.args.level c.args.high c.args.low c.make.result
    c.make.ensures.made c.make.ensures.refused whole

pub returns-clause-steps : goal.returns-clause-steps
returns-clause-steps g c = c.make.ensures.steps

pub returns-clause-only : goal.returns-clause-only
returns-clause-only g c = c.make.ensures.only

pub returns-clause-refused : goal.returns-clause-refused
returns-clause-refused g c = c.make.ensures.refused

pub returns-clause-made : goal.returns-clause-made
returns-clause-made g c wanted = c.make.ensures.made

pub returns-clause-torn : goal.returns-clause-torn
returns-clause-torn g c = c.make.ensures.torn

pub returns-then-same_node-clause-steps : goal.returns-then-same_node-clause-steps
returns-then-same_node-clause-steps g c = Steps-none c.args.self.now c.requires.sound

pub returns-then-same_node-clause-only : goal.returns-then-same_node-clause-only
returns-then-same_node-clause-only g c key b at = inl at

pub returns-then-same_node-clause-given : goal.returns-then-same_node-clause-given
returns-then-same_node-clause-given g c whole key b at = inl at

pub returns-then-same_node-clause-torn : goal.returns-then-same_node-clause-torn
returns-then-same_node-clause-torn g c is = absurd (no_error is)

pub returns-in-Some-clause-steps : goal.returns-in-Some-clause-steps
returns-in-Some-clause-steps g c = Steps-none c.args.self.now c.requires.sound

pub returns-in-Some-clause-only : goal.returns-in-Some-clause-only
returns-in-Some-clause-only g c key b at = inl at

pub returns-in-Some-clause-given : goal.returns-in-Some-clause-given
returns-in-Some-clause-given g c whole key b at = inl at

pub returns-in-Some-clause-torn : goal.returns-in-Some-clause-torn
returns-in-Some-clause-torn g c is = absurd (no_error is)

pub returns-clause-retired : goal.returns-clause-retired
returns-clause-retired g c = c.make.ensures.retired

pub returns-clause-none_added : goal.returns-clause-none_added
returns-clause-none_added g c = c.make.ensures.none_added

pub returns-then-same_node-clause-none_added : goal.returns-then-same_node-clause-none_added
returns-then-same_node-clause-none_added g c whole id own = own

pub returns-in-Some-clause-none_added : goal.returns-in-Some-clause-none_added
returns-in-Some-clause-none_added g c whole id own = own
