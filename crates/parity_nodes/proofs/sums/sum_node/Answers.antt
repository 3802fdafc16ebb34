-- What is left to show of `sum_node`.
use Rattle.std.proofs.Common.{sym, subst}
use Rattle.node_table.specs.Diagram.{Graph}
use Rattle.node_table.specs.Made.{LacksPart}
use Rattle.node_table.specs.Refused.{same_nodes}
use Rattle.parity_nodes.proofs.SumNodes.{if_ok, sum_from, sum_lacks, sum_made}
use Rattle.parity_nodes.proofs.sums.sum_node.Goals as goal

pub returns-clause-sum : goal.returns-clause-sum
returns-clause-sum g c more bit is_high is_low =
    let old = c.args.table.now in
    let new = c.node-node.new.self in
    if_ok c.node-node.result _ _ (λ node has. sum_from c.cofactor_law.ensures c.growth_law.ensures old.graph new.graph
    c.requires.sound.tied.reduced c.table_law.ensures.reduced c.node-node.ensures.steps.extends.nodes c.args.level more bit c.args.high
    c.args.low is_high is_low node has) c.node-node.ensures.children

pub returns-clause-made : goal.returns-clause-made
returns-clause-made g c more bit f is_high is_low part =
    let old = c.args.table.now in
    let new = c.node-node.new.self in
    sum_made c.cofactor_law.ensures c.growth_law.ensures old.graph new.graph c.requires.sound.tied.reduced c.table_law.ensures.reduced
    c.node-node.ensures.steps.extends.nodes c.args.level more bit c.args.high c.args.low is_high is_low c.subfunction_law.ensures f part
    c.node-node.ensures.only

pub returns-clause-lacks : goal.returns-clause-lacks
returns-clause-lacks g c more bit f is_high is_low part full =
    let old = c.args.table.now in
    let new = c.node-node.new.self in
    subst (λ (graph : Graph). LacksPart graph f) (sym (same_nodes old new c.node-node.result c.node-node.ensures.refused full))
    (sum_lacks c.missing_law.ensures old.graph c.requires.sound.tied.reduced c.args.level more bit c.args.high c.args.low c.requires.level
    c.requires.high c.requires.low is_high is_low f part (c.node-node.ensures.node_limit.0 full).0)

pub returns-clause-steps : goal.returns-clause-steps
returns-clause-steps g c = c.node-node.ensures.steps

pub returns-clause-retired : goal.returns-clause-retired
returns-clause-retired g c = c.node-node.ensures.retired

pub returns-clause-none_added : goal.returns-clause-none_added
returns-clause-none_added g c = c.node-node.ensures.none_added
