-- What is left to show of `least_values`.
use Rattle.std.proofs.Common.{◌∙◌, Bool, List, subst, sym}
use Rattle.node_table.specs.declared.node.Node.{Node}
use Rattle.cube_models.specs.Least as walk
use Rattle.cube_queries.specs.Answers.{IsLeastModel}
use Rattle.cube_queries.proofs.Walked.{model_found}
use Rattle.cube_queries.proofs.walk.least_values.Goals as goal

pub returns-clause-least : goal.returns-clause-least
returns-clause-least g c =
    let runner = c.args.runner.now in
    let held = c.args.term.now.held in
    let values = c.find.new.self.values.items in
    let found = c.in_ok-find.ensures.least c.if-not-branch.false in
    let model : walk.IsLeastModel runner.terms.table.graph held.node c.args.cube.now values =
    subst (λ (n : Node). walk.IsLeastModel runner.terms.table.graph n c.args.cube.now values) c.node.ensures
    (subst (λ t. walk.IsLeastModel t.graph c.node.result c.args.cube.now values) c.table.ensures found) in
    subst (λ (list : List Bool). IsLeastModel runner.formula.now runner.terms.table.graph.order c.args.cube.now list)
    (sym (c.in_ok-of.ensures ∙ c.values.ensures))
    (model_found runner c.requires.runner held c.args.cube.now c.requires.value values model)
