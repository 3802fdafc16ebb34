-- What is left to show of `add_literal`.
use Rattle.std.proofs.Common.{◌≡◌, Err, List, ◌∷◌, reverse, sym, ap, subst}
use Rattle.hint_chain.specs.declared.unit.UnitPart.{UnitPart}
use Rattle.node_table.specs.declared.error.TableError.TheVariants.{NodeLimit, OutOfMemory, WriteFault}
use Rattle.node_table.specs.Diagram.{branch_of}
use Rattle.node_table.specs.Tied.{IsTied}
use Rattle.clause_terms.specs.ClauseDiagram.{IsDiagramOf, part_of}
use Rattle.clause_terms.proofs.AddedLiteral.{added, reverse_more}
use Rattle.node_table.specs.Refused.{steps_handed_on}
use Rattle.clause_terms.proofs.Handed.{steps_kept}
use Rattle.node_table.specs.HandedOn.{no_error, came_from, no_answer, other_cause}
use Rattle.node_table.specs.Refused.{memory_not_nodes}
use Rattle.clause_terms.proofs.step.add_literal.Goals as goal

pub part_of-part-requires-clause-tied : goal.part_of-part-requires-clause-tied
part_of-part-requires-clause-tied g c = c.in_ok-node.ensures.steps.leaves.sound.tied

pub returns-clause-diagram : goal.returns-clause-diagram
returns-clause-diagram g c = λ more before diagram.
    let old = c.args.table.now in
    let table = c.literal_node.new.table in
    let node = c.in_ok-node.node in
    let placed = c.args.placed.now in
    let steps = c.in_ok-node.ensures.steps in
    let tied : IsTied table.graph table.book.state = steps.leaves.sound.tied in
    let path : reverse c.push_part.new.path.items ≡ part_of table.graph placed (branch_of table.graph node)
    ∷ reverse c.args.path.now.items =
    reverse_more c.args.path.now.items c.push_part.new.path.items c.part_of-part.result
    (part_of table.graph placed (branch_of table.graph node)) c.in_ok-push_part.ensures c.part_of-part.ensures in
    subst (λ (items : List UnitPart). IsDiagramOf table.graph table.book.state.live (placed ∷ more) node items) (sym path)
    (added c.unit_path_law.ensures.last c.unit_path_law.ensures.on_top c.unit_path_law.ensures.kept c.cofactor_law.ensures
    c.growth_law.ensures
    old.graph table.graph old.book.state.live table.book.state.live c.requires.sound.tied.reduced tied.reduced tied.ordered
    steps.extends.nodes steps.extends.clauses tied.defined placed more before c.args.below node
    (reverse c.args.path.now.items) c.requires.level c.requires.below.stands c.requires.not_true diagram c.in_ok-node.ensures.children)

pub returns-clause-steps : goal.returns-clause-steps
returns-clause-steps g c = c.in_ok-node.ensures.steps

pub returns-in_err-node-clause-steps : goal.returns-in_err-node-clause-steps
returns-in_err-node-clause-steps g c = steps_handed_on _ c.in_err-node.field-0.0 c.from_residual.ensures.1 c.in_err-node.ensures.steps

pub returns-in_err-push_part-clause-steps : goal.returns-in_err-push_part-clause-steps
returns-in_err-push_part-clause-steps g c = steps_handed_on _ OutOfMemory c.from_residual-in_err-push_part.ensures.1
    (steps_kept c.in_ok-node.ensures.steps)

pub returns-in_err-node-clause-lacks : goal.returns-in_err-node-clause-lacks
returns-in_err-node-clause-lacks g c more value full =
    c.in_err-node.ensures.lacks more value (ap Err (came_from _ c.in_err-node.field-0.0 NodeLimit c.from_residual.ensures.1 full))

pub returns-in_err-push_part-clause-lacks : goal.returns-in_err-push_part-clause-lacks
returns-in_err-push_part-clause-lacks g c more value is = absurd (memory_not_nodes _ c.from_residual-in_err-push_part.ensures.1 is)

pub returns-clause-lacks : goal.returns-clause-lacks
returns-clause-lacks g c more value is = absurd (no_error is)

pub returns-in_err-node-clause-diagram : goal.returns-in_err-node-clause-diagram
returns-in_err-node-clause-diagram g c more before diagram = no_answer _ c.in_err-node.field-0.0 _ c.from_residual.ensures.1

pub returns-in_err-push_part-clause-diagram : goal.returns-in_err-push_part-clause-diagram
returns-in_err-push_part-clause-diagram g c more before diagram = no_answer _ OutOfMemory _ c.from_residual-in_err-push_part.ensures.1

pub returns-clause-none_added : goal.returns-clause-none_added
returns-clause-none_added g c whole = c.in_ok-node.ensures.none_added no_error

pub returns-in_err-node-clause-none_added : goal.returns-in_err-node-clause-none_added
returns-in_err-node-clause-none_added g c whole = c.in_err-node.ensures.none_added
    (other_cause _ c.in_err-node.field-0.0 WriteFault c.from_residual.ensures.1 whole)

pub returns-in_err-push_part-clause-none_added : goal.returns-in_err-push_part-clause-none_added
returns-in_err-push_part-clause-none_added g c whole = c.in_ok-node.ensures.none_added no_error
