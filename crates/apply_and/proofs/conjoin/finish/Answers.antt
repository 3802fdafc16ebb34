-- What is left to show of `finish`.
use Rattle.std.proofs.Common.{◌∙◌, Err, refl, ap, sym, subst, inl, inr, arith}
use Rattle.node_table.specs.declared.error.TableError.TheVariants.{NodeLimit, WriteFault}
use Rattle.node_table.specs.declared.node.Justification.TheVariants.{Trivial}
use Rattle.node_table.specs.Diagram.{Graph}
use Rattle.node_table.specs.HandedOn.{came_from, handed_on, no_error, same_answer, same_error}
use Rattle.node_table.specs.Justification.{IsJustified}
use Rattle.node_table.specs.Made.{LacksPart, MakesOnly, ReachesNew}
use Rattle.node_table.specs.Progress.{Steps, error_of}
use Rattle.node_table.specs.Refused.{same_nodes}
use Rattle.operations.specs.Results.{Conjoined, conjunction_atoms}
use Rattle.apply_and.specs.Conjunction.{conjunction_of}
use Rattle.apply_and.proofs.Calls.{Answer}
use Rattle.apply_and.proofs.Conjunctions.{conjoined_ready, high_below, low_below, ready_kept, sides_from, trivial_operand}
use Rattle.apply_and.proofs.Made.{lacks_one, made_node, reached_node}
use Rattle.apply_and.proofs.Named.{failed_just, not_both}
use Rattle.node_table.specs.declared.node.Justification.{Justification}
use Rattle.operations.specs.Accounts.{GivesOne}
use Rattle.apply_and.proofs.conjoin.finish.Goals as goal

pub returns-in_err-w-clause-made : goal.returns-in_err-w-clause-made
returns-in_err-w-clause-made g c =
    let o = c.args.operands.now in
    let old = c.args.table.now in
    let mid = c.node-made.new.self in
    let extends = c.node-made.ensures.steps.extends in
    let ready = ready_kept c.operand_law.ensures c.entry_law.ensures old mid c.requires.sound extends o c.requires.split c.args.high.now
    c.args.low.now c.requires.high c.requires.low in
    made_node c.subfunction_law.ensures c.growth_law.ensures c.cofactor_law.ensures c.operand_law.ensures old.graph mid.graph
    c.requires.sound.tied.reduced c.table_law.ensures.reduced extends.nodes
    mid.book.state.live o c.requires.split c.args.high.now c.args.low.now ready c.node-made.ensures.only

pub returns-in_err-w-clause-lacks : goal.returns-in_err-w-clause-lacks
returns-in_err-w-clause-lacks g c is =
    let o = c.args.operands.now in
    let old = c.args.table.now in
    let mid = c.node-made.new.self in
    let refused = c.in_err-w.was ∙ ap Err (came_from _ c.in_err-w.field-0.0 NodeLimit c.from_residual.ensures.1 is) in
    subst (λ (graph : Graph). LacksPart graph (conjunction_of old.graph o.u o.v))
    (sym (same_nodes old mid c.node-made.result c.node-made.ensures.refused refused))
    (lacks_one c.cofactor_law.ensures c.subfunction_law.ensures c.missing_law.ensures c.operand_law.ensures old.graph
    c.requires.sound.tied.reduced old.book.state.live o c.args.high.now c.args.low.now
    (record { split = c.requires.split; on_high = c.requires.high; on_low = c.requires.low }) (c.node-made.ensures.node_limit.0 refused).0)

pub returns-then-is_operand-clause-conjoined : goal.returns-then-is_operand-clause-conjoined
returns-then-is_operand-clause-conjoined g c =
    let o = c.args.operands.now in
    let old = c.args.table.now in
    let mid = c.node-made.new.self in
    let extends = c.node-made.ensures.steps.extends in
    let ready = ready_kept c.operand_law.ensures c.entry_law.ensures old mid c.requires.sound extends o c.requires.split c.args.high.now
    c.args.low.now c.requires.high c.requires.low in
    conjoined_ready c.cofactor_law.ensures c.operand_law.ensures mid.graph c.table_law.ensures.reduced mid.book.state.live o c.args.high.now
    c.args.low.now ready c.in_ok-w.w c.in_ok-w.ensures.children mid.book.state.live Trivial
    (trivial_operand mid.graph o.u o.v c.in_ok-w.w
    (c.literal_law.ensures.differ mid.graph c.table_law.ensures.reduced o.u o.v ready.split.first ready.split.second ready.split.differ)
    (c.is_operand.ensures.0 c.if-is_operand.true))

pub justify-requires-clause-sides : goal.justify-requires-clause-sides
justify-requires-clause-sides g c =
    let o = c.args.operands.now in
    let old = c.args.table.now in
    let mid = c.node-made.new.self in
    let extends = c.node-made.ensures.steps.extends in
    let ready = ready_kept c.operand_law.ensures c.entry_law.ensures old mid c.requires.sound extends o c.requires.split c.args.high.now
    c.args.low.now c.requires.high c.requires.low in
    sides_from c.cofactor_law.ensures c.operand_law.ensures mid.graph c.table_law.ensures.reduced mid.book.state.live o c.args.high.now
    c.args.low.now ready c.in_ok-w.w c.in_ok-w.ensures.children
    (λ is. not_both c.is_operand.result (c.is_operand.ensures.1 is) c.if-is_operand.false)

pub returns-in_err-just-clause-steps : goal.returns-in_err-just-clause-steps
returns-in_err-just-clause-steps g c =
    let old = c.args.table.now in
    let new = c.justify.new.table in
    let came = c.in_err-just.field-0.0 in
    subst (λ (r : Answer). Steps old new 2 (error_of r))
    (sym (handed_on _ came came c.from_residual-in_err-just.ensures.1 refl))
    (c.steps_law.ensures.further _ _ _ _ _ _ c.in_ok-w.ensures.steps c.in_err-just.ensures.steps)

pub returns-in_err-just-clause-made : goal.returns-in_err-just-clause-made
returns-in_err-just-clause-made g c =
    let o = c.args.operands.now in
    let old = c.args.table.now in
    let mid = c.node-made.new.self in
    let extends = c.node-made.ensures.steps.extends in
    let ready = ready_kept c.operand_law.ensures c.entry_law.ensures old mid c.requires.sound extends o c.requires.split c.args.high.now
    c.args.low.now c.requires.high c.requires.low in
    subst (λ (graph : Graph). MakesOnly old.graph graph (conjunction_of old.graph o.u o.v)) (sym c.justify.ensures.nodes)
    (made_node c.subfunction_law.ensures c.growth_law.ensures c.cofactor_law.ensures c.operand_law.ensures old.graph mid.graph
    c.requires.sound.tied.reduced c.table_law.ensures.reduced extends.nodes
    mid.book.state.live o c.requires.split c.args.high.now c.args.low.now ready c.node-made.ensures.only)

pub returns-clause-conjoined : goal.returns-clause-conjoined
returns-clause-conjoined g c =
    let o = c.args.operands.now in
    let old = c.args.table.now in
    let mid = c.node-made.new.self in
    let extends = c.node-made.ensures.steps.extends in
    let ready = ready_kept c.operand_law.ensures c.entry_law.ensures old mid c.requires.sound extends o c.requires.split c.args.high.now
    c.args.low.now c.requires.high c.requires.low in
    let new = c.justify.new.table in
    let justified : IsJustified new.book.state.live (conjunction_atoms mid.graph o.u o.v c.in_ok-w.w) c.in_ok-just.just =
    subst (λ (graph : Graph). IsJustified new.book.state.live (conjunction_atoms graph o.u o.v c.in_ok-w.w) c.in_ok-just.just)
    c.in_ok-just.ensures.nodes c.in_ok-just.ensures.justified in
    subst (λ (graph : Graph). Conjoined graph new.book.state.live o.u o.v c.in_ok-w.w c.in_ok-just.just) (sym c.in_ok-just.ensures.nodes)
    (conjoined_ready c.cofactor_law.ensures c.operand_law.ensures mid.graph c.table_law.ensures.reduced mid.book.state.live o
    c.args.high.now c.args.low.now ready c.in_ok-w.w c.in_ok-w.ensures.children
    new.book.state.live c.in_ok-just.just justified)

pub returns-clause-steps : goal.returns-clause-steps
returns-clause-steps g c = c.steps_law.ensures.further _ _ _ _ _ _ c.in_ok-w.ensures.steps c.in_ok-just.ensures.steps

pub returns-clause-made : goal.returns-clause-made
returns-clause-made g c =
    let o = c.args.operands.now in
    let old = c.args.table.now in
    let mid = c.node-made.new.self in
    let extends = c.node-made.ensures.steps.extends in
    let ready = ready_kept c.operand_law.ensures c.entry_law.ensures old mid c.requires.sound extends o c.requires.split c.args.high.now
    c.args.low.now c.requires.high c.requires.low in
    subst (λ (graph : Graph). MakesOnly old.graph graph (conjunction_of old.graph o.u o.v)) (sym c.justify.ensures.nodes)
    (made_node c.subfunction_law.ensures c.growth_law.ensures c.cofactor_law.ensures c.operand_law.ensures old.graph mid.graph
    c.requires.sound.tied.reduced c.table_law.ensures.reduced extends.nodes
    mid.book.state.live o c.requires.split c.args.high.now c.args.low.now ready c.node-made.ensures.only)

pub returns-clause-reachable : goal.returns-clause-reachable
returns-clause-reachable g c =
    let old = c.args.table.now in
    let mid = c.node-made.new.self in
    subst (λ (graph : Graph). ReachesNew old.graph graph c.in_ok-w.w) (sym c.in_ok-just.ensures.nodes)
    (reached_node c.reach_law.ensures old.graph mid.graph c.in_ok-w.w
    (λ key branch is. elim (c.in_ok-w.ensures.given no_error key branch is) [ inl before ↦ inl before | inr ok ↦ inr (same_answer ok) ]))

pub node-made-requires-clause-high : goal.node-made-requires-clause-high
node-made-requires-clause-high g c =
    high_below c.operand_law.ensures c.args.table.now.graph c.requires.sound.tied.reduced c.args.table.now.book.state.live
    c.args.operands.now c.args.high.now c.args.low.now
    (record { split = c.requires.split; on_high = c.requires.high; on_low = c.requires.low })

pub node-made-requires-clause-low : goal.node-made-requires-clause-low
node-made-requires-clause-low g c =
    low_below c.operand_law.ensures c.args.table.now.graph c.requires.sound.tied.reduced c.args.table.now.book.state.live
    c.args.operands.now c.args.high.now c.args.low.now
    (record { split = c.requires.split; on_high = c.requires.high; on_low = c.requires.low })

pub returns-clause-named : goal.returns-clause-named
returns-clause-named g c id is =
    let own = c.in_ok-just.ensures.named id is in
    let before = c.in_ok-w.ensures.steps.leaves.no_less in
    (omega (arith, own.0, before), own.1)

pub returns-in_err-w-clause-gives : goal.returns-in_err-w-clause-gives
returns-in_err-w-clause-gives g c whole =
    let old = c.args.table.now in
    let mid = c.node-made.new.self in
    let came = c.in_err-w.field-0.0 in
    let none = c.node-made.ensures.none_added (λ torn. whole (handed_on _ came WriteFault c.from_residual.ensures.1
    (same_error (sym c.in_err-w.was ∙ torn)))) in
    subst (λ (just : Justification). GivesOne old mid just) (sym (failed_just _ came c.from_residual.ensures.1))
    (c.accounts_law.ensures.gives_none old mid c.requires.sound none)

pub returns-then-is_operand-clause-gives : goal.returns-then-is_operand-clause-gives
returns-then-is_operand-clause-gives g c whole = c.accounts_law.ensures.gives_none c.args.table.now c.node-made.new.self c.requires.sound
    (c.in_ok-w.ensures.none_added no_error)

pub returns-in_err-just-clause-retires : goal.returns-in_err-just-clause-retires
returns-in_err-just-clause-retires g c =
    c.accounts_law.ensures.retires_further c.args.table.now c.node-made.new.self c.justify.new.table c.node-made.ensures.retired
    c.in_ok-w.ensures.steps.leaves.no_less c.in_err-just.ensures.retires

pub returns-in_err-just-clause-gives : goal.returns-in_err-just-clause-gives
returns-in_err-just-clause-gives g c whole =
    let old = c.args.table.now in
    let mid = c.node-made.new.self in
    let new = c.justify.new.table in
    let came = c.in_err-just.field-0.0 in
    let gives = c.in_err-just.ensures.gives (λ torn. whole (handed_on _ came WriteFault c.from_residual-in_err-just.ensures.1
    (same_error torn))) in
    subst (λ (just : Justification). GivesOne old new just) (sym (failed_just _ came c.from_residual-in_err-just.ensures.1))
    (c.accounts_law.ensures.gives_further old mid new Trivial c.requires.sound
    (c.in_ok-w.ensures.none_added no_error) c.in_ok-w.ensures.steps.extends c.in_err-just.ensures.steps.extends gives)

pub returns-clause-retires : goal.returns-clause-retires
returns-clause-retires g c =
    c.accounts_law.ensures.retires_further c.args.table.now c.node-made.new.self c.justify.new.table c.node-made.ensures.retired
    c.in_ok-w.ensures.steps.leaves.no_less c.in_ok-just.ensures.retires

pub returns-clause-gives : goal.returns-clause-gives
returns-clause-gives g c whole =
    let mid = c.node-made.new.self in
    let new = c.justify.new.table in
    c.accounts_law.ensures.gives_further c.args.table.now mid new c.in_ok-just.just c.requires.sound
    (c.in_ok-w.ensures.none_added no_error) c.in_ok-w.ensures.steps.extends c.in_ok-just.ensures.steps.extends
    (c.in_ok-just.ensures.gives no_error)
