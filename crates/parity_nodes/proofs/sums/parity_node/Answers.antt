-- What is left to show of `parity_node`.
use Rattle.std.proofs.Common.{◌≡◌, ◌∙◌, ℕ, Err, List, [], drop, length, sym, ap, subst, arith, eqb-true}
use Rattle.std.specs.Prelude.{IfOk, slice_index_or}
use Rattle.std.proofs.lemmas.List.{nil_from_length}
use Rattle.node_table.specs.declared.error.TableError.TheVariants.{NodeLimit, WriteFault}
use Rattle.node_table.specs.Diagram.{levels}
use Rattle.node_table.specs.HandedOn.{no_error, came_from, no_answer, other_cause}
use Rattle.node_table.specs.Refused.{steps_handed_on}
use Rattle.node_table.specs.Value.{IsSubfunction}
use Rattle.parity_nodes.specs.Sums.{IsSum, sum_is}
use Rattle.parity_nodes.proofs.SumNodes.{chosen_high, chosen_low, sum_of_none}
use Rattle.parity_nodes.proofs.SumParts.{head_before, head_level, head_rest, some_of}
use Rattle.parity_nodes.proofs.sums.parity_node.Goals as goal

pub returns-then-is_empty-clause-sum : goal.returns-then-is_empty-clause-sum
returns-then-is_empty-clause-sum g c =
    let graph = c.args.table.now.graph in
    let set = c.args.set.now in
    let none : set ≡ [] = nil_from_length set (eqb-true (length set) 0 (sym c.is_empty.ensures ∙ c.if-is_empty.true)) in
    subst (λ (l : List ℕ). IsSum graph l c.args.bit c.constant.result) (sym none)
    (subst (IsSum graph [] c.args.bit) (sym c.constant.ensures) (sum_of_none graph c.args.bit))

pub returns-then-is_empty-clause-made : goal.returns-then-is_empty-clause-made
returns-then-is_empty-clause-made g c = c.subfunction_law.ensures.none_made c.args.table.now.graph (sum_is c.args.bit c.args.set.now)

pub returns-then-is_empty-clause-lacks : goal.returns-then-is_empty-clause-lacks
returns-then-is_empty-clause-lacks g c is = absurd (no_error is)

pub returns-then-is_empty-clause-steps : goal.returns-then-is_empty-clause-steps
returns-then-is_empty-clause-steps g c = c.steps_law.ensures.none c.args.table.now c.requires.sound

pub returns-then-is_empty-clause-none_added : goal.returns-then-is_empty-clause-none_added
returns-then-is_empty-clause-none_added g c whole id own = own

pub sums_behind-requires-clause-some : goal.sums_behind-requires-clause-some
sums_behind-requires-clause-some g c = some_of c.args.set.now (sym c.is_empty.ensures ∙ c.if-is_empty.false)

pub returns-in_err-sums-clause-sum : goal.returns-in_err-sums-clause-sum
returns-in_err-sums-clause-sum g c = no_answer _ c.in_err-sums.field-0.0 _ c.from_residual.ensures.1

pub returns-in_err-sums-clause-made : goal.returns-in_err-sums-clause-made
returns-in_err-sums-clause-made g c = c.in_err-sums.ensures.made c.args.bit

pub returns-in_err-sums-clause-lacks : goal.returns-in_err-sums-clause-lacks
returns-in_err-sums-clause-lacks g c full =
    c.in_err-sums.ensures.lacks c.args.bit (ap Err (came_from _ c.in_err-sums.field-0.0 NodeLimit c.from_residual.ensures.1 full))

pub returns-in_err-sums-clause-steps : goal.returns-in_err-sums-clause-steps
returns-in_err-sums-clause-steps g c = steps_handed_on _ c.in_err-sums.field-0.0 c.from_residual.ensures.1 c.in_err-sums.ensures.steps

pub returns-in_err-sums-clause-none_added : goal.returns-in_err-sums-clause-none_added
returns-in_err-sums-clause-none_added g c whole = c.in_err-sums.ensures.none_added
    (other_cause _ c.in_err-sums.field-0.0 WriteFault c.from_residual.ensures.1 whole)

pub sum_node-requires-clause-sound : goal.sum_node-requires-clause-sound
sum_node-requires-clause-sound g c = c.in_ok-sums.ensures.steps.leaves.sound

pub sum_node-requires-clause-level : goal.sum_node-requires-clause-level
sum_node-requires-clause-level g c =
    let old = c.args.table.now in
    let below = head_level (levels old.graph) c.args.set.now c.requires.rising
    (some_of c.args.set.now (sym c.is_empty.ensures ∙ c.if-is_empty.false)) in
    omega (arith, below, ap length c.in_ok-sums.ensures.steps.extends.nodes.order)

pub sum_node-requires-clause-high : goal.sum_node-requires-clause-high
sum_node-requires-clause-high g c =
    let old = c.args.table.now in
    let set = c.args.set.now in
    let mid = c.sums_behind.new.table in
    let some = some_of set (sym c.is_empty.ensures ∙ c.if-is_empty.false) in
    let below = head_level (levels old.graph) set c.requires.rising some in
    (chosen_high mid.graph (drop 1 set) c.in_ok-sums.sums c.in_ok-sums.ensures.sums c.args.bit c.children-high.result.0
    c.children-high.ensures.high).below (slice_index_or set 0 0)
    (omega (arith, below, ap length c.in_ok-sums.ensures.steps.extends.nodes.order))
    (head_before (levels old.graph) set c.requires.rising some)

pub sum_node-requires-clause-low : goal.sum_node-requires-clause-low
sum_node-requires-clause-low g c =
    let old = c.args.table.now in
    let set = c.args.set.now in
    let mid = c.sums_behind.new.table in
    let some = some_of set (sym c.is_empty.ensures ∙ c.if-is_empty.false) in
    let below = head_level (levels old.graph) set c.requires.rising some in
    (chosen_low mid.graph (drop 1 set) c.in_ok-sums.sums c.in_ok-sums.ensures.sums c.args.bit c.children-high.result.1
    c.children-high.ensures.low).below (slice_index_or set 0 0)
    (omega (arith, below, ap length c.in_ok-sums.ensures.steps.extends.nodes.order))
    (head_before (levels old.graph) set c.requires.rising some)

pub returns-clause-sum : goal.returns-clause-sum
returns-clause-sum g c =
    let set = c.args.set.now in
    let mid = c.sums_behind.new.table in
    let some = some_of set (sym c.is_empty.ensures ∙ c.if-is_empty.false) in
    subst (λ (l : List ℕ). IfOk c.sum_node.result (IsSum c.sum_node.new.table.graph l c.args.bit))
    (sym (head_rest (levels c.args.table.now.graph) set c.requires.rising some))
    (c.sum_node.ensures.sum (drop 1 set) c.args.bit
    (chosen_high mid.graph (drop 1 set) c.in_ok-sums.sums c.in_ok-sums.ensures.sums c.args.bit c.children-high.result.0
    c.children-high.ensures.high)
    (chosen_low mid.graph (drop 1 set) c.in_ok-sums.sums c.in_ok-sums.ensures.sums c.args.bit c.children-high.result.1
    c.children-high.ensures.low))

pub returns-clause-made : goal.returns-clause-made
returns-clause-made g c =
    let old = c.args.table.now in
    let mid = c.sums_behind.new.table in
    let new = c.sum_node.new.table in
    let set = c.args.set.now in
    let bit = c.args.bit in
    let parts = c.subfunction_law.ensures in
    let some = some_of set (sym c.is_empty.ensures ∙ c.if-is_empty.false) in
    parts.made_further old.graph mid.graph new.graph c.in_ok-sums.ensures.steps.leaves.sound.tied.reduced
    c.sum_node.ensures.steps.extends.nodes (sum_is bit set) (c.in_ok-sums.ensures.made bit)
    (c.sum_node.ensures.made (drop 1 set) bit (sum_is bit set)
    (chosen_high mid.graph (drop 1 set) c.in_ok-sums.sums c.in_ok-sums.ensures.sums bit c.children-high.result.0
    c.children-high.ensures.high)
    (chosen_low mid.graph (drop 1 set) c.in_ok-sums.sums c.in_ok-sums.ensures.sums bit c.children-high.result.1 c.children-high.ensures.low)
    (subst (λ (l : List ℕ). IsSubfunction (sum_is bit set) (sum_is bit l)) (head_rest (levels old.graph) set c.requires.rising some)
    (parts.same (sum_is bit set))))

pub returns-clause-lacks : goal.returns-clause-lacks
returns-clause-lacks g c full =
    let old = c.args.table.now in
    let mid = c.sums_behind.new.table in
    let set = c.args.set.now in
    let bit = c.args.bit in
    let some = some_of set (sym c.is_empty.ensures ∙ c.if-is_empty.false) in
    c.sum_node.ensures.lacks (drop 1 set) bit (sum_is bit set)
    (chosen_high mid.graph (drop 1 set) c.in_ok-sums.sums c.in_ok-sums.ensures.sums bit c.children-high.result.0
    c.children-high.ensures.high)
    (chosen_low mid.graph (drop 1 set) c.in_ok-sums.sums c.in_ok-sums.ensures.sums bit c.children-high.result.1 c.children-high.ensures.low)
    (subst (λ (l : List ℕ). IsSubfunction (sum_is bit set) (sum_is bit l)) (head_rest (levels old.graph) set c.requires.rising some)
    (c.subfunction_law.ensures.same (sum_is bit set))) full

pub returns-clause-steps : goal.returns-clause-steps
returns-clause-steps g c = c.steps_law.ensures.further _ _ _ 0 0 _ c.in_ok-sums.ensures.steps c.sum_node.ensures.steps

pub returns-clause-none_added : goal.returns-clause-none_added
returns-clause-none_added g c whole id own = c.in_ok-sums.ensures.none_added no_error id (c.sum_node.ensures.none_added whole id own)

pub returns-clause-retired : goal.returns-clause-retired
returns-clause-retired g c = c.sum_node.ensures.retired ∙ c.in_ok-sums.ensures.retired
