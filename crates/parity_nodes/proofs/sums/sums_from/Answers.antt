-- What is left to show of `sums_from`.
use Rattle.std.proofs.Common.{◌∙◌, ℕ, List, ◌∷◌, true, false, None, Err, ap, arith, length}
use Rattle.node_table.specs.declared.error.TableError.TheVariants.{NodeLimit, WriteFault}
use Rattle.node_table.specs.HandedOn.{no_error, came_from, no_answer, other_cause}
use Rattle.node_table.specs.Refused.{steps_handed_on}
use Rattle.parity_nodes.proofs.SumNodes.{below_kept, sum_kept}
use Rattle.parity_nodes.proofs.sums.sums_from.Goals as goal

pub sum_node-requires-2-clause-sound : goal.sum_node-requires-2-clause-sound
sum_node-requires-2-clause-sound g c = c.in_ok-odd.ensures.steps.leaves.sound

pub sum_node-requires-2-clause-level : goal.sum_node-requires-2-clause-level
sum_node-requires-2-clause-level g c =
    omega (arith, c.requires.level, ap (λ (l : List ℕ). length l) c.in_ok-odd.ensures.steps.extends.nodes.order)

pub sum_node-requires-2-clause-high : goal.sum_node-requires-2-clause-high
sum_node-requires-2-clause-high g c =
    below_kept c.growth_law.ensures c.args.table.now.graph c.sum_node.new.table.graph c.in_ok-odd.ensures.steps.extends.nodes c.args.level
    c.args.below.now.odd c.requires.odd

pub sum_node-requires-2-clause-low : goal.sum_node-requires-2-clause-low
sum_node-requires-2-clause-low g c =
    below_kept c.growth_law.ensures c.args.table.now.graph c.sum_node.new.table.graph c.in_ok-odd.ensures.steps.extends.nodes c.args.level
    c.args.below.now.even c.requires.even

pub returns-clause-sums : goal.returns-clause-sums
returns-clause-sums g c more before are =
    let old = c.args.table.now in
    let mid = c.sum_node.new.table in
    let new = c.sum_node-2.new.table in
    let below = c.args.below.now in
    let level = c.args.level in
    let reduced = c.requires.sound.tied.reduced in
    let first = c.in_ok-odd.ensures.steps in
    let second = c.in_ok-even.ensures.steps in
    let growth = c.growth_law.ensures in
    record {
      odd = sum_kept growth mid.graph new.graph first.leaves.sound.tied.reduced second.extends.nodes (level ∷ more) true c.in_ok-odd.odd
          (c.in_ok-odd.ensures.sum more true are.even are.odd);
      even = c.in_ok-even.ensures.sum more false
          (sum_kept growth old.graph mid.graph reduced first.extends.nodes more true below.odd are.odd)
          (sum_kept growth old.graph mid.graph reduced first.extends.nodes more false below.even are.even);
    }

pub returns-clause-made : goal.returns-clause-made
returns-clause-made g c more f are part =
    let old = c.args.table.now in
    let mid = c.sum_node.new.table in
    let new = c.sum_node-2.new.table in
    let below = c.args.below.now in
    let reduced = c.requires.sound.tied.reduced in
    let first = c.in_ok-odd.ensures.steps in
    let growth = c.growth_law.ensures in
    c.subfunction_law.ensures.made_further old.graph mid.graph new.graph first.leaves.sound.tied.reduced
    c.in_ok-even.ensures.steps.extends.nodes
    f (c.in_ok-odd.ensures.made more true f are.even are.odd (part true))
    (c.in_ok-even.ensures.made more false f
    (sum_kept growth old.graph mid.graph reduced first.extends.nodes more true below.odd are.odd)
    (sum_kept growth old.graph mid.graph reduced first.extends.nodes more false below.even are.even) (part false))

pub returns-clause-lacks : goal.returns-clause-lacks
returns-clause-lacks g c more f are part is = absurd (no_error is)

pub returns-clause-steps : goal.returns-clause-steps
returns-clause-steps g c = c.steps_law.ensures.further _ _ _ 0 0 None c.in_ok-odd.ensures.steps c.in_ok-even.ensures.steps

pub returns-clause-none_added : goal.returns-clause-none_added
returns-clause-none_added g c whole id own = c.in_ok-odd.ensures.none_added no_error id (c.in_ok-even.ensures.none_added no_error id own)

pub returns-clause-retired : goal.returns-clause-retired
returns-clause-retired g c = c.in_ok-even.ensures.retired ∙ c.in_ok-odd.ensures.retired

pub returns-in_err-odd-clause-sums : goal.returns-in_err-odd-clause-sums
returns-in_err-odd-clause-sums g c more before are = no_answer _ c.in_err-odd.field-0.0 _ c.from_residual.ensures.1

pub returns-in_err-odd-clause-made : goal.returns-in_err-odd-clause-made
returns-in_err-odd-clause-made g c more f are part = c.in_err-odd.ensures.made more true f are.even are.odd (part true)

pub returns-in_err-odd-clause-lacks : goal.returns-in_err-odd-clause-lacks
returns-in_err-odd-clause-lacks g c more f are part full =
    c.in_err-odd.ensures.lacks more true f are.even are.odd (part true)
    (ap Err (came_from _ c.in_err-odd.field-0.0 NodeLimit c.from_residual.ensures.1 full))

pub returns-in_err-odd-clause-steps : goal.returns-in_err-odd-clause-steps
returns-in_err-odd-clause-steps g c = steps_handed_on _ c.in_err-odd.field-0.0 c.from_residual.ensures.1 c.in_err-odd.ensures.steps

pub returns-in_err-odd-clause-none_added : goal.returns-in_err-odd-clause-none_added
returns-in_err-odd-clause-none_added g c whole id own =
    c.in_err-odd.ensures.none_added (other_cause _ c.in_err-odd.field-0.0 WriteFault c.from_residual.ensures.1 whole) id own

pub returns-in_err-odd-clause-retired : goal.returns-in_err-odd-clause-retired
returns-in_err-odd-clause-retired g c = c.in_err-odd.ensures.retired

pub returns-in_err-even-clause-sums : goal.returns-in_err-even-clause-sums
returns-in_err-even-clause-sums g c more before are = no_answer _ c.in_err-even.field-0.0 _ c.from_residual-in_err-even.ensures.1

pub returns-in_err-even-clause-made : goal.returns-in_err-even-clause-made
returns-in_err-even-clause-made g c more f are part =
    let old = c.args.table.now in
    let mid = c.sum_node.new.table in
    let new = c.sum_node-2.new.table in
    let below = c.args.below.now in
    let reduced = c.requires.sound.tied.reduced in
    let first = c.in_ok-odd.ensures.steps in
    let growth = c.growth_law.ensures in
    c.subfunction_law.ensures.made_further old.graph mid.graph new.graph first.leaves.sound.tied.reduced
    c.in_err-even.ensures.steps.extends.nodes
    f (c.in_ok-odd.ensures.made more true f are.even are.odd (part true))
    (c.in_err-even.ensures.made more false f
    (sum_kept growth old.graph mid.graph reduced first.extends.nodes more true below.odd are.odd)
    (sum_kept growth old.graph mid.graph reduced first.extends.nodes more false below.even are.even) (part false))

pub returns-in_err-even-clause-lacks : goal.returns-in_err-even-clause-lacks
returns-in_err-even-clause-lacks g c more f are part full =
    let old = c.args.table.now in
    let mid = c.sum_node.new.table in
    let below = c.args.below.now in
    let reduced = c.requires.sound.tied.reduced in
    let first = c.in_ok-odd.ensures.steps in
    let growth = c.growth_law.ensures in
    c.in_err-even.ensures.lacks more false f
    (sum_kept growth old.graph mid.graph reduced first.extends.nodes more true below.odd are.odd)
    (sum_kept growth old.graph mid.graph reduced first.extends.nodes more false below.even are.even) (part false)
    (ap Err (came_from _ c.in_err-even.field-0.0 NodeLimit c.from_residual-in_err-even.ensures.1 full))

pub returns-in_err-even-clause-steps : goal.returns-in_err-even-clause-steps
returns-in_err-even-clause-steps g c =
    steps_handed_on _ c.in_err-even.field-0.0 c.from_residual-in_err-even.ensures.1
    (c.steps_law.ensures.further _ _ _ 0 0 _ c.in_ok-odd.ensures.steps c.in_err-even.ensures.steps)

pub returns-in_err-even-clause-none_added : goal.returns-in_err-even-clause-none_added
returns-in_err-even-clause-none_added g c whole id own =
    c.in_ok-odd.ensures.none_added no_error id (c.in_err-even.ensures.none_added
    (other_cause _ c.in_err-even.field-0.0 WriteFault c.from_residual-in_err-even.ensures.1 whole) id own)

pub returns-in_err-even-clause-retired : goal.returns-in_err-even-clause-retired
returns-in_err-even-clause-retired g c = c.in_err-even.ensures.retired ∙ c.in_ok-odd.ensures.retired
