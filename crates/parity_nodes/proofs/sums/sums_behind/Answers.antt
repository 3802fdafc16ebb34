-- What is left to show of `sums_behind`.
use Rattle.std.proofs.Common.{◌≡◌, ◌∙◌, ◌-◌, ◌<◌, ℕ, List, None, Err, ap, drop, length, refl, sym, subst, arith}
use Rattle.std.specs.Prelude.{slice_index_or}
use Rattle.std.proofs.lemmas.List.{drop_all}
use Rattle.node_table.specs.declared.error.TableError.TheVariants.{NodeLimit, WriteFault}
use Rattle.node_table.specs.declared.node.Node.TheVariants.{False, True}
use Rattle.node_table.specs.Diagram.{levels}
use Rattle.node_table.specs.HandedOn.{no_error, came_from, no_answer, other_cause}
use Rattle.node_table.specs.Refused.{steps_handed_on}
use Rattle.parity_nodes.specs.Sums.{AreSums, sum_is}
use Rattle.parity_nodes.proofs.SumNodes.{sums_of_none}
use Rattle.parity_nodes.proofs.SumParts.{next_before, next_level, next_part, next_rest}
use Rattle.parity_nodes.proofs.sums.sums_behind.Goals as goal

pub sums_from-requires-clause-sound : goal.sums_from-requires-clause-sound
sums_from-requires-clause-sound g c = c.levels.invariant.steps.leaves.sound

pub sums_from-requires-clause-level : goal.sums_from-requires-clause-level
sums_from-requires-clause-level g c =
    let old = c.args.table.now in
    let below = next_level (levels old.graph) c.args.set.now c.levels.i c.requires.rising
    (omega (arith, c.levels-test.true)) c.levels.invariant.within in
    omega (arith, below, ap length c.levels.invariant.steps.extends.nodes.order)

pub sums_from-requires-clause-odd : goal.sums_from-requires-clause-odd
sums_from-requires-clause-odd g c =
    let old = c.args.table.now in
    let set = c.args.set.now in
    let below = next_level (levels old.graph) set c.levels.i c.requires.rising (omega (arith, c.levels-test.true))
    c.levels.invariant.within in
    c.levels.invariant.sums.odd.below (slice_index_or set (c.levels.i - 1) 0)
    (omega (arith, below, ap length c.levels.invariant.steps.extends.nodes.order))
    (next_before (levels old.graph) set c.levels.i c.requires.rising (omega (arith, c.levels-test.true)) c.levels.invariant.within)

pub sums_from-requires-clause-even : goal.sums_from-requires-clause-even
sums_from-requires-clause-even g c =
    let old = c.args.table.now in
    let set = c.args.set.now in
    let below = next_level (levels old.graph) set c.levels.i c.requires.rising (omega (arith, c.levels-test.true))
    c.levels.invariant.within in
    c.levels.invariant.sums.even.below (slice_index_or set (c.levels.i - 1) 0)
    (omega (arith, below, ap length c.levels.invariant.steps.extends.nodes.order))
    (next_before (levels old.graph) set c.levels.i c.requires.rising (omega (arith, c.levels-test.true)) c.levels.invariant.within)

pub levels-init : goal.levels-init
levels-init g c =
    let table = c.args.table.now in
    let set = c.args.set.now in
    record {
      some = omega (arith, c.requires.some);
      within = omega arith;
      sums = subst (λ (l : List ℕ). AreSums table.graph l (record { odd = False; even = True }))
          (sym (drop_all (length set) set (omega arith)))
          (sums_of_none table.graph);
      made = λ bit. c.subfunction_law.ensures.none_made table.graph (sum_is bit set);
      steps = c.steps_law.ensures.none table c.requires.sound;
      none_added = λ id own. own;
      retired = refl;
    }

pub levels-preserved : goal.levels-preserved
levels-preserved g c =
    let old = c.args.table.now in
    let mid = c.levels.table in
    let new = c.sums_from.new.table in
    let set = c.args.set.now in
    let i = c.levels.i in
    let some : 1 < i = omega (arith, c.levels-test.true) in
    let kept = c.levels.invariant in
    let parts = c.subfunction_law.ensures in
    record {
      some = omega (arith, some);
      within = omega (arith, kept.within);
      sums = subst (λ (l : List ℕ). AreSums new.graph l c.in_ok-sums.sums)
          (sym (next_rest (levels old.graph) set i c.requires.rising some kept.within))
          (c.in_ok-sums.ensures.sums (drop i set) (next_before (levels old.graph) set i c.requires.rising some kept.within) kept.sums);
      made = λ bit. parts.made_further old.graph mid.graph new.graph kept.steps.leaves.sound.tied.reduced
          c.in_ok-sums.ensures.steps.extends.nodes (sum_is bit set) (kept.made bit)
          (c.in_ok-sums.ensures.made (drop i set) (sum_is bit set) kept.sums
          (next_part (levels old.graph) set i c.requires.rising some kept.within parts bit));
      steps = c.steps_law.ensures.further old mid new 0 0 None kept.steps c.in_ok-sums.ensures.steps;
      none_added = λ id own. kept.none_added id (c.in_ok-sums.ensures.none_added no_error id own);
      retired = c.in_ok-sums.ensures.retired ∙ kept.retired;
    }

pub returns-clause-sums : goal.returns-clause-sums
returns-clause-sums g c =
    let one : c.levels.i ≡ 1 = omega (arith, c.levels.invariant.some, c.levels-test.false) in
    subst (λ n. AreSums c.levels.table.graph (drop n c.args.set.now) c.levels.sums) one c.levels.invariant.sums

pub returns-clause-steps : goal.returns-clause-steps
returns-clause-steps g c = c.levels.invariant.steps

pub returns-clause-lacks : goal.returns-clause-lacks
returns-clause-lacks g c bit is = absurd (no_error is)

pub returns-clause-none_added : goal.returns-clause-none_added
returns-clause-none_added g c whole = c.levels.invariant.none_added

pub returns-in_err-sums-clause-sums : goal.returns-in_err-sums-clause-sums
returns-in_err-sums-clause-sums g c = no_answer _ c.in_err-sums.field-0.0 _ c.from_residual.ensures.1

pub returns-in_err-sums-clause-made : goal.returns-in_err-sums-clause-made
returns-in_err-sums-clause-made g c bit =
    let old = c.args.table.now in
    let mid = c.levels.table in
    let new = c.sums_from.new.table in
    let set = c.args.set.now in
    let i = c.levels.i in
    let kept = c.levels.invariant in
    let parts = c.subfunction_law.ensures in
    parts.made_further old.graph mid.graph new.graph kept.steps.leaves.sound.tied.reduced c.in_err-sums.ensures.steps.extends.nodes
    (sum_is bit set) (kept.made bit)
    (c.in_err-sums.ensures.made (drop i set) (sum_is bit set) kept.sums
    (next_part (levels old.graph) set i c.requires.rising (omega (arith, c.levels-test.true)) kept.within parts bit))

pub returns-in_err-sums-clause-lacks : goal.returns-in_err-sums-clause-lacks
returns-in_err-sums-clause-lacks g c bit full =
    let old = c.args.table.now in
    let set = c.args.set.now in
    let i = c.levels.i in
    let kept = c.levels.invariant in
    c.in_err-sums.ensures.lacks (drop i set) (sum_is bit set) kept.sums
    (next_part (levels old.graph) set i c.requires.rising (omega (arith, c.levels-test.true)) kept.within c.subfunction_law.ensures bit)
    (ap Err (came_from _ c.in_err-sums.field-0.0 NodeLimit c.from_residual.ensures.1 full))

pub returns-in_err-sums-clause-steps : goal.returns-in_err-sums-clause-steps
returns-in_err-sums-clause-steps g c =
    steps_handed_on _ c.in_err-sums.field-0.0 c.from_residual.ensures.1
    (c.steps_law.ensures.further _ _ _ 0 0 _ c.levels.invariant.steps c.in_err-sums.ensures.steps)

pub returns-in_err-sums-clause-none_added : goal.returns-in_err-sums-clause-none_added
returns-in_err-sums-clause-none_added g c whole id own =
    c.levels.invariant.none_added id (c.in_err-sums.ensures.none_added
    (other_cause _ c.in_err-sums.field-0.0 WriteFault c.from_residual.ensures.1 whole) id own)

pub returns-in_err-sums-clause-retired : goal.returns-in_err-sums-clause-retired
returns-in_err-sums-clause-retired g c = c.in_err-sums.ensures.retired ∙ c.levels.invariant.retired
