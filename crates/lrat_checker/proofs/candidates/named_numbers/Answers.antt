-- What is left to show of `named_numbers`.
use Rattle.std.proofs.Common.{◌+◌, ◌≤◌, ◌<◌, ◌∙◌, ap, arith, ℕ}
use Rattle.lrat_checker.specs.Counts.{total}
use Rattle.lrat_checker.specs.Walk.{has_group, one_where}
use Rattle.lrat_checker.proofs.Counted.{named_next}
use Rattle.lrat_checker.proofs.candidates.named_numbers.Goals as goal
use Rattle.lrat_checker.proofs.candidates.named_numbers.Goals.{then-last-number, else-last-number}

pub loop-group-preserved : goal.loop-group-preserved
loop-group-preserved c =
    let groups = c.args.groups.now in
    let so_far = c.loop-group.invariant in
    let sum = λ (last : ℕ). total (one_where (has_group groups)) (last + 1) in
    elim c.if-last-number.branch [
      | then-last-number w ↦
          let next : c.loop-group.last < c.group-item.result.id = omega (arith, w.if-last-number.true, c.get-number.ensures) in
          let named : c.loop-group.named + 1 ≤ sum c.group-item.result.id =
          named_next groups c.loop-group.last c.loop-group.named c.loop-group.group-index c.group-item.result
          c.loop-group-test.true c.group-item.is next so_far.named in
          record {
            few = omega (arith, w.named-is, so_far.few);
            named = omega (arith, w.named-is, named, ap sum (w.last-is ∙ c.get-number.ensures));
          }
      | else-last-number w ↦ record {
        few = omega (arith, w.named-is, so_far.few);
        named = omega (arith, w.named-is, so_far.named, ap sum w.last-is);
      }
    ]
