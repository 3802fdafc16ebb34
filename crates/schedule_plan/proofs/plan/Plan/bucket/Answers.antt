-- What is left to show of `Plan::bucket`.
use Rattle.std.proofs.Common.{◌<◌, length, arith, sym, ap, subst}
use Rattle.std.specs.Prelude.{slice_index}
use Rattle.schedule_plan.specs.Plan.{IsAdmissible}
use Rattle.schedule_plan.specs.Forest.{item_count}
use Rattle.schedule_plan.proofs.ItemFacts.{item_bucket}
use Rattle.schedule_plan.proofs.BucketAdmissible.{bucket_is_admissible}
use Rattle.schedule_plan.proofs.plan.Plan.bucket.Goals as goal

pub linked-requires-clause-within : goal.linked-requires-clause-within
linked-requires-clause-within c item within =
    let right = c.in_ok-buckets.ensures in
    let small : item < item_count c.args.formula.now c.args.order.now = omega
    (arith, within, ap length c.as_slice-2.ensures.value, right.count) in
    omega (
      arith,
      ap (λ list. slice_index list item) c.as_slice-2.ensures.value,
      right.right item small,
      item_bucket c.args.formula.now c.args.order.now item,
      ap length c.as_slice-3.ensures.value,
    )

pub returns-clause-admissible : goal.returns-clause-admissible
returns-clause-admissible c =
    subst (IsAdmissible c.args.formula.now) (sym c.in_ok-moves.ensures)
    (bucket_is_admissible c.args.formula.now c.args.order.now c.as_slice-3.ensures.order c.requires.order c.formula_law.ensures.literals)
