-- What the loop keeps, with one more.
use Rattle.std.proofs.Common.{◌≡◌, ◌<◌, ℤ, nat_abs, true, length, length-set, ap, ◌∙◌, arith}
use Rattle.std.specs.Prelude.{nat_lt}
use Rattle.std.proofs.lemmas.Bool.{ltb-true}
use Rattle.std.proofs.lemmas.List.{get_or_default}
use Rattle.std.proofs.lemmas.List.Sums.{AllPass-from_list_all}
use Rattle.schedule_plan.specs.ScheduleState.{no_use, with_push}
use Rattle.schedule_plan.proofs.Uses.{changed_more, pushed_twice}
use Rattle.schedule_plan.proofs.schedule.uses.push_clause.Goals as goal

pub literals-preserved : goal.literals-preserved
literals-preserved c =
    let x = c.var-variable.result in
    let size = length c.args.uses.now.items in
    let at : nat_lt (nat_abs c.literal-item.result) size ≡ true =
    ap (λ (l : ℤ). nat_lt (nat_abs l) size) c.literal-item.is
    ∙ AllPass-from_list_all (λ (l : ℤ). nat_lt (nat_abs l) size) c.args.clause.now c.requires.within c.literals.literal-index
    c.literal-item.result c.literals-test.true in
    let below : nat_abs c.literal-item.result < size = ltb-true (nat_abs c.literal-item.result) size at in
    let within : x < length c.literals.uses.items = omega (arith, below, c.var-variable.ensures.value, c.literals.invariant.count) in
    record {
      count = length-set c.literals.uses.items x c.with_push.result ∙ c.literals.invariant.count;
      uses = changed_more (with_push c.args.mark c.args.place) (pushed_twice c.args.mark c.args.place) c.args.clause.now c.literals.literal-index
          c.literal-item.result x c.with_push.result c.args.uses.now.items c.literals.uses.items c.literals-test.true c.literal-item.is
          c.var-variable.ensures.value within
          (c.with_push.ensures ∙ ap (with_push c.args.mark c.args.place) (c.index.ensures
          ∙ get_or_default c.literals.uses.items x c.index.result.now no_use within))
          c.literals.invariant.uses;
    }
