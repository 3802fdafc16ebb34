-- What is left to show of `count_clause`.
use Rattle.std.proofs.Common.{◌≡◌, ◌<◌, ◌≤◌, ℤ, nat_abs, true, take, length, length-set, ap, sym, subst, ◌∙◌, arith}
use Rattle.std.specs.Prelude.{nat_lt}
use Rattle.std.proofs.lemmas.Bool.{ltb-true}
use Rattle.std.proofs.lemmas.List.{get_or_default}
use Rattle.std.proofs.lemmas.List.Sums.{AllPass-from_list_all}
use Rattle.schedule_plan.specs.declared.schedule.uses.Use.{Use}
use Rattle.schedule_plan.specs.Plan.{clause_has}
use Rattle.schedule_plan.specs.ScheduleState.{use_at, no_use, counted}
use Rattle.schedule_plan.proofs.Uses.{counted_small, changed_more, counted_twice}
use Rattle.schedule_plan.proofs.schedule.uses.count_clause.Goals as goal

pub counted-requires : goal.counted-requires
counted-requires c =
    let x = c.var-variable.result in
    let size = length c.args.uses.now.items in
    let at : nat_lt (nat_abs c.literal-item.result) size ≡ true =
    ap (λ (l : ℤ). nat_lt (nat_abs l) size) c.literal-item.is
    ∙ AllPass-from_list_all (λ (l : ℤ). nat_lt (nat_abs l) size) c.args.clause.now c.requires.within c.literals.literal-index
    c.literal-item.result c.literals-test.true in
    let within : x < length c.literals.uses.items = omega (
      arith,
      ltb-true (nat_abs c.literal-item.result) size at,
      c.var-variable.ensures.value,
      c.literals.invariant.count,
    ) in
    subst (λ (u : Use). u.to_come ≤ 10000001)
    (sym (c.index.ensures ∙ get_or_default c.literals.uses.items x c.index.result.now no_use within ∙ c.literals.invariant.uses x))
    (counted_small c.args.mark (clause_has x (take c.literals.literal-index c.args.clause.now)) (use_at c.args.uses.now.items x)
    (c.requires.few x))

pub literals-preserved : goal.literals-preserved
literals-preserved c =
    let x = c.var-variable.result in
    let size = length c.args.uses.now.items in
    let at : nat_lt (nat_abs c.literal-item.result) size ≡ true =
    ap (λ (l : ℤ). nat_lt (nat_abs l) size) c.literal-item.is
    ∙ AllPass-from_list_all (λ (l : ℤ). nat_lt (nat_abs l) size) c.args.clause.now c.requires.within c.literals.literal-index
    c.literal-item.result c.literals-test.true in
    let below : nat_abs c.literal-item.result < size = ltb-true (nat_abs c.literal-item.result) size at in
    let within : x < length c.literals.uses.items = omega (arith, below, c.var-variable.ensures.value, c.literals.invariant.count) in
    record {
      count = length-set c.literals.uses.items x c.counted.result ∙ c.literals.invariant.count;
      uses = changed_more (counted c.args.mark) (counted_twice c.args.mark) c.args.clause.now c.literals.literal-index
          c.literal-item.result x c.counted.result c.args.uses.now.items c.literals.uses.items c.literals-test.true c.literal-item.is
          c.var-variable.ensures.value within
          (c.counted.ensures ∙ ap (counted c.args.mark) (c.index.ensures
          ∙ get_or_default c.literals.uses.items x c.index.result.now no_use within))
          c.literals.invariant.uses;
    }
