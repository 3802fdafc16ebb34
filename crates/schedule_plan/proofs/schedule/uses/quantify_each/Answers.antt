-- What the loop keeps, with one more variable.
use Rattle.std.proofs.Common.{◌<◌, ℕ, length, length-set, refl, ap, ◌∙◌, arith}
use Rattle.std.specs.Prelude.{nat_lt, slice_index_or}
use Rattle.std.proofs.lemmas.Bool.{ltb-true}
use Rattle.std.proofs.lemmas.List.{get_or_default}
use Rattle.std.proofs.lemmas.List.Sums.{AllPass-from_list_all}
use Rattle.schedule_plan.specs.ScheduleState.{no_use, when_quantified}
use Rattle.schedule_plan.proofs.Uses.{quantified_more}
use Rattle.schedule_plan.proofs.schedule.uses.quantify_each.Goals as goal

pub numbers-preserved : goal.numbers-preserved
numbers-preserved c =
    let numbers = c.args.numbers.now in
    let k = c.numbers.number-index in
    let x : ℕ = slice_index_or numbers k 0 in
    let size = length c.args.uses.now.items in
    let below : x < size = ltb-true x size
    (AllPass-from_list_all (λ (n : ℕ). nat_lt n size) numbers c.requires.within k 0 c.numbers-test.true) in
    let within : x < length c.numbers.uses.items = omega (arith, below, c.numbers.invariant.count) in
    record {
      count = length-set c.numbers.uses.items x c.quantified.result ∙ c.numbers.invariant.count;
      uses = quantified_more numbers k 0 x c.quantified.result c.args.uses.now.items c.numbers.uses.items c.numbers-test.true refl within
          (c.quantified.ensures ∙ ap when_quantified (c.index.ensures
          ∙ get_or_default c.numbers.uses.items x c.index.result.now no_use within))
          c.numbers.invariant.uses;
    }
