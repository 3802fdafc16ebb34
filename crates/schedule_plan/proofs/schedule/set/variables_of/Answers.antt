-- One more number.
use Rattle.std.proofs.Common.{ℕ, List, ◌++◌, [], ◌∷◌, sym, ap, ◌∙◌}
use Rattle.std.specs.Prelude.{slice_index_or}
use Rattle.std.proofs.lemmas.List.{take_more}
use Rattle.schedule_plan.proofs.schedule.set.variables_of.Goals as goal

pub numbers-preserved : goal.numbers-preserved
numbers-preserved c =
    c.in_ok-push.ensures.items
    ∙ ap (λ (l : List ℕ). l ++ slice_index_or c.args.numbers.now c.numbers.number-index 0 ∷ []) c.numbers.invariant
    ∙ sym (take_more c.args.numbers.now c.numbers.number-index 0 c.numbers-test.true)
