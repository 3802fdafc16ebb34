-- One more variable.
use Rattle.std.proofs.Common.{◌≡◌, ◌≤◌, ℕ, false, ◌||◌, [], ◌∷◌, take, ap, ◌∙◌, arith}
use Rattle.std.specs.Prelude.{nat_lt, slice_index_or}
use Rattle.std.specs.List.{list_any}
use Rattle.std.proofs.lemmas.Bool.Decides.{nat_tests}
use Rattle.std.proofs.lemmas.List.{take_more}
use Rattle.std.proofs.lemmas.List.Folds.{list_any-append}
use Rattle.schedule_plan.specs.declared.schedule.uses.Use.{Use}
use Rattle.schedule_plan.specs.ScheduleState.{is_used, use_at}
use Rattle.schedule_plan.proofs.schedule.uses.is_any_used.Goals as goal

not_used : (start : ℕ) (one : Use) → start ≤ one.earliest → one.to_come ≤ 0 → (nat_lt one.earliest start || nat_lt 0 one.to_come) ≡ false
not_used start one late none = grind (arith, nat_tests, late, none)

pub numbers-preserved : goal.numbers-preserved
numbers-preserved c =
    let used = is_used c.args.uses.now c.args.start in
    let numbers = c.args.numbers.now in
    let k = c.numbers.number-index in
    let x : ℕ = slice_index_or numbers k 0 in
    ap (list_any used) (take_more numbers k 0 c.numbers-test.true) ∙ list_any-append used (take k numbers) (x ∷ [])
    ∙ ap (λ b. b || (used x || false)) c.numbers.invariant
    ∙ ap (λ b. b || false) (not_used c.args.start (use_at c.args.uses.now x) c.if-one-start.false c.if-one-gt0.false)
