-- What is left to show of `ScheduleJudge::finish`.
use Rattle.std.proofs.Common.{◌≡◌, ◌≤◌, length, Ok, None, Some, true, false, refl, ap, sym, subst, ◌∙◌, arith}
use Rattle.std.specs.Prelude.{nat_lt, if◌then◌else◌}
use Rattle.std.proofs.lemmas.Bool.{lt-ltb}
use Rattle.std.proofs.lemmas.Bool.Decides.{nat_tests}
use Rattle.schedule_plan.specs.declared.schedule.error.PlanKind.TheVariants.{TermsLeft}
use Rattle.schedule_plan.specs.Plan.{IsAdmissible}
use Rattle.schedule_plan.specs.ScheduleText.{unless}
use Rattle.schedule_plan.proofs.Steps.{end_unused, end_fault, end_admissible}
use Rattle.schedule_plan.proofs.schedule.judge.ScheduleJudge.finish.Goals as goal

pub returns-then-self-len-clause-takes : goal.returns-then-self-len-clause-takes
returns-then-self-len-clause-takes c = (
  end_unused c.args.formula.now c.args.self c.requires.stage (Ok c.args.self.moves.items) c.requires.at
      (omega (arith, c.if-self-len.true, c.len.ensures)),
  refl,
)

pub returns-then-as_slice-gt1-clause-takes : goal.returns-then-as_slice-gt1-clause-takes
returns-then-as_slice-gt1-clause-takes c =
    let more : nat_lt 1 (length c.args.self.starts.items) ≡ true = lt-ltb 1 (length c.args.self.starts.items)
    (omega (arith, c.if-as_slice-gt1.true, ap length c.as_slice.ensures.value)) in (
      end_fault c.args.formula.now c.args.self c.requires.stage (Ok c.args.self.moves.items) c.requires.at
          (omega (arith, c.if-self-len.false, c.len.ensures))
          ∙ ap (λ b. unless (if b then Some TermsLeft else None) (Ok c.args.self.moves.items)) more,
      refl,
    )

pub returns-clause-takes : goal.returns-clause-takes
returns-clause-takes c =
    let few : length c.args.self.starts.items ≤ 1 = omega (arith, c.if-as_slice-gt1.false, ap length c.as_slice.ensures.value) in
    let none : nat_lt 1 (length c.args.self.starts.items) ≡ false = grind (arith, nat_tests, few) in
    end_fault c.args.formula.now c.args.self c.requires.stage (Ok c.args.self.moves.items) c.requires.at
    (omega (arith, c.if-self-len.false, c.len.ensures))
    ∙ ap (λ b. unless (if b then Some TermsLeft else None) (Ok c.args.self.moves.items)) none

pub returns-clause-admissible : goal.returns-clause-admissible
returns-clause-admissible c =
    subst (IsAdmissible c.args.formula.now) (sym c.of_moves.ensures)
    (end_admissible c.args.formula.now c.args.self c.requires.stage c.requires.at (omega (arith, c.if-self-len.false, c.len.ensures))
    (omega (arith, c.if-as_slice-gt1.false, ap length c.as_slice.ensures.value)))
