-- What is left to show of `ScheduleJudge::conjoin`.
use Rattle.std.proofs.Common.{◌≡◌, ◌+◌, ◌-◌, ◌≤◌, ℕ, suc, length, refl, ap, sym, subst, ◌∙◌, arith}
use Rattle.std.specs.Prelude.{replicate}
use Rattle.schedule_plan.specs.declared.plan.Move.TheVariants.{And}
use Rattle.schedule_plan.specs.ScheduleText.{taken}
use Rattle.std.specs.Prelude.{IsTrue, is_none}
use Rattle.schedule_plan.specs.ScheduleMemory.{moves_may_want_memory}
use Rattle.schedule_plan.proofs.Standing.{accepted}
use Rattle.schedule_plan.proofs.ScheduleWants.{free_behind}
use Rattle.schedule_plan.proofs.Steps.{short_fault, and_free, term_count}
use Rattle.schedule_plan.proofs.schedule.judge.ScheduleJudge.conjoin.Goals as goal

pub returns-then-as_slice-terms-clause-takes : goal.returns-then-as_slice-terms-clause-takes
returns-then-as_slice-terms-clause-takes c =
    let formula = c.args.formula.now in
    let old = c.args.self.now in
    let stage = c.requires.stands.stage in
    let count : length stage.stack ≡ length old.starts.items = term_count formula old stage c.requires.stands.at in
    let k = c.args.terms - 2 in
    let same : c.args.terms - 1 ≡ suc k = omega (arith, c.requires.two) in (
      ap (λ n. taken formula old.moves.items (replicate n And)) same
          ∙ short_fault formula k old.moves.items stage stage.stack c.requires.stands.at.possible refl
          (omega (arith, count, ap length c.as_slice.ensures.value, c.if-as_slice-terms.true, c.requires.two)),
      refl,
    )

pub loop-preserved : goal.loop-preserved
loop-preserved c =
    let formula = c.args.formula.now in
    let now = c.loop.self in
    let at = c.loop.invariant.stands in
    let left = c.args.terms - (c.loop.counter + 1) in
    let one : c.args.terms - c.loop.counter ≡ suc left = omega (arith, c.loop-test.true) in
    let two : 2 ≤ length now.starts.items = omega (arith, c.loop-test.true, c.loop.invariant.enough) in
    record {
      stands = c.in_ok-conjoin_top.ensures.stands;
      enough = omega (arith, c.in_ok-conjoin_top.ensures.fewer, c.loop.invariant.enough, two);
      rest = c.loop.invariant.rest ∙ ap (λ n. taken formula now.moves.items (replicate n And)) one
          ∙ accepted formula now.moves.items at.stage And (replicate left And) at.at.possible (and_free formula now at.stage at.at two)
          ∙ ap (λ l. taken formula l (replicate left And)) (sym c.in_ok-conjoin_top.ensures.moves);
    }

-- there are terms enough, so the first move has no fault
pub returns-in_err-conjoin_top-clause-memory : goal.returns-in_err-conjoin_top-clause-memory
returns-in_err-conjoin_top-clause-memory c = λ wanted.
    let formula = c.args.formula.now in
    let old = c.args.self.now in
    let at = c.requires.stands in
    let two : 2 ≤ length old.starts.items = omega (arith, ap length c.as_slice.ensures.value, c.if-as_slice-terms.false, c.requires.two) in
    let same : c.args.terms - 1 ≡ suc (c.args.terms - 2) = omega (arith, c.requires.two) in
    subst (λ (n : ℕ). IsTrue (moves_may_want_memory formula old.moves.items (replicate n And))) (sym same)
    (ap is_none (free_behind formula old.moves.items at.stage And at.at.possible (and_free formula old at.stage at.at two)))
