-- What is left to show of `ScheduleJudge::exists`.
use Rattle.std.proofs.Common.{◌≡◌, ◌+◌, ◌-◌, ◌<◌, ◌||◌, length, inl, inr, true, false, None, Some, Ok, refl, ap, sym, ◌∙◌, arith}
use Rattle.std.specs.Prelude.{[], nat_lt, if◌then◌else◌}
use Rattle.std.specs.Vec.{with_item}
use Rattle.std.proofs.lemmas.Bool.{lt-ltb}
use Rattle.std.proofs.lemmas.Bool.Decides.{nat_tests}
use Rattle.std.proofs.lemmas.List.{get_or_default}
use Rattle.schedule_plan.specs.declared.plan.Move.TheVariants.{Exists}
use Rattle.schedule_plan.specs.declared.schedule.error.PlanKind.TheVariants.{VariableInUse}
use Rattle.schedule_plan.specs.declared.schedule.judge.ScheduleJudge.{ScheduleJudge}
use Rattle.schedule_plan.specs.declared.schedule.uses.Use.{Use}
use Rattle.schedule_plan.specs.ScheduleState.{use_at, no_use, never}
use Rattle.schedule_plan.proofs.Standing.{refused, accepted}
use Rattle.schedule_plan.proofs.ScheduleWants.{free_behind}
use Rattle.schedule_plan.proofs.Steps.{Topped, topped, exists_fault, exists_stands}
use Rattle.schedule_plan.proofs.schedule.judge.ScheduleJudge.exists.Goals as goal

pub returns-then-one-start-clause-takes : goal.returns-then-one-start-clause-takes
returns-then-one-start-clause-takes c =
    let formula = c.args.formula.now in
    let old = c.args.self.now in
    let x = c.args.number in
    let start = c.index-start.result.now in
    let n = length c.as_slice-terms.result.now - 1 in
    let count : length old.starts.items ≡ n + 1 = omega (arith, c.if-terms-eq0.false, ap length c.as_slice-terms.ensures.value) in
    let small : x < length old.uses.items = omega (arith, c.if-number-vars.false, c.vars.ensures, c.requires.at.use_count) in
    let one : c.index-one.result.now ≡ use_at old.uses.items x = c.index-one.ensures
    ∙ get_or_default old.uses.items x c.index-one.result.now no_use small in
    let on : Topped formula old c.requires.stage start = topped formula old c.requires.stage n start start c.requires.at count
    c.index-start.ensures in
    let used : (nat_lt (use_at old.uses.items x).earliest start || nat_lt 0 (use_at old.uses.items x).to_come) ≡ true =
    ap (λ (u : Use). nat_lt u.earliest start || nat_lt 0 u.to_come) (sym one) ∙ elim c.then-one-start.either [
      | inl early ↦ ap (λ b. b || nat_lt 0 c.index-one.result.now.to_come) (lt-ltb c.index-one.result.now.earliest start early)
      | inr later ↦ grind (arith, nat_tests, later.1)
    ] in (
      refused formula old.moves.items c.requires.stage (Exists x) [] VariableInUse c.requires.at.possible
          (exists_fault formula old c.requires.stage x start c.requires.at on c.if-number-lt1.false
          (omega (arith, c.if-number-vars.false, c.vars.ensures))
          ∙ ap (λ b. if b then Some VariableInUse else None) used),
      refl,
    )

pub returns-clause-takes : goal.returns-clause-takes
returns-clause-takes c =
    let formula = c.args.formula.now in
    let old = c.args.self.now in
    let x = c.args.number in
    let start = c.index-start.result.now in
    let n = length c.as_slice-terms.result.now - 1 in
    let count : length old.starts.items ≡ n + 1 = omega (arith, c.if-terms-eq0.false, ap length c.as_slice-terms.ensures.value) in
    let small : x < length old.uses.items = omega (arith, c.if-number-vars.false, c.vars.ensures, c.requires.at.use_count) in
    let one : c.index-one.result.now ≡ use_at old.uses.items x = c.index-one.ensures
    ∙ get_or_default old.uses.items x c.index-one.result.now no_use small in
    let on : Topped formula old c.requires.stage start = topped formula old c.requires.stage n start start c.requires.at count
    c.index-start.ensures in
    let free : (nat_lt c.index-one.result.now.earliest start || nat_lt 0 c.index-one.result.now.to_come)
    ≡ false = grind (arith, nat_tests, c.if-one-start.false, c.if-one-gt0.false) in
    let unused : (nat_lt (use_at old.uses.items x).earliest start || nat_lt 0 (use_at old.uses.items x).to_come) ≡ false =
    ap (λ (u : Use). nat_lt u.earliest start || nat_lt 0 u.to_come) (sym one) ∙ free in
    accepted formula old.moves.items c.requires.stage (Exists x) [] c.requires.at.possible
    (exists_fault formula old c.requires.stage x start c.requires.at on c.if-number-lt1.false
    (omega (arith, c.if-number-vars.false, c.vars.ensures))
    ∙ ap (λ b. if b then Some VariableInUse else None) unused)
    ∙ ap Ok (sym c.in_ok-push.ensures.items)

pub returns-in_err-push-clause-memory : goal.returns-in_err-push-clause-memory
returns-in_err-push-clause-memory c = λ wanted.
    let formula = c.args.formula.now in
    let old = c.args.self.now in
    let x = c.args.number in
    let start = c.index-start.result.now in
    let n = length c.as_slice-terms.result.now - 1 in
    let count : length old.starts.items ≡ n + 1 = omega (arith, c.if-terms-eq0.false, ap length c.as_slice-terms.ensures.value) in
    let small : x < length old.uses.items = omega (arith, c.if-number-vars.false, c.vars.ensures, c.requires.at.use_count) in
    let one : c.index-one.result.now ≡ use_at old.uses.items x = c.index-one.ensures
    ∙ get_or_default old.uses.items x c.index-one.result.now no_use small in
    let on : Topped formula old c.requires.stage start = topped formula old c.requires.stage n start start c.requires.at count
    c.index-start.ensures in
    let free : (nat_lt c.index-one.result.now.earliest start || nat_lt 0 c.index-one.result.now.to_come)
    ≡ false = grind (arith, nat_tests, c.if-one-start.false, c.if-one-gt0.false) in
    let unused : (nat_lt (use_at old.uses.items x).earliest start || nat_lt 0 (use_at old.uses.items x).to_come) ≡ false =
    ap (λ (u : Use). nat_lt u.earliest start || nat_lt 0 u.to_come) (sym one) ∙ free in
    free_behind formula old.moves.items c.requires.stage (Exists x) c.requires.at.possible
    (exists_fault formula old c.requires.stage x start c.requires.at on c.if-number-lt1.false
    (omega (arith, c.if-number-vars.false, c.vars.ensures))
    ∙ ap (λ b. if b then Some VariableInUse else None) unused)

pub returns-clause-stands : goal.returns-clause-stands
returns-clause-stands c =
    let formula = c.args.formula.now in
    let old = c.args.self.now in
    let x = c.args.number in
    let start = c.index-start.result.now in
    let n = length c.as_slice-terms.result.now - 1 in
    let count : length old.starts.items ≡ n + 1 = omega (arith, c.if-terms-eq0.false, ap length c.as_slice-terms.ensures.value) in
    let small : x < length old.uses.items = omega (arith, c.if-number-vars.false, c.vars.ensures, c.requires.at.use_count) in
    let one : c.index-one.result.now ≡ use_at old.uses.items x = c.index-one.ensures
    ∙ get_or_default old.uses.items x c.index-one.result.now no_use small in
    let on : Topped formula old c.requires.stage start = topped formula old c.requires.stage n start start c.requires.at count
    c.index-start.ensures in
    let early : nat_lt c.index-one.result.now.earliest start ≡ false = grind (arith, nat_tests, c.if-one-start.false) in
    let none : c.index-one.result.now.to_come ≡ 0 = omega (arith, c.if-one-gt0.false) in
    let quantified : Use = record { to_come = 0; earliest = never; seen = c.index-one.result.now.seen } in
    let new : ScheduleJudge = record {
      moves = c.push.new.self;
      uses = with_item old.uses x quantified;
      flags = old.flags;
      starts = old.starts;
      pushes = old.pushes;
    } in
    let next = exists_stands formula old new c.requires.stage x start c.index-one.result.now.seen c.formula_law.ensures.count c.requires.at
    on c.if-number-lt1.false
    (omega (arith, c.if-number-vars.false, c.vars.ensures)) (ap (λ (u : Use). nat_lt u.earliest start) (sym one)
    ∙ early) (ap (λ (u : Use). u.to_come) (sym one) ∙ none)
    (ap (λ (u : Use). u.seen) (sym one)) c.in_ok-push.ensures.items refl refl refl refl in
    record { stage = next.0; at = next.1 }
