-- What is left to show of `ScheduleJudge::exists_all`.
use Rattle.std.proofs.Common.{◌≡◌, ◌+◌, ◌-◌, ◌++◌, ℕ, List, [], ◌∷◌, length, true, false, Ok, refl, ap, sym, ◌∙◌, subst, arith}
use Rattle.std.specs.Prelude.{nat_lt}
use Rattle.std.specs.List.{list_all, list_any}
use Rattle.schedule_plan.specs.declared.plan.Move.TheVariants.{ExistsAll}
use Rattle.schedule_plan.specs.declared.schedule.error.PlanKind.TheVariants.{VariableInUse}
use Rattle.schedule_plan.specs.declared.schedule.judge.ScheduleJudge.{ScheduleJudge}
use Rattle.schedule_plan.specs.declared.schedule.uses.Use.{Use}
use Rattle.schedule_plan.specs.ScheduleText.{is_out_of_range}
use Rattle.schedule_plan.specs.ScheduleState.{is_used}
use Rattle.schedule_plan.proofs.Standing.{refused, accepted}
use Rattle.schedule_plan.proofs.ScheduleWants.{free_behind}
use Rattle.schedule_plan.proofs.SetJudged.{all_below, all_stands, judged}
use Rattle.schedule_plan.proofs.Steps.{Topped, topped}
use Rattle.schedule_plan.proofs.schedule.judge.ScheduleJudge.exists_all.Goals as goal

pub is_any_used-requires : goal.is_any_used-requires
is_any_used-requires c = record {
  within = subst (λ (uses : List Use). list_all (λ x. nat_lt x (length uses)) c.args.numbers.now ≡ true) (sym c.as_slice.ensures.value)
      (all_below c.args.formula.now c.args.numbers.now (length c.args.self.now.uses.items) (omega (arith, c.requires.at.use_count))
      (sym c.is_any_out_of_range.ensures ∙ c.if-is_any_out_of_range.false));
}

pub returns-then-is_any_used-clause-takes : goal.returns-then-is_any_used-clause-takes
returns-then-is_any_used-clause-takes c = (
  refused c.args.formula.now c.args.self.now.moves.items c.requires.stage (ExistsAll c.args.numbers.now) [] VariableInUse
      c.requires.at.possible
      (judged c.args.formula.now c.args.self.now c.requires.stage c.args.numbers.now c.as_slice.result.now c.index-begun.result.now
      (length c.as_slice-terms.result.now - 1) true c.requires.at
      (omega (arith, c.if-terms-eq0.false, ap length c.as_slice-terms.ensures.value)) c.index-begun.ensures
      (sym c.is_any_out_of_range.ensures ∙ c.if-is_any_out_of_range.false) c.as_slice.ensures.value
      (sym c.is_any_used.ensures ∙ c.if-is_any_used.true)),
  refl,
)

pub variables_of-requires : goal.variables_of-requires
variables_of-requires c = record {
  within = all_below c.args.formula.now c.args.numbers.now 4294967296 (omega (arith, c.formula_law.ensures.vars))
      (sym c.is_any_out_of_range.ensures ∙ c.if-is_any_out_of_range.false);
}

pub returns-in_err-set-clause-memory : goal.returns-in_err-set-clause-memory
returns-in_err-set-clause-memory c = λ wanted.
    free_behind c.args.formula.now c.args.self.now.moves.items c.requires.stage (ExistsAll c.args.numbers.now) c.requires.at.possible
    (judged c.args.formula.now c.args.self.now c.requires.stage c.args.numbers.now c.as_slice.result.now c.index-begun.result.now
    (length c.as_slice-terms.result.now - 1) false c.requires.at
    (omega (arith, c.if-terms-eq0.false, ap length c.as_slice-terms.ensures.value)) c.index-begun.ensures
    (sym c.is_any_out_of_range.ensures ∙ c.if-is_any_out_of_range.false) c.as_slice.ensures.value
    (sym c.is_any_used.ensures ∙ c.if-is_any_used.false))

pub returns-in_err-push-clause-memory : goal.returns-in_err-push-clause-memory
returns-in_err-push-clause-memory c = λ wanted.
    free_behind c.args.formula.now c.args.self.now.moves.items c.requires.stage (ExistsAll c.args.numbers.now) c.requires.at.possible
    (judged c.args.formula.now c.args.self.now c.requires.stage c.args.numbers.now c.as_slice.result.now c.index-begun.result.now
    (length c.as_slice-terms.result.now - 1) false c.requires.at
    (omega (arith, c.if-terms-eq0.false, ap length c.as_slice-terms.ensures.value)) c.index-begun.ensures
    (sym c.is_any_out_of_range.ensures ∙ c.if-is_any_out_of_range.false) c.as_slice.ensures.value
    (sym c.is_any_used.ensures ∙ c.if-is_any_used.false))

pub quantify_each-requires : goal.quantify_each-requires
quantify_each-requires c = record {
  within = all_below c.args.formula.now c.args.numbers.now (length c.args.self.now.uses.items) (omega (arith, c.requires.at.use_count))
      (sym c.is_any_out_of_range.ensures ∙ c.if-is_any_out_of_range.false);
}

pub returns-clause-takes : goal.returns-clause-takes
returns-clause-takes c =
    accepted c.args.formula.now c.args.self.now.moves.items c.requires.stage (ExistsAll c.args.numbers.now) [] c.requires.at.possible
    (judged c.args.formula.now c.args.self.now c.requires.stage c.args.numbers.now c.as_slice.result.now c.index-begun.result.now
    (length c.as_slice-terms.result.now - 1) false c.requires.at
    (omega (arith, c.if-terms-eq0.false, ap length c.as_slice-terms.ensures.value)) c.index-begun.ensures
    (sym c.is_any_out_of_range.ensures ∙ c.if-is_any_out_of_range.false) c.as_slice.ensures.value
    (sym c.is_any_used.ensures ∙ c.if-is_any_used.false))
    ∙ ap (λ (set : List ℕ). Ok (c.args.self.now.moves.items ++ ExistsAll set ∷ [])) (sym c.in_ok-set.ensures)
    ∙ ap Ok (sym c.in_ok-push.ensures.items)

pub returns-clause-stands : goal.returns-clause-stands
returns-clause-stands c =
    let formula = c.args.formula.now in
    let old = c.args.self.now in
    let xs = c.args.numbers.now in
    let begun = c.index-begun.result.now in
    let n = length c.as_slice-terms.result.now - 1 in
    let count : length old.starts.items ≡ n + 1 = omega (arith, c.if-terms-eq0.false, ap length c.as_slice-terms.ensures.value) in
    let on : Topped formula old c.requires.stage begun = topped formula old c.requires.stage n begun begun c.requires.at count
    c.index-begun.ensures in
    let inside : list_any (is_out_of_range formula) xs ≡ false = sym c.is_any_out_of_range.ensures ∙ c.if-is_any_out_of_range.false in
    let free : list_any (is_used old.uses.items begun) xs ≡ false =
    ap (λ (uses : List Use). list_any (is_used uses begun) xs) (sym c.as_slice.ensures.value)
    ∙ sym c.is_any_used.ensures ∙ c.if-is_any_used.false in
    let new : ScheduleJudge = record {
      moves = c.push.new.self;
      uses = c.quantify_each.new.uses;
      flags = old.flags;
      starts = old.starts;
      pushes = old.pushes;
    } in
    let next = all_stands formula old new c.requires.stage xs begun c.formula_law.ensures.count c.requires.at on inside free
    (c.in_ok-push.ensures.items ∙ ap (λ (set : List ℕ). old.moves.items ++ ExistsAll set ∷ []) c.in_ok-set.ensures)
    c.quantify_each.ensures.count c.quantify_each.ensures.uses refl refl refl in
    record { stage = next.0; at = next.1 }
