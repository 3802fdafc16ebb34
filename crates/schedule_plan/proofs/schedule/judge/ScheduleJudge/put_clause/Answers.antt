-- What is left to show of `ScheduleJudge::put_clause`.
use Rattle.std.proofs.Common.{ℕ, ℤ, List, ◌≡◌, ◌+◌, ◌-◌, suc, length, nat_abs, refl, ap, sym, subst, ◌∙◌, arith}
use Rattle.std.specs.Prelude.{IsTrue, nat_lt, slice_index_or, [], ◌∷◌, true}
use Rattle.std.specs.List.{list_all}
use Rattle.std.specs.Vec.{with_item}
use Rattle.schedule_plan.specs.declared.schedule.judge.ScheduleJudge.{ScheduleJudge}
use Rattle.schedule_plan.specs.Plan.{input}
use Rattle.schedule_plan.specs.ScheduleState.{changed, with_push}
use Rattle.schedule_plan.proofs.Occurrences.{literals_within}
use Rattle.schedule_plan.proofs.Steps.{push_at, push_step}
use Rattle.schedule_plan.proofs.schedule.judge.ScheduleJudge.put_clause.Goals as goal

pub push_clause-requires : goal.push_clause-requires
push_clause-requires c =
    let formula = c.args.formula.now in
    let n : ℕ = c.args.number - 1 in
    let count : length c.args.self.now.uses.items ≡ formula.vars + 1 = c.requires.stands.at.use_count in
    let same : suc n - 1 ≡ c.args.number - 1 = omega arith in
    record {
      within = subst (λ (clause : List ℤ). IsTrue (list_all (λ (literal : ℤ). nat_lt (nat_abs literal)
          (length c.args.self.now.uses.items)) clause))
          (ap (λ k. slice_index_or formula.clauses k []) same ∙ sym c.clause.ensures)
          (literals_within formula n (length c.args.self.now.uses.items) c.formula_law.ensures.literals
          (omega (arith, c.requires.from_one, c.requires.to_len)) count);
    }

pub returns-clause-stands : goal.returns-clause-stands
returns-clause-stands c =
    let formula = c.args.formula.now in
    let old = c.args.self.now in
    let stage = c.requires.stands.stage in
    let at = c.requires.stands.at in
    let mark = ap (λ n. n + 1 + old.pushes) c.len.ensures in
    let new : ScheduleJudge = record {
      moves = c.push-2.new.self;
      uses = c.push_clause.new.uses;
      flags = with_item old.flags c.args.number true;
      starts = c.push.new.self;
      pushes = old.pushes + 1;
    } in
    record {
      stage = record { stack = input c.args.number ∷ stage.stack; pushed = c.args.number ∷ stage.pushed; trail = stage.trail };
      at = push_at formula old new stage c.args.number c.formula_law.ensures.count at c.requires.from_one c.requires.to_len
          (sym (at.flags c.args.number c.requires.from_one c.requires.to_len) ∙ c.requires.fresh)
          (push_step formula stage c.args.number c.requires.from_one c.requires.to_len
          (sym (at.flags c.args.number c.requires.from_one c.requires.to_len) ∙ c.requires.fresh))
          c.in_ok-push-2.ensures.items c.push_clause.ensures.count
          (λ x. c.push_clause.ensures.uses x
          ∙ ap (λ l. changed (with_push (c.len.result + 1 + old.pushes) old.pushes) l old.uses.items x) c.clause.ensures
          ∙ ap (λ m. changed (with_push m old.pushes) (slice_index_or formula.clauses (c.args.number - 1) []) old.uses.items x) mark)
          refl c.in_ok-push.ensures.items refl;
    }
