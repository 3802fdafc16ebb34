-- What is left to show of `ScheduleJudge::new`.
use Rattle.std.proofs.Common.{ℕ, ℤ, List, ◌≡◌, ◌+◌, ◌-◌, ◌≤◌, suc, length, reverse, zero, false, nat_abs, inl, inr, refl, ap, sym, subst}
use Rattle.std.proofs.Common.{◌∙◌, arith, rules}
use Rattle.std.specs.Prelude.{IsTrue, nat_lt, slice_index_or, [], replicate}
use Rattle.std.specs.List.{list_all}
use Rattle.std.proofs.lemmas.List.{length-replicate}
use Rattle.std.proofs.lemmas.Bool.{cases_order}
use Rattle.std.proofs.Math.ListN.{get_or-eq_default}
use Rattle.schedule_plan.specs.Plan.{no_stage, after_moves}
use Rattle.schedule_plan.specs.declared.schedule.judge.ScheduleJudge.{ScheduleJudge}
use Rattle.schedule_plan.specs.declared.schedule.uses.Use.{Use}
use Rattle.schedule_plan.specs.ScheduleState.{use_at, no_use, holds, to_come, AreStarts}
use Rattle.schedule_plan.proofs.Occurrences.{literals_within}
use Rattle.schedule_plan.proofs.ToCome.{to_come_small, none_pushed}
use Rattle.schedule_plan.proofs.schedule.judge.ScheduleJudge.new.Goals as goal

get_or-replicate : (n i : ℕ) → slice_index_or (replicate n false) i false ≡ false
get_or-replicate zero i = refl
get_or-replicate (suc n) zero = refl
get_or-replicate (suc n) (suc i) = get_or-replicate n i

pub count_clause-requires-clause-few : goal.count_clause-requires-clause-few
count_clause-requires-clause-few c = λ x.
    let formula = c.args.formula.now in
    let uses = c.loop-clause.uses.items in
    let inside : x ≤ formula.vars → (use_at uses x).to_come ≤ 10000000 = λ small.
    omega (
      arith,
      (c.loop-clause.invariant.uses x small).0,
      to_come_small (holds formula x) [] c.loop-clause.clause,
      c.formula_law.ensures.count,
      c.loop-clause-test.true,
      c.len-clause-end.ensures,
    ) in
    elim (cases_order x (formula.vars + 1)) [
      | inl same ↦ subst (λ (u : Use). u.to_come ≤ 10000000) (sym
          (get_or-eq_default uses no_use {n = x} (omega (arith, same, c.loop-clause.invariant.count)))) (omega arith)
      | inr (inl before) ↦ inside (omega (arith, before))
      | inr (inr behind) ↦ subst (λ (u : Use). u.to_come ≤ 10000000)
          (sym (get_or-eq_default uses no_use {n = x} (omega (arith, behind, c.loop-clause.invariant.count)))) (omega arith)
    ]

pub count_clause-requires-clause-within : goal.count_clause-requires-clause-within
count_clause-requires-clause-within c =
    let formula = c.args.formula.now in
    let n = c.loop-clause.clause in
    let size = length c.loop-clause.uses.items in
    let same : suc n - 1 ≡ n + 1 - 1 = omega arith in
    subst (λ (clause : List ℤ). IsTrue (list_all (λ (literal : ℤ). nat_lt (nat_abs literal) size) clause))
    (ap (λ k. slice_index_or formula.clauses k []) same ∙ sym c.clause.ensures)
    (literals_within formula n size c.formula_law.ensures.literals
    (omega (arith, c.loop-clause-test.true, c.len-clause-end.ensures)) c.loop-clause.invariant.count)

pub returns-clause-stands : goal.returns-clause-stands
returns-clause-stands c =
    let formula = c.args.formula.now in
    let count = length formula.clauses in
    let judge : ScheduleJudge = record {
      moves = c.new.result;
      uses = c.loop-clause.uses;
      flags = c.in_ok-vec.field-0;
      starts = c.new-2.result;
      pushes = 0;
    } in
    let all : c.loop-clause.clause ≡ count = omega (
      arith,
      c.loop-clause-test.false,
      c.loop-clause.auto.clause-end,
      c.len-clause-end.ensures,
    ) in
    let earliest : ℕ → ℕ = λ x. (use_at c.loop-clause.uses.items x).earliest in
    let flags : c.in_ok-vec.field-0.items ≡ replicate (c.len.result + 1) false = search rules in
    record {
      stage = no_stage;
      at = record {
        possible = ap (after_moves formula no_stage) c.new.ensures.items;
        use_count = c.loop-clause.invariant.count;
        flag_count = ap length flags ∙ length-replicate (c.len.result + 1) false ∙ ap (λ n. n + 1) c.len.ensures;
        flags = λ i from to. ap (λ l. slice_index_or l i false) flags ∙ get_or-replicate (c.len.result + 1) i;
        pushes = omega (arith, none_pushed count);
        uses = λ x small. record {
          right = (c.loop-clause.invariant.uses x small).0 ∙ ap (to_come (holds formula x) []) all;
          seen = omega (arith, (c.loop-clause.invariant.uses x small).1, all);
          earliest = λ late. (c.loop-clause.invariant.uses x small).2;
        };
        starts = subst (λ l. AreStarts formula earliest [] (reverse l) 0) (sym c.new-2.ensures.items)
            (λ x small. ap (λ e. nat_lt e 0) (c.loop-clause.invariant.uses x small).2);
      };
    }
