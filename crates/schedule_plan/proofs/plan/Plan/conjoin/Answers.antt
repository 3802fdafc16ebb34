-- What is left to show of `Plan::conjoin`.
use Rattle.std.proofs.Common.{ℕ, zero, suc, ◌+◌, ◌<◌, ◌≤◌, List, [], ◌∷◌, ◌++◌, ap, sym, refl, ◌∙◌, subst, length, arith, ◌≡◌, add-one, append_assoc}
use Rattle.schedule_plan.specs.declared.plan.Move.{Move}
use Rattle.schedule_plan.specs.declared.plan.Move.TheVariants.{Push, And}
use Rattle.schedule_plan.specs.Plan.{IsAdmissible, conjoin}
use Rattle.schedule_plan.proofs.Admissible.{conjoin_is_admissible}
use Rattle.schedule_plan.proofs.plan.Plan.conjoin.Goals.{then-clause-gt0+in_ok-push-2, else-clause-gt0}
use Rattle.schedule_plan.proofs.plan.Plan.conjoin.Goals as goal

conjoin_more : (n : ℕ) → 0 < n → conjoin (n + 1) ≡ (conjoin n ++ Push (n + 1) ∷ []) ++ And ∷ []
conjoin_more zero positive = absurd (omega arith)
conjoin_more (suc n) positive = rw (add-one, append_assoc) refl

conjoin_first : (n : ℕ) → n ≤ 0 → conjoin (n + 1) ≡ conjoin n ++ Push (n + 1) ∷ []
conjoin_first zero small = refl
conjoin_first (suc n) small = absurd (omega arith)

pub returns-clause-admissible : goal.returns-clause-admissible
returns-clause-admissible c =
    let all : c.loop-clause.clause ≡ length c.args.formula.now.clauses = omega arith in
    subst (IsAdmissible c.args.formula.now) (sym (c.loop-clause.invariant ∙ ap conjoin all)) (conjoin_is_admissible c.args.formula.now)

pub loop-clause-preserved : goal.loop-clause-preserved
loop-clause-preserved c =
    let n = c.loop-clause.clause in
    let pushed : c.push.new.self.items ≡ conjoin n ++ Push (n + 1) ∷ [] =
    c.in_ok-push.ensures.items ∙ ap (λ (l : List Move). l ++ Push (n + 1) ∷ []) c.loop-clause.invariant in
    elim c.if-clause-gt0.branch [
      | then-clause-gt0+in_ok-push-2 w ↦
          ap (λ v. v.items) w.moves-is ∙ w.in_ok-push-2.ensures.items ∙ ap (λ (l : List Move). l ++ And ∷ []) pushed
          ∙ sym (conjoin_more n w.if-clause-gt0.true)
      | else-clause-gt0 w ↦ ap (λ v. v.items) w.moves-is ∙ pushed ∙ sym (conjoin_first n w.if-clause-gt0.false)
    ]
