-- What is left to show of `push_following`.
use Rattle.std.proofs.Common.{◌≡◌, ℕ, suc, ◌+◌, ◌-◌, ◌∷◌, [], ◌++◌, List, ap, sym, ◌∙◌, append_assoc, arith}
use Rattle.std.specs.Prelude.{map}
use Rattle.std.proofs.lemmas.List.{map-append}
use Rattle.schedule_plan.specs.declared.plan.Move.{Move}
use Rattle.schedule_plan.specs.declared.plan.Move.TheVariants.{Push}
use Rattle.workload.specs.Schedule.{following}
use Rattle.workload.proofs.Steps.{following_next}
use Rattle.workload.proofs.columns.push_following.Goals as goal

pub loop-clause-preserved : goal.loop-clause-preserved
loop-clause-preserved c =
    let count : ℕ = c.loop-clause.clause - c.args.start in
    let one_more : c.loop-clause.clause + 1 - c.args.start ≡ suc count = omega arith in
    let number : suc (c.args.start + count) ≡ c.loop-clause.clause + 1 = omega arith in
    let pushes : map Push (following c.args.start (c.loop-clause.clause + 1 - c.args.start)) ≡ map Push (following c.args.start count)
    ++ Push (c.loop-clause.clause + 1) ∷ [] =
    ap (λ (k : ℕ). map Push (following c.args.start k)) one_more
    ∙ ap (map Push) (following_next c.args.start count ∙ ap (λ (k : ℕ). following c.args.start count ++ k ∷ []) number)
    ∙ map-append Push (following c.args.start count) ((c.loop-clause.clause + 1) ∷ []) in
    c.in_ok-push.ensures.items ∙ ap (λ (l : List Move). l ++ Push (c.loop-clause.clause + 1) ∷ []) c.loop-clause.invariant
    ∙ append_assoc c.args.moves.now.items (map Push (following c.args.start count)) (Push (c.loop-clause.clause + 1) ∷ [])
    ∙ ap (λ (l : List Move). c.args.moves.now.items ++ l) (sym pushes)
