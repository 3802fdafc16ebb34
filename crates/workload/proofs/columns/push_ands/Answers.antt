-- What is left to show of `push_ands`.
use Rattle.std.proofs.Common.{◌≡◌, ℕ, suc, ◌+◌, ◌-◌, ◌∷◌, [], ◌++◌, List, ap, sym, ◌∙◌, append_assoc, arith}
use Rattle.std.specs.Prelude.{replicate}
use Rattle.schedule_plan.specs.declared.plan.Move.{Move}
use Rattle.schedule_plan.specs.declared.plan.Move.TheVariants.{And}
use Rattle.workload.proofs.Steps.{replicate_next}
use Rattle.workload.proofs.columns.push_ands.Goals as goal

pub loop-term-preserved : goal.loop-term-preserved
loop-term-preserved c =
    let k : ℕ = c.loop-term._term in
    let one_more : k + 1 ≡ suc k = omega arith in
    let ands : replicate (k + 1) And ≡ replicate k And ++ And ∷ [] = ap (λ (j : ℕ). replicate j And) one_more ∙ replicate_next And k in
    c.in_ok-push.ensures.items ∙ ap (λ (l : List Move). l ++ And ∷ []) c.loop-term.invariant
    ∙ append_assoc c.args.moves.now.items (replicate k And) (And ∷ [])
    ∙ ap (λ (l : List Move). c.args.moves.now.items ++ l) (sym ands)

pub returns : goal.returns
returns c =
    let all : c.loop-term._term ≡ c.args.terms - 1 = omega arith in
    c.loop-term.invariant ∙ ap (λ (k : ℕ). c.args.moves.now.items ++ replicate k And) all
