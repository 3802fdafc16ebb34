-- What is left to show of `clause_count`.
use Rattle.std.proofs.Common.{◌≡◌, ℕ, ◌+◌, ◌-◌, ◌*◌, ◌/◌, ◌≤◌, length, ap, ◌∙◌, sym, subst}
use Rattle.workload.specs.declared.square.Square.{Square}
use Rattle.workload.specs.Board.{square}
use Rattle.workload.proofs.Clauses.{counted, few_numbers}
use Rattle.workload.proofs.square.clause_count.Goals as goal

pub returns-clause-value : goal.returns-clause-value
returns-clause-value c =
    let s : Square = square c.args.row c.args.column in
    let len : c.len-dominoes.result ≡ length c.covering.result.items = c.len-dominoes.ensures.value in
    let less : c.saturating_sub.result ≡ length c.covering.result.items - 1 = c.saturating_sub.ensures ∙ ap (λ (k : ℕ). k - 1) len in
    (λ i. 1 + len i * less i / 2) ∙ counted c.args.n s c.covering.result.items
    (subst (λ l. length l ≤ 4) (sym c.covering.ensures) (few_numbers c.args.n s)) c.covering.ensures
