-- What is left to show of `sort`.
use Rattle.std.proofs.Common.{rules, ℕ}
use Rattle.std.proofs.lemmas.List.Sorted.{IsNonDecreasingBy-from_sort_by_key}
use Rattle.parity_equations.proofs.denied.sort.Goals as goal

pub returns-clause-rising : goal.returns-clause-rising
returns-clause-rising c = IsNonDecreasingBy-from_sort_by_key (λ (number : ℕ). number) _ c.sort_unstable_by_key.ensures.sorted
    (λ a r q k. search rules)
