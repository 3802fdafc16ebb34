-- What is left to show of `sort_falling`.
use Rattle.std.proofs.Common.{ℕ}
use Rattle.std.proofs.lemmas.List.Sorted.{IsNonDecreasingBy-from_sort, IsPermutation-trans}
use Rattle.node_table.proofs.Falling.{falling_sorted}
use Rattle.node_table.proofs.sweep.sort_falling.Goals as goal

pub returns-clause-falling : goal.returns-clause-falling
returns-clause-falling c =
    let sorted = c.sort_unstable.new.self in
    falling_sorted c.args.numbers.now sorted c.reverse.new.self c.requires c.sort_unstable.ensures.permutation
    (IsNonDecreasingBy-from_sort (λ (n : ℕ). n) sorted c.sort_unstable.ensures.sorted)
    c.reverse.ensures.after

pub returns-clause-permutation : goal.returns-clause-permutation
returns-clause-permutation c = IsPermutation-trans c.args.numbers.now c.sort_unstable.new.self c.reverse.new.self
    c.sort_unstable.ensures.permutation c.reverse.ensures.permutation
