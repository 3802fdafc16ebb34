-- What is left to show of `dominoes_before`.
use Rattle.std.proofs.Common.{◌≡◌, ℕ, ◌+◌, ◌-◌, ◌*◌, ◌≤◌, arith, subst, sym}
use Rattle.std.proofs.Math.Nat.{mul-le-mul}
use Rattle.workload.proofs.Squares.{Stays, it_stays}
use Rattle.workload.proofs.Counts.{before, before_upper, before_last}
use Rattle.workload.proofs.square.dominoes_before.Goals as goal

there : (n row column : ℕ) → n ≤ 100 → Stays n row column → (row - 1) * (2 * n - 1) ≤ 19701
there n row column small s = mul-le-mul {n₁ = row - 1} {m₁ = 2 * n - 1} {n₂ = 99} {m₂ = 199} (omega (arith, small, s.row_to))
    (omega (arith, small))

last : (n row column : ℕ) → row ≡ n → Stays n row column → before n row column + 3 ≡ (row - 1) * (2 * n - 1) + (column - 1)
last n row column is s =
    let P : ℕ → Type 0 = λ r. before n r column + 3 ≡ (r - 1) * (2 * n - 1) + (column - 1) in
    subst P (sym is) (before_last n column (subst (λ (r : ℕ). Stays n r column) is s))

pub overflow_sub-rows : goal.overflow_sub-rows
overflow_sub-rows c = (it_stays c.args.n c.args.row c.args.column c.requires.there).row_from

pub overflow_sub-rows-2 : goal.overflow_sub-rows-2
overflow_sub-rows-2 c = let s = it_stays c.args.n c.args.row c.args.column c.requires.there in omega (arith, s.row_from, s.row_to)

pub overflow_mul-rows-2 : goal.overflow_mul-rows-2
overflow_mul-rows-2 c =
    let s = it_stays c.args.n c.args.row c.args.column c.requires.there in
    omega (arith, there c.args.n c.args.row c.args.column c.requires.most s)

pub overflow_sub-result : goal.overflow_sub-result
overflow_sub-result c = (it_stays c.args.n c.args.row c.args.column c.requires.there).column_from

pub overflow_mul-result : goal.overflow_mul-result
overflow_mul-result c = let s = it_stays c.args.n c.args.row c.args.column c.requires.there in omega (arith, s.column_to, c.requires.most)

pub overflow_add-result : goal.overflow_add-result
overflow_add-result c =
    let s = it_stays c.args.n c.args.row c.args.column c.requires.there in
    omega (arith, there c.args.n c.args.row c.args.column c.requires.most s, s.column_to, c.requires.most)

pub overflow_sub-result-then-row-n : goal.overflow_sub-result-then-row-n
overflow_sub-result-then-row-n c =
    let s = it_stays c.args.n c.args.row c.args.column c.requires.there in
    omega (arith, before_upper c.args.n c.args.row c.args.column s c.if-row-n.true)

pub overflow_sub-result-else-row-n : goal.overflow_sub-result-else-row-n
overflow_sub-result-else-row-n c = (it_stays c.args.n c.args.row c.args.column c.requires.there).column_from

pub overflow_add-result-else-row-n : goal.overflow_add-result-else-row-n
overflow_add-result-else-row-n c =
    let s = it_stays c.args.n c.args.row c.args.column c.requires.there in
    omega (arith, there c.args.n c.args.row c.args.column c.requires.most s, s.column_to, c.requires.most)

pub overflow_sub-result-else-row-n-2 : goal.overflow_sub-result-else-row-n-2
overflow_sub-result-else-row-n-2 c =
    let s = it_stays c.args.n c.args.row c.args.column c.requires.there in
    omega (arith, last c.args.n c.args.row c.args.column (omega (arith, s.row_to, c.if-row-n.false)) s)

pub returns-then-row-n-clause-value : goal.returns-then-row-n-clause-value
returns-then-row-n-clause-value c =
    let s = it_stays c.args.n c.args.row c.args.column c.requires.there in
    omega (arith, before_upper c.args.n c.args.row c.args.column s c.if-row-n.true)

pub returns-then-row-n-clause-range : goal.returns-then-row-n-clause-range
returns-then-row-n-clause-range c =
    let s = it_stays c.args.n c.args.row c.args.column c.requires.there in
    omega (arith, there c.args.n c.args.row c.args.column c.requires.most s, s.column_to, c.requires.most)

pub returns-else-row-n-clause-value : goal.returns-else-row-n-clause-value
returns-else-row-n-clause-value c =
    let s = it_stays c.args.n c.args.row c.args.column c.requires.there in
    omega (arith, last c.args.n c.args.row c.args.column (omega (arith, s.row_to, c.if-row-n.false)) s)

pub returns-else-row-n-clause-range : goal.returns-else-row-n-clause-range
returns-else-row-n-clause-range c =
    let s = it_stays c.args.n c.args.row c.args.column c.requires.there in
    omega (arith, there c.args.n c.args.row c.args.column c.requires.most s, s.column_to, c.requires.most)
