-- What is left to show of `number_down`.
use Rattle.std.proofs.Common.{ℕ, ◌+◌, Bool, cond, ap, ◌∙◌, sym, arith}
use Rattle.std.proofs.lemmas.Bool.{and_parts}
use Rattle.workload.specs.declared.square.Square.{Square}
use Rattle.workload.specs.Board.{square, stays}
use Rattle.workload.proofs.Counts.{before}
use Rattle.workload.proofs.Numbers.{number_down, across_too, across_not}
use Rattle.workload.proofs.square.number_down.Goals as goal

pub returns-then-square-n-clause-value : goal.returns-then-square-n-clause-value
returns-then-square-n-clause-value c =
    let n : ℕ = c.args.n in
    let s : Square = c.args.square in
    let there = and_parts (stays n s) (stays n (square (s.row + 1) s.column)) c.requires.there in
    ap (λ (k : ℕ). k + 2) c.before.dominoes_before-before.ensures.value
    ∙ ap (λ (b : Bool). before n s.row s.column + cond b 2 1) (sym (across_too n s.row s.column c.requires.there c.if-square-n.true))
    ∙ sym (number_down n s.row s.column there.0 c.requires.there)

pub returns-else-square-n-clause-value : goal.returns-else-square-n-clause-value
returns-else-square-n-clause-value c =
    let n : ℕ = c.args.n in
    let s : Square = c.args.square in
    let there = and_parts (stays n s) (stays n (square (s.row + 1) s.column)) c.requires.there in
    ap (λ (k : ℕ). k + 1) c.before.dominoes_before-before.ensures.value
    ∙ ap (λ (b : Bool). before n s.row s.column + cond b 2 1) (sym (across_not n s.row s.column (omega arith)))
    ∙ sym (number_down n s.row s.column there.0 c.requires.there)
