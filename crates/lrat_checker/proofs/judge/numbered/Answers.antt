-- What is left to show of `numbered`.
use Rattle.std.proofs.Common.{◌≡◌, ◌+◌, ◌-◌, ◌<◌, [], length, take, get_or, ap, ap₂, ◌∙◌, sym, arith}
use Rattle.std.proofs.lemmas.List.{take_more, length-take-le}
use Rattle.lrat_rules.specs.State.{start, with_clause}
use Rattle.lrat_checker.proofs.judge.numbered.Goals as goal

pub loop-i-preserved : goal.loop-i-preserved
loop-i-preserved c =
    let within : c.loop-i.i < length c.args.formula.now.clauses = omega arith in
    let place : c.loop-i.i + 1 - 1 ≡ c.loop-i.i = omega arith in
    let clause : c.clause.result.now ≡ get_or c.args.formula.now.clauses c.loop-i.i [] = c.clause.ensures
    ∙ ap (λ k. get_or c.args.formula.now.clauses k []) place in
    let count : length (take c.loop-i.i c.args.formula.now.clauses)
    ≡ c.loop-i.i = length-take-le c.loop-i.i c.args.formula.now.clauses (omega arith) in
    c.in_ok-insert.ensures.ok ∙ ap₂ (λ live clause. with_clause live (c.loop-i.i + 1) clause) c.loop-i.invariant clause
    ∙ sym (ap (λ clauses. (start clauses).live) (take_more c.args.formula.now.clauses c.loop-i.i [] within)
    ∙ ap (λ state. state.live) (c.start_law.ensures.appended (take c.loop-i.i c.args.formula.now.clauses)
    (get_or c.args.formula.now.clauses c.loop-i.i []))
    ∙ ap (λ n. with_clause (start (take c.loop-i.i c.args.formula.now.clauses)).live (n
    + 1) (get_or c.args.formula.now.clauses c.loop-i.i [])) count)
