-- One clause more, and the end.
use Rattle.std.proofs.Common.{◌≡◌, ◌+◌, ◌-◌, ◌<◌, ◌≤◌, ℤ, List, [], ◌∷◌, ◌++◌, Some, map, take, length, get_or, sym, ◌∙◌, ap, arith}
use Rattle.std.proofs.lemmas.List.{take_all, take_more}
use Rattle.drat_checker.specs.Places.{Places}
use Rattle.drat_checker.proofs.Standing.{places-push}
use Rattle.drat_checker.proofs.database.Database.open.Goals as goal

pub loop-i-preserved : goal.loop-i-preserved
loop-i-preserved c =
    let clauses = c.args.formula.now.clauses in
    let i = c.loop-i.i in
    let within : i < length clauses = omega (arith, c.loop-i-test.true, c.len-i-end.ensures) in
    let place : i + 1 - 1 ≡ i = omega arith in
    let own : c.clause.result.now ≡ get_or clauses i [] = c.clause.ensures ∙ ap (λ k. get_or clauses k []) place in
    c.in_ok-push.ensures.ok
    ∙ ap (λ (ps : Places). ps ++ Some c.clause.result.now ∷ []) c.loop-i.invariant
    ∙ ap (λ (d : List ℤ). map Some (take i clauses) ++ Some d ∷ []) own
    ∙ places-push (take i clauses) (get_or clauses i [])
    ∙ ap (λ (cs : List (List ℤ)). map Some cs) (sym (take_more clauses i [] within))

pub returns : goal.returns
returns c =
    let past : length c.args.formula.now.clauses ≤ c.loop-i.i = omega (arith, c.loop-i-test.false, c.len-i-end.ensures) in
    c.loop-i.invariant ∙ ap (λ (cs : List (List ℤ)). map Some cs) (take_all c.loop-i.i c.args.formula.now.clauses past)
