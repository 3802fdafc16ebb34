-- What is left to show of `of`.
use Rattle.std.proofs.Common.{◌≡◌, ◌∙◌, ◌+◌, ◌-◌, ◌<◌, ℤ, List, [], ◌∷◌, length, take, ap, sym, subst, arith, ◌^◌}
use Rattle.std.specs.Prelude.{slice_index_or}
use Rattle.std.specs.Option.{option_or}
use Rattle.std.proofs.lemmas.List.{length-take-le, take_all, take_more}
use Rattle.parity_equations.specs.Index.{first_under}
use Rattle.parity_equations.specs.LiteralSet.{AreLiterals}
use Rattle.parity_equations.proofs.Keys.{first_more}
use Rattle.parity_equations.proofs.Walked.{clause_literals}
use Rattle.parity_equations.proofs.index.Index.of.Goals as goal

pub enter_clause-requires : goal.enter_clause-requires
enter_clause-requires c =
    let formula = c.args.formula.now in
    let place = c.clauses.place in
    let small : place < length formula.clauses = omega (arith, c.clauses-test.true, c.len-place-end.ensures) in
    let within : formula.vars < 2 ^ 31 = omega (arith, c.formula_law.ensures.vars) in
    let back : place + 1 - 1 ≡ place = omega arith in
    subst AreLiterals (sym (c.clause.ensures ∙ ap (λ k. slice_index_or formula.clauses k []) back))
    (clause_literals formula.vars formula.clauses place [] within c.formula_law.ensures.literals small)

pub clauses-preserved : goal.clauses-preserved
clauses-preserved c key =
    let clauses = c.args.formula.now.clauses in
    let place = c.clauses.place in
    let small : place < length clauses = omega (arith, c.clauses-test.true, c.len-place-end.ensures) in
    let clause = slice_index_or clauses place [] in
    let back : place + 1 - 1 ≡ place = omega arith in
    let at : c.clause.result.now ≡ clause = c.clause.ensures ∙ ap (λ k. slice_index_or clauses k []) back in
    let count : 1 + length (take place clauses) ≡ place + 1 = omega (arith, length-take-le place clauses (omega (arith, small))) in
    c.in_ok-enter_clause.ensures key
    ∙ (λ i. option_or (c.clauses.invariant key i) (first_under (sym count i) (at i ∷ []) key))
    ∙ sym (ap (λ (l : List (List ℤ)). first_under 1 l key) (take_more clauses place [] small)
    ∙ first_more 1 (take place clauses) clause key)

pub returns : goal.returns
returns c key =
    let clauses = c.args.formula.now.clauses in
    c.clauses.invariant key
    ∙ ap (λ (l : List (List ℤ)). first_under 1 l key) (take_all c.clauses.place clauses
    (omega (arith, c.clauses-test.false, c.len-place-end.ensures)))
