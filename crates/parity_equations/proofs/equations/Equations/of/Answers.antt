-- What is left to show of `of`.
use Rattle.std.proofs.Common.{◌≡◌, ◌∙◌, ◌+◌, ◌-◌, ◌++◌, ◌<◌, ◌^◌, ℤ, List, [], ◌∷◌, All, length, drop, map, ap, sym, subst, arith}
use Rattle.std.specs.Prelude.{IsTrue, slice_index_or}
use Rattle.std.specs.List.{flat_map, list_all}
use Rattle.std.proofs.lemmas.List.{append-nil, drop_all, drop_more}
use Rattle.cnf_base.specs.Truth.{is_literal_of}
use Rattle.parity_equations.specs.declared.equations.Equation.{Equation}
use Rattle.parity_equations.specs.Equations.{equations_over, sets_but}
use Rattle.parity_equations.specs.LiteralSet.{AreLiterals}
use Rattle.parity_equations.specs.Walk.{IsEquationOf, IsIndexOf, listed, sets_of}
use Rattle.parity_equations.proofs.Walked.{clause_literals, none_zero, over_at}
use Rattle.parity_equations.proofs.equations.Equations.of.Goals as goal

pub take_clause-requires : goal.take_clause-requires
take_clause-requires c =
    let formula = c.args.formula.now in
    let place = c.clauses.place in
    let small : place < length formula.clauses = omega (arith, c.clauses-test.true, c.len-place-end.ensures) in
    let within : formula.vars < 2 ^ 31 = omega (arith, c.formula_law.ensures.vars) in
    let back : place + 1 - 1 ≡ place = omega arith in
    subst AreLiterals (sym (c.clause.ensures ∙ ap (λ k. slice_index_or formula.clauses k []) back))
    (clause_literals formula.vars formula.clauses place [] within c.formula_law.ensures.literals small)

pub clauses-init : goal.clauses-init
clauses-init c =
    let formula = c.args.formula.now in
    record {
      listed = (λ i. map listed (c.new-list.ensures.items i) ++ flat_map (equations_over formula.clauses)
          (sets_but (map (λ variables. variables.items) (c.new-seen.ensures.empty i)) formula.clauses));
      each = subst (λ (l : List Equation). All (IsEquationOf formula.vars formula.clauses) l) (sym c.new-list.ensures.items)
          (λ k d small. absurd (omega (arith, small)));
    }

pub clauses-preserved : goal.clauses-preserved
clauses-preserved c =
    let formula = c.args.formula.now in
    let clauses = formula.clauses in
    let place = c.clauses.place in
    let small : place < length clauses = omega (arith, c.clauses-test.true, c.len-place-end.ensures) in
    let back : place + 1 - 1 ≡ place = omega arith in
    let at : c.clause.result.now ≡ slice_index_or clauses place [] = c.clause.ensures ∙ ap (λ k. slice_index_or clauses k []) back in
    let is : IsIndexOf clauses c.in_ok-index.index = record {
      each = c.in_ok-index.ensures;
      nonzero = none_zero formula.vars clauses c.formula_law.ensures.literals;
    } in
    let takes = c.in_ok-take_clause.ensures clauses is in
    let before = sets_of c.clauses.seen in
    record {
      listed = takes.walked (drop (place + 1) clauses)
          ∙ (λ i. map listed c.clauses.list.items ++ flat_map (equations_over clauses)
          (sets_but before ((ap (λ (one : List ℤ). one ∷ drop (place + 1) clauses) at ∙ sym (drop_more clauses place [] small)) i)))
          ∙ c.clauses.invariant.listed;
      each = takes.kept formula.vars
          (subst (λ (one : List ℤ). IsTrue (list_all (is_literal_of formula.vars) one)) (sym at)
          (over_at formula.vars clauses place [] c.formula_law.ensures.literals small)) c.clauses.invariant.each;
    }

pub returns-clause-listed : goal.returns-clause-listed
returns-clause-listed c =
    let clauses = c.args.formula.now.clauses in
    let end : drop c.clauses.place clauses ≡ [] = drop_all c.clauses.place clauses
    (omega (arith, c.clauses-test.false, c.len-place-end.ensures)) in
    sym (append-nil (map listed c.clauses.list.items))
    ∙ sym (λ i. map listed c.clauses.list.items ++ flat_map (equations_over clauses) (sets_but (sets_of c.clauses.seen) (end i)))
    ∙ c.clauses.invariant.listed

pub returns-clause-each : goal.returns-clause-each
returns-clause-each c = c.clauses.invariant.each
