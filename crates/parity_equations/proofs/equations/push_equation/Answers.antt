-- What is left to show of `push_equation`.
use Rattle.std.proofs.Common.{◌≡◌, ◌∙◌, ◌++◌, true, false, ℕ, List, [], ◌∷◌, map, ap, sym, subst}
use Rattle.std.specs.List.{All}
use Rattle.std.proofs.lemmas.List.{append-nil, map-append}
use Rattle.parity_equations.specs.declared.equations.Equation.{Equation}
use Rattle.parity_equations.specs.Walk.{IsEquationOf, listed}
use Rattle.parity_equations.proofs.Walked.{all_more, equation_of, found_more, had, not_had, of_none, of_some}
use Rattle.parity_equations.proofs.equations.push_equation.Goals as goal

pub returns-in_default-clause-listed : goal.returns-in_default-clause-listed
returns-in_default-clause-listed c clauses is =
    sym (append-nil (map listed c.args.found.now.items))
    ∙ found_more (map listed c.args.found.now.items) (c.args.variables.now, c.args.bit) false _
    (not_had clauses c.args.index.now is c.args.variables.now c.args.bit c.requires.few c.requires.variables
    (of_none _ c.in_ok-known.known c.in_default.is c.in_ok-known.ensures))

pub returns-in_default-clause-each : goal.returns-in_default-clause-each
returns-in_default-clause-each c vars clauses is some rising all = all

pub returns-clause-listed : goal.returns-clause-listed
returns-clause-listed c clauses is =
    let old = c.args.found.now.items in
    let own : c.extend_from_slice.new.self.items ≡ c.args.variables.now = c.in_ok-extend_from_slice.ensures.items
    ∙ ap (λ (l : List ℕ). l ++ c.args.variables.now) c.new-own.ensures.items in
    let has = had clauses c.args.index.now is c.args.variables.now c.args.bit c.requires.few c.requires.variables c.in-Some.clauses.items
    (of_some _ _ c.in_ok-known.known c.in-Some.clauses c.in-Some.is c.in_ok-known.ensures) in
    ap (λ (l : List Equation). map listed l) c.in_ok-push.ensures.items
    ∙ map-append listed old _
    ∙ (λ i. map listed old ++ (own i, c.args.bit) ∷ [])
    ∙ found_more (map listed old) (c.args.variables.now, c.args.bit) true _ has.0

pub returns-clause-each : goal.returns-clause-each
returns-clause-each c vars clauses is some rising all =
    let own : c.extend_from_slice.new.self.items ≡ c.args.variables.now = c.in_ok-extend_from_slice.ensures.items
    ∙ ap (λ (l : List ℕ). l ++ c.args.variables.now) c.new-own.ensures.items in
    let has = had clauses c.args.index.now is c.args.variables.now c.args.bit c.requires.few c.requires.variables c.in-Some.clauses.items
    (of_some _ _ c.in_ok-known.known c.in-Some.clauses c.in-Some.is c.in_ok-known.ensures) in
    subst (λ (l : List Equation). All (IsEquationOf vars clauses) l) (sym c.in_ok-push.ensures.items)
    (all_more (IsEquationOf vars clauses) c.args.found.now.items _ all
    (equation_of vars clauses _ c.args.variables.now own some rising has))
