-- What is left to show of `push_square`.
use Rattle.std.proofs.Common.{◌≡◌, ℕ, ℤ, ◌-◌, ◌<◌, ◌≤◌, ◌∷◌, [], ◌++◌, List, length, ap, sym, ◌∙◌, append_assoc, subst, All, Ok, Err}
use Rattle.std.specs.Prelude.{OnOk}
use Rattle.workload.specs.declared.square.Square.{Square}
use Rattle.workload.specs.declared.square.Domino.TheVariants.{Across, Down}
use Rattle.workload.specs.Board.{square, dominoes, numbers, one_of, no_two_of, square_clauses}
use Rattle.workload.proofs.Clauses.{numbers_within}
use Rattle.workload.proofs.formula.push_square.Goals as goal

pub push_one_of-requires-clause-variables : goal.push_one_of-requires-clause-variables
push_one_of-requires-clause-variables c =
    let s : Square = square c.args.row c.args.column in
    let is : c.as_slice.result.now ≡ numbers c.args.n s = c.as_slice.ensures.value ∙ c.covering-numbers.ensures in
    subst (λ (vars : ℕ). All (λ x. (0 < x) × (x ≤ vars)) c.as_slice.result.now) (sym c.requires.vars)
    (subst (λ l. All (λ x. (0 < x) × (x ≤ length (dominoes c.args.n))) l) (sym is)
    (numbers_within c.args.n (Down (square (s.row - 1) s.column) ∷ Across (square s.row (s.column - 1)) ∷ Across s ∷ Down s ∷ [])))

pub push_no_two_of-requires-clause-variables : goal.push_no_two_of-requires-clause-variables
push_no_two_of-requires-clause-variables c =
    let s : Square = square c.args.row c.args.column in
    let is : c.as_slice-2.result.now ≡ numbers c.args.n s = c.as_slice-2.ensures.value ∙ c.covering-numbers.ensures in
    subst (λ (vars : ℕ). All (λ x. (0 < x) × (x ≤ vars)) c.as_slice-2.result.now)
    (sym (ap (λ d. d.vars) c.in_ok-push_one_of.ensures ∙ c.requires.vars))
    (subst (λ l. All (λ x. (0 < x) × (x ≤ length (dominoes c.args.n))) l) (sym is)
    (numbers_within c.args.n (Down (square (s.row - 1) s.column) ∷ Across (square s.row (s.column - 1)) ∷ Across s ∷ Down s ∷ [])))

pub returns-clause-ok : goal.returns-clause-ok
unfolding square_clauses
returns-clause-ok c =
    let s : Square = square c.args.row c.args.column in
    let first : one_of c.as_slice.result.now ≡ one_of (numbers c.args.n s) = ap one_of (c.as_slice.ensures.value
    ∙ c.covering-numbers.ensures) in
    let more : no_two_of c.as_slice-2.result.now ≡ no_two_of (numbers c.args.n s) = ap no_two_of (c.as_slice-2.ensures.value
    ∙ c.covering-numbers.ensures) in
    let old : List (List ℤ) = c.args.builder.now.clauses in
    let clauses : c.push_one_of.new.builder.clauses ++ no_two_of c.as_slice-2.result.now ≡ old
    ++ (one_of (numbers c.args.n s) ∷ no_two_of (numbers c.args.n s)) =
    (λ i. ap (λ d. d.clauses) c.in_ok-push_one_of.ensures i ++ more i)
    ∙ append_assoc old (one_of c.as_slice.result.now ∷ []) (no_two_of (numbers c.args.n s))
    ∙ ap (λ l. old ++ (l ∷ no_two_of (numbers c.args.n s))) first in
    elim c.push_no_two_of.result as (λ r. OnOk r (c.push_no_two_of.new.builder
    ≡ record c.push_one_of.new.builder { clauses = c.push_one_of.new.builder.clauses ++ no_two_of c.as_slice-2.result.now })
    → OnOk r (c.push_no_two_of.new.builder ≡ record c.args.builder.now {
      clauses = old
          ++ (one_of (numbers c.args.n s) ∷ no_two_of (numbers c.args.n s));
    })) [
      | Ok u ↦ λ is. is ∙ (λ i. record {
        vars = ap (λ d. d.vars) c.in_ok-push_one_of.ensures i;
        clauses = clauses i;
        begun = ap (λ d. d.begun) c.in_ok-push_one_of.ensures i;
      })
      | Err e ↦ λ no. no
    ] c.push_no_two_of.ensures
